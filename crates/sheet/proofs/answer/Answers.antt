use mathlib.Core.Path.{sym, ◌∙◌}
use borrow.Author.Tests.{lt-ltb, le-ltb}
use Rattle.std.proofs.lemmas.Result.{err_from_is_err_and}
use Rattle.sheet.specs.Sheet.{sheet_answer}
use Rattle.sheet.proofs.answer.Goals as goal

pub returns-then-numbers-gt-NUMBERS : goal.returns-then-numbers-gt-NUMBERS
unfolding sheet_answer
returns-then-numbers-gt-NUMBERS c = let e = lt-ltb 128 _ c.if-numbers-gt-NUMBERS.true in record { answers = rw e; leaves = rw e }

pub returns-in_err-archive : goal.returns-in_err-archive
unfolding sheet_answer
returns-in_err-archive c =
    let e = le-ltb 128 _ c.if-numbers-gt-NUMBERS.false in
    let p = err_from_is_err_and c.from_residual.result c.from_residual.ensures.1 in
    let t = c.in_err-archive.ensures.err in
    rw (p.1, p.2, t.0) (record { answers = rw (e, t.1); leaves = rw (e, t.1) })

pub returns-then-not-all_named : goal.returns-then-not-all_named
unfolding sheet_answer
returns-then-not-all_named c =
    let e = le-ltb 128 _ c.if-numbers-gt-NUMBERS.false in
    let a = c.in_ok-archive.archive in
    let n = sym c.all_named.ensures ∙ c.if-not-all_named.true in
    rw (← c.in_ok-archive.ensures.ok) (record { answers = rw (e, a.tested, n); leaves = rw (e, a.tested, n) })

pub returns-then-not-test : goal.returns-then-not-test
unfolding sheet_answer
returns-then-not-test c =
    let e = le-ltb 128 _ c.if-numbers-gt-NUMBERS.false in
    let a = c.in_ok-archive.archive in
    let n = sym c.all_named.ensures ∙ c.if-not-all_named.false in
    let k = sym c.test.ensures ∙ c.if-not-test.true in
    rw (← c.in_ok-archive.ensures.ok) (record { answers = rw (e, a.tested, n, k); leaves = rw (e, a.tested, n, k) })

pub returns : goal.returns
unfolding sheet_answer
returns c =
    let e = le-ltb 128 _ c.if-numbers-gt-NUMBERS.false in
    let a = c.in_ok-archive.archive in
    let n = sym c.all_named.ensures ∙ c.if-not-all_named.false in
    let k = sym c.test.ensures ∙ c.if-not-test.false in
    rw (← c.in_ok-archive.ensures.ok) (record { answers = rw (e, a.tested, n, k) c.answer_pairs.ensures.0; leaves = rw (e, a.tested, n, k) c.answer_pairs.ensures.1 })
