use mathlib.Core.Path.{◌∙◌}
use Rattle.decimal.specs.Ascii.{ascii}
use Rattle.turnover_input.specs.Parse.{parse_of}
use Rattle.turnover_input.proofs.StartLaws.{begins}
use Rattle.turnover_input.proofs.TextLaws.{both_ways_lem}
use Rattle.turnover_input.proofs.command.parse.Goals as goal

pub returns-in-Some : goal.returns-in-Some
unfolding parse_of
returns-in-Some c =
    let l = c.args.line.now in
    let b = both_ways_lem l _ (c.net.ensures ∙ rw (← begins (ascii "net ") l, c.in-Some.ensures.cases.0, ← c.in-Some.ensures.cases.1)) in
    record { value = b.0; means = b.1 }

pub returns-in-Some-strip_prefix : goal.returns-in-Some-strip_prefix
unfolding parse_of
returns-in-Some-strip_prefix c =
    let l = c.args.line.now in
    let b = both_ways_lem l _ (c.allow.ensures ∙ rw (← begins (ascii "net ") l, c.in_default.ensures.cases, ← begins (ascii "allow ") l, c.in-Some-strip_prefix.ensures.cases.0, ← c.in-Some-strip_prefix.ensures.cases.1)) in
    record { value = b.0; means = b.1 }

pub returns-in-Some-strip_prefix-2 : goal.returns-in-Some-strip_prefix-2
unfolding parse_of
returns-in-Some-strip_prefix-2 c =
    let l = c.args.line.now in
    let b = both_ways_lem l _ (c.link.ensures ∙ rw (← begins (ascii "net ") l, c.in_default.ensures.cases, ← begins (ascii "allow ") l, c.in_default-strip_prefix.ensures.cases, ← begins (ascii "link ") l, c.in-Some-strip_prefix-2.ensures.cases.0, ← c.in-Some-strip_prefix-2.ensures.cases.1)) in
    record { value = b.0; means = b.1 }

pub returns-in-Some-strip_prefix-3 : goal.returns-in-Some-strip_prefix-3
unfolding parse_of
returns-in-Some-strip_prefix-3 c =
    let l = c.args.line.now in
    let b = both_ways_lem l _ (c.enter.ensures ∙ rw (← begins (ascii "net ") l, c.in_default.ensures.cases, ← begins (ascii "allow ") l, c.in_default-strip_prefix.ensures.cases, ← begins (ascii "link ") l, c.in_default-strip_prefix-2.ensures.cases, ← begins (ascii "enter ") l, c.in-Some-strip_prefix-3.ensures.cases.0, ← c.in-Some-strip_prefix-3.ensures.cases.1)) in
    record { value = b.0; means = b.1 }

pub returns-in-Some-strip_prefix-4 : goal.returns-in-Some-strip_prefix-4
unfolding parse_of
returns-in-Some-strip_prefix-4 c =
    let l = c.args.line.now in
    let b = both_ways_lem l _ (c.send.ensures ∙ rw (← begins (ascii "net ") l, c.in_default.ensures.cases, ← begins (ascii "allow ") l, c.in_default-strip_prefix.ensures.cases, ← begins (ascii "link ") l, c.in_default-strip_prefix-2.ensures.cases, ← begins (ascii "enter ") l, c.in_default-strip_prefix-3.ensures.cases, ← begins (ascii "send ") l, c.in-Some-strip_prefix-4.ensures.cases.0, ← c.in-Some-strip_prefix-4.ensures.cases.1)) in
    record { value = b.0; means = b.1 }

pub returns-in-Some-strip_prefix-5 : goal.returns-in-Some-strip_prefix-5
unfolding parse_of
returns-in-Some-strip_prefix-5 c =
    let l = c.args.line.now in
    let b = both_ways_lem l _ (c.recv.ensures ∙ rw (← begins (ascii "net ") l, c.in_default.ensures.cases, ← begins (ascii "allow ") l, c.in_default-strip_prefix.ensures.cases, ← begins (ascii "link ") l, c.in_default-strip_prefix-2.ensures.cases, ← begins (ascii "enter ") l, c.in_default-strip_prefix-3.ensures.cases, ← begins (ascii "send ") l, c.in_default-strip_prefix-4.ensures.cases, ← begins (ascii "recv ") l, c.in-Some-strip_prefix-5.ensures.cases.0, ← c.in-Some-strip_prefix-5.ensures.cases.1)) in
    record { value = b.0; means = b.1 }

pub returns-in-Some-strip_prefix-6 : goal.returns-in-Some-strip_prefix-6
unfolding parse_of
returns-in-Some-strip_prefix-6 c =
    let l = c.args.line.now in
    let b = both_ways_lem l _ (c.start.ensures ∙ rw (← begins (ascii "net ") l, c.in_default.ensures.cases, ← begins (ascii "allow ") l, c.in_default-strip_prefix.ensures.cases, ← begins (ascii "link ") l, c.in_default-strip_prefix-2.ensures.cases, ← begins (ascii "enter ") l, c.in_default-strip_prefix-3.ensures.cases, ← begins (ascii "send ") l, c.in_default-strip_prefix-4.ensures.cases, ← begins (ascii "recv ") l, c.in_default-strip_prefix-5.ensures.cases, ← begins (ascii "start ") l, c.in-Some-strip_prefix-6.ensures.cases.0, ← c.in-Some-strip_prefix-6.ensures.cases.1)) in
    record { value = b.0; means = b.1 }

pub returns : goal.returns
unfolding parse_of
returns c =
    let l = c.args.line.now in
    let b = both_ways_lem l _ (rw (← begins (ascii "net ") l, c.in_default.ensures.cases, ← begins (ascii "allow ") l, c.in_default-strip_prefix.ensures.cases, ← begins (ascii "link ") l, c.in_default-strip_prefix-2.ensures.cases, ← begins (ascii "enter ") l, c.in_default-strip_prefix-3.ensures.cases, ← begins (ascii "send ") l, c.in_default-strip_prefix-4.ensures.cases, ← begins (ascii "recv ") l, c.in_default-strip_prefix-5.ensures.cases, ← begins (ascii "start ") l, c.in_default-strip_prefix-6.ensures.cases)) in
    record { value = b.0; means = b.1 }
