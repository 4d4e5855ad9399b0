use mathlib.Core.Path.{◌∙◌, sym}
use borrow.Author.Tests.{le-leb, lt-leb}
use Rattle.enter_send.specs.Sending.{send_refusal}
use Rattle.enter_send.proofs.admit.Goals as goal

pub returns-then-not-may_send : goal.returns-then-not-may_send
unfolding send_refusal
returns-then-not-may_send c = rw (sym c.may_send.ensures ∙ c.if-not-may_send.true)

pub returns-then-limit-s : goal.returns-then-limit-s
unfolding send_refusal
returns-then-limit-s c = rw (sym c.may_send.ensures ∙ c.if-not-may_send.false, le-leb _ _ c.if-limit-s.true)

pub returns-then-t-s : goal.returns-then-t-s
unfolding send_refusal
returns-then-t-s c =
    rw (sym c.may_send.ensures ∙ c.if-not-may_send.false, lt-leb _ _ c.if-limit-s.false, le-leb _ _ c.if-t-s.true)

pub returns-then-places-from : goal.returns-then-places-from
unfolding send_refusal
returns-then-places-from c =
    rw (sym c.may_send.ensures ∙ c.if-not-may_send.false, lt-leb _ _ c.if-limit-s.false, lt-leb _ _ c.if-t-s.false, ← c.places.ensures.0, ← c.from.ensures, le-leb _ _ c.if-places-from.true)

pub returns : goal.returns
unfolding send_refusal
returns c =
    rw (sym c.may_send.ensures ∙ c.if-not-may_send.false, lt-leb _ _ c.if-limit-s.false, lt-leb _ _ c.if-t-s.false, ← c.places.ensures.0, ← c.from.ensures, lt-leb _ _ c.if-places-from.false)
