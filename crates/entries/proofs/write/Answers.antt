use mathlib.Core.Path.{refl, ◌∙◌, sym}
use native.Mathlib.Omega.{arith}
use borrow.Author.Tests.{le-ltb}
use Rattle.codec.proofs.SpliceLaws.{lent}
use Rattle.entries.specs.Entries.{image_entries, write_entries}
use Rattle.entries.proofs.Laws.{image-length}
use Rattle.entries.proofs.write.Goals as goal

pub returns : goal.returns
unfolding write_entries
returns c =
    let a = c.args in
    let n = image-length a.number a.rs.now (omega arith) in
    rw (sym c.is_empty.ensures ∙ c.if-is_empty.false, le-ltb 480 _ c.if-rs-gt480.false, sym c.entries_fit.ensures ∙ c.if-not-entries_fit.false, le-ltb _ 512 c.if-d-lt-BLOCK.false)
    (refl, lent a.d.now c.store.new.d (image_entries a.number a.rs.now) 0 512 c.store.ensures (omega arith))
