use native.Mathlib.Nat.{add-zero}
use Rattle.codec.specs.Rows.{upto}
use Rattle.header.proofs.bytes_at.Goals as goal

pub returns : goal.returns
unfolding upto
returns c = rw add-zero
