use Prim.Native.Nat.{ℕ, ◌-◌, ◌≤◌}
use mathlib.Core.Path.{◌≡◌}
use mathlib.Core.List.{List}
use lib.ListN.{length}
use Rattle.archive.specs.Archive.{blocks}
use Rattle.fetch.specs.Fetch.{fetched_below}
use Rattle.fetch.proofs.collect_all.Given as goal

-- the steps on the blocks below b are done
pub record Fetched (a l d : List ℕ) (b count : ℕ) (copies : List ℕ) : Type 0 where
  pub below : b ≤ blocks a
  pub few : count ≤ b
  pub long : length copies ≡ length d
  pub is : fetched_below a l d b ≡ record { count = count; copies = copies }

abbrev pub invariant-loop-b : goal.invariant-loop-b
invariant-loop-b l = Fetched l.archive.bytes.now l.numbers l.initial.copies l.from l.count l.copies

abbrev pub decreases-loop-b : goal.decreases-loop-b
decreases-loop-b l = l.blocks - l.from
