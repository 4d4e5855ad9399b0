use Prim.Native.Nat.{◌+◌, ◌*◌, ◌-◌, ◌≤◌, ◌<◌}
use mathlib.Core.Path.{◌≡◌}
use lib.ListN.{length}
use Rattle.well_kept.specs.Keys.{no_key}
use Rattle.well_kept.specs.Windows.{Checked}
use Rattle.well_kept.proofs.windows_kept.Given as goal

abbrev pub invariant-loop-lo : goal.invariant-loop-lo
invariant-loop-lo l = (l.lo < no_key) × (1 ≤ l.span) × (l.span ≤ no_key) × (length l.list ≡ l.places) × Checked l.archive.bytes.now l.lo l.last

-- the next window starts later, or is narrower
abbrev pub decreases-loop-lo : goal.decreases-loop-lo
decreases-loop-lo l = (1099511627776 - l.lo) * 2199023255552 + l.span
