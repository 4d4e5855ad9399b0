use Prim.Native.Nat.{ℕ, ◌+◌, ◌≤◌}
use mathlib.Core.Path.{◌≡◌}
use mathlib.Core.Bool.{true}
use lib.Dec.{eqb}
use Rattle.codec.specs.Every.{every}
use Rattle.header.specs.Header.{parse_header, table_at}
use Rattle.block_test.specs.BlockTest.{block_fits}
use Rattle.archive.specs.Archive.{block_of}
use Rattle.archive.proofs.blocks_fit.Given as goal

abbrev pub invariant-loop-b : goal.invariant-loop-b
invariant-loop-b l = (l.b ≤ l.n) × (every l.b (λ (m : ℕ). block_fits (parse_header l.allowed.head.now) (table_at 8 l.allowed.head.now 32) (m + 1) (eqb (m + 1) l.n) (block_of l.a m)) ≡ true)
