use Prim.Native.Nat.{ℕ, ◌+◌, ◌*◌, ◌-◌}
use mathlib.Core.Path.{◌≡◌}
use mathlib.Core.List.{List}
use native.Mathlib.Omega.{arith}
use lib.ListN.{take, drop}
use Rattle.record.specs.Record.{parse_record}
use Rattle.record.specs.declared.Record.{Record}
use Rattle.fetch.specs.Fetch.{copy_at}
use Rattle.sheet.specs.Sheet.{event_of}
use Rattle.sheet.proofs.Copies.event.Goals as goal

-- what is read at copy i
read : (d : List ℕ) (i : ℕ) (r : Record) → r ≡ parse_record (take (i * 32 + 32 - i * 32) (drop (i * 32) d)) → r ≡ event_of d i
unfolding event_of copy_at
read d i r h = let e : i * 32 + 32 - i * 32 ≡ 32 = omega arith in rw e at h

pub overflow_mul-o : goal.overflow_mul-o
overflow_mul-o c = omega (arith, c.args.self.sound.long)

pub invariant_of-result-clause-known : goal.invariant_of-result-clause-known
invariant_of-result-clause-known c = rw (read c.args.self.bytes.now c.args.i _ c.load-record.ensures) (c.args.self.sound.station c.args.i c.requires)

pub invariant_of-result-clause-counted : goal.invariant_of-result-clause-counted
invariant_of-result-clause-counted c = rw (read c.args.self.bytes.now c.args.i _ c.load-record.ensures) (c.args.self.sound.own c.args.i c.requires)

pub returns : goal.returns
returns c = read c.args.self.bytes.now c.args.i _ c.load-record.ensures
