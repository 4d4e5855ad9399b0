use Prim.Native.Nat.{ℕ, ◌+◌, ◌*◌, ◌-◌}
use mathlib.Core.Path.{◌≡◌, ◌∙◌}
use native.Mathlib.Omega.{arith}
use Rattle.codec.specs.Every.{every}
use Rattle.record.specs.Record.{well_made_record}
use Rattle.entries.specs.Entries.{record_of, body_fits}
use Rattle.entries.proofs.Laws.{records_part}
use Rattle.entries.proofs.body_fits.Goals as goal

pub returns : goal.returns
unfolding body_fits
returns c =
    let count = c.args.count in
    let l = c.args.s.now in
    let e : c.start_of-end.result + 32 - 16 ≡ count * 32 = omega (arith, c.start_of-end.ensures) in
    let r : c.records_fit.result ≡ every count (λ (k : ℕ). well_made_record (record_of l k)) = (rw e at c.records_fit.ensures) ∙ records_part l count in
    rw (r, c.tail_fits.ensures)
