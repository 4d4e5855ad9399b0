-- What making, opening and handing back a record come to, case by case. Assumes nothing.
use Prim.Native.Nat.{ℕ, ◌+◌, ◌/◌, ◌≤◌, ◌<◌}
use mathlib.Core.Path.{◌≡◌, refl}
use mathlib.Core.Logic.{◌≢◌}
use mathlib.Core.List.{List, []}
use mathlib.Core.Bool.{true, false}
use native.Mathlib.Omega.{arith}
use lib.ListN.{length}
use borrow.Author.Tests.{le-ltb}
use Rattle.std.proofs.Common.{Result, Ok, Err}
use Rattle.std.specs.Result.{IfOk, IfErr, result_ok}
use Rattle.refusals.specs.declared.Refusal.{Refusal}
use Rattle.refusals.specs.declared.Refusal.TheVariants.{Malformed}
use Rattle.archive.specs.Archive.{records, record_at, archive_test}
use Rattle.archive.specs.declared.Archive.{Archive}
use Rattle.reader.specs.Reading.{tested_part, bytes_of, held, standing, opened}
use Rattle.reader.specs.declared.Reader.{Reader}
use Rattle.reader.proofs.Laws.{open_nothing, open_goes, open_stays}

-- the bytes that a new reader holds
pub held_first : (b : List ℕ) (x : Result Archive Refusal) → IfOk x (λ a. a.bytes.now ≡ b) → IfErr x (λ r. (r ≡ Malformed) × (archive_test b ≡ false)) → bytes_of (result_ok x) ≡ tested_part b
unfolding tested_part
held_first b (Ok a) h g = let e : archive_test b ≡ true = rw h at a.tested in rw (h, e)
held_first b (Err r) h g = rw g.1

module _ (r : Reader) (k : ℕ) where
  pub opened_nothing : length (held r) ≡ 0 → (1 ≡ (opened r k).refusal) × (r ≡ standing r (opened r k))
  opened_nothing h = rw (open_nothing (held r) k r.at h) (refl, refl)

  pub opened_past : length (held r) ≢ 0 → records (held r) ≤ k → (12 ≡ (opened r k).refusal) × (r ≡ standing r (opened r k))
  opened_past d h = rw (open_stays (held r) k r.at d h) (refl, refl)

  pub opened_there : k < records (held r) → (0 ≡ (opened r k).refusal) × (◌≡◌ {A = Reader} (record { archive = r.archive; at = k }) (standing r (opened r k)))
  opened_there h = rw (open_goes (held r) k r.at h) (refl, refl)

-- no bytes have no record
pub record_nothing : (k : ℕ) → record_at [] k ≡ []
unfolding record_at
record_nothing k = let h : 0 / 512 ≤ k / 15 + 1 = omega arith in rw (le-ltb _ _ h)
