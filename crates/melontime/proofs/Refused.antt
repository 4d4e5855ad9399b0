-- A refused call leaves all that it was lent, byte for byte: the steps on an area, and every call that writes. Assumes nothing.
use Prim.Native.Nat.{ℕ, ◌<◌}
use native.Mathlib.Omega.{arith}
use mathlib.Core.Path.{◌≡◌, refl, ap, ◌∙◌}
use mathlib.Core.List.{List}
use mathlib.Core.Bool.{Bool, true, false, cond, ◌||◌}
use lib.Dec.{eqb, ltb}
use lib.ListN.{length}
use Rattle.codec.specs.Num.{AreBytes}
use Rattle.codec.specs.Written.{refused as refused_with, wrote}
use Rattle.header.specs.Header.{header_fits, well_made_header, write_header}
use Rattle.header.specs.declared.Header.{Header}
use Rattle.entries.specs.Entries.{well_made_entries, count_of, entries_fit, write_entries, read_record}
use Rattle.archive.specs.Archive.{find_record}
use Rattle.events.specs.Events.{event_at}
use Rattle.concurrent.specs.Unordered.{unordered_answer, list_after}
use Rattle.std.specs.Prelude.{Result, Ok, Err}
use Rattle.refusals.specs.declared.Refusal.{Refusal}
use Rattle.reset.specs.Config.{network_rules}
use Rattle.reset.specs.Steps.{Step, Answer, refused, entry, mode_after, step}
use Rattle.reset.proofs.StepLaws.{refused-leaves}
use Rattle.rules.specs.Setup.{block_config}
use Rattle.area.specs.Layout.{image, config_at, state_at, test}
use Rattle.area.proofs.Exact.{formed}
use Rattle.area_calls.specs.Calls.{AreaStep, imaged, setup_on, step_on}
use Rattle.host_numbers.specs.Numbers.{tells, record_length, fields_length, area_length, entry_made, step_number, counted_number}
use Rattle.melontime.specs.Calls.{HostStep, record_after, host_step}
use Rattle.host_numbers.specs.Headers.{fields_fit, header_given, header_written, header_fields}
use Rattle.melontime.specs.Archives.{record_found, HostList}
use Rattle.melontime.specs.Refused.{LeavesRefused, RefusedLeaves}
use Rattle.host_numbers.proofs.Tests.{by_test}

-- ---- over the tests that refuse
-- a refusal leaves the buffer; what was written was not refused
kept : {d : List ℕ} {k : ℕ} → LeavesRefused d (refused_with k d)
kept h = refl

done : {d x : List ℕ} → LeavesRefused d (wrote x)
done h = absurd (h refl)

-- a buffer of that length at least
roomy : (d : List ℕ) (n k : ℕ) (x : List ℕ) → LeavesRefused d (cond (ltb (length d) n) (refused_with k d) (wrote x))
roomy d n k x = by_test (LeavesRefused d) (ltb (length d) n) kept done

-- ---- the steps
step_leaves : (p : Step) (a : List ℕ) → AreBytes a → (k : ℕ) → (step_on p a).answer ≡ refused k → (step_on p a).area ≡ a
unfolding step_on
step_leaves p a b k h = go (test a) refl h
  where
    Out : Bool → AreaStep
    Out t = cond t (imaged (config_at a) (step (config_at a) (state_at a) p)) (record { answer = refused 2; area = a })

    go : (t : Bool) → test a ≡ t → (Out t).answer ≡ refused k → (Out t).area ≡ a
    go true w e = ap (image (config_at a)) (refused-leaves (config_at a) (state_at a) p k e) ∙ formed a b w
    go false w e = refl

both_leave : (p : Step) (a d : List ℕ) → AreBytes a → (host_step p a d).number < entry_made → ((host_step p a d).area ≡ a) × ((host_step p a d).event ≡ d)
unfolding host_step
both_leave p a d b = by_test (λ (o : HostStep). o.number < entry_made → (o.area ≡ a) × (o.event ≡ d)) (eqb (length d) record_length) (λ l. by (step_on p a).answer refl l) (λ l. (refl, refl))
  where
    by : (r : Answer) → (step_on p a).answer ≡ r → step_number r < entry_made → ((step_on p a).area ≡ a) × (record_after d r ≡ d)
    by (refused k) e l = (step_leaves p a b k e, refl)
    by (entry x) e l = absurd (omega arith)
    by (mode_after i m q) e l = absurd (omega arith)

list_leaves : (a : List ℕ) (k : ℕ) (before after : List ℕ) (r : ℕ) → HostList a k before after r → r < tells → after ≡ before
list_leaves a k before after r q l = go (unordered_answer a k (length before)) q.number q.leaves
  where
    go : (x : Result ℕ Refusal) → r ≡ counted_number x → after ≡ list_after a (event_at a k) before x → after ≡ before
    go (Ok n) e h = absurd (omega arith)
    go (Err x) e h = h

header-leaves : (h : Header) (m : List (List ℕ)) (d : List ℕ) → LeavesRefused d (write_header h m d)
unfolding write_header
header-leaves h m d = by_test (LeavesRefused d) (header_fits h m) (roomy d 512 11 _) kept

pub refused-leaves_all : RefusedLeaves
unfolding setup_on write_entries read_record header_written header_fields record_found
refused-leaves_all =
    record {
      step_area = step_leaves;
      step_both = both_leave;
      setup = λ block a. by_test (LeavesRefused a) (eqb (length a) 65536) (by_test (LeavesRefused a) (well_made_header block) (by_test (LeavesRefused a) (network_rules (block_config block)) done kept) kept) kept;
      header_write = header-leaves;
      entries_write = λ number rs d. by_test (LeavesRefused d) (eqb (length rs) 0 || ltb 480 (length rs)) kept (by_test (LeavesRefused d) (entries_fit number rs) (roomy d 512 11 _) kept);
      record_read = λ block k d. by_test (LeavesRefused d) (well_made_entries block) (by_test (LeavesRefused d) (ltb k (count_of block)) (roomy d 32 11 _) kept) kept;
      host_header_write = λ n t x m d. by_test (LeavesRefused d) (fields_fit n t x m) (header-leaves (header_given n t x) _ d) kept;
      host_header_read = λ block d. by_test (LeavesRefused d) (well_made_header block) (roomy d fields_length area_length _) kept;
      host_record_found = λ a k d. by_test (LeavesRefused d) (eqb (find_record a k) 0) (roomy d record_length area_length _) kept;
      unordered_list_lem = list_leaves;
    }
