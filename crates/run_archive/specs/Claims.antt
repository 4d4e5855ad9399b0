-- What is claimed of the archive that the writers make of all accepted entries of a list of steps, from the initial network and over areas. Assumes nothing.
use Rattle.std.specs.Prelude.{ℕ, ◌+◌, ◌≤◌, ◌<◌, ◌≡◌, ◌≢◌, ◌↔◌, true, length, Ok}
use mathlib.Core.List.{List, Memᴰ}
use Rattle.codec.specs.Num.{AreBytes}
use Rattle.codec.specs.Splice.{splice}
use Rattle.codec.specs.Written.{wrote}
use Rattle.clock.specs.declared.Verdict.TheVariants.{Before, After, Same, Unordered}
use Rattle.record.specs.Record.{record_fits}
use Rattle.record.proofs.Laws.{Typed}
use Rattle.header.specs.Header.{image_header, write_header}
use Rattle.entries.specs.Entries.{write_entries}
use Rattle.block_test.specs.BlockTest.{record_known}
use Rattle.archive.specs.Archive.{archive_test, records, record_at}
use Rattle.concurrent.specs.Unordered.{is_unordered, unordered_list}
use Rattle.well_kept.specs.WellKept.{well_kept}
use Rattle.phase_order.specs.ByNumber.{order_of}
use Rattle.reset.specs.Config.{Config, well_made, network_rules}
use Rattle.reset.specs.Clock.{vector}
use Rattle.reset.specs.Steps.{Step, Entry}
use Rattle.reset.specs.Network.{initial, log}
use Rattle.reset.specs.WellFormed.{StepsFit}
use Rattle.rules.specs.Setup.{block_config, header_of}
use Rattle.causality.specs.HappenedBefore.{Accepted, accepted, entry_at, phase_of, HappenedBefore}
use Rattle.area_calls.specs.Calls.{setup_on}
use Rattle.area_calls.specs.Sound.{log_on}
use Rattle.step_parts.specs.Answers.{event_record}
use Rattle.run_archive.specs.Made.{bytes_of_entry, block_records, made_block, blocks_for, archive_of}

-- the accepted entries of a list of steps from the initial network
abbrev pub entries_of : Config → List Step → List Accepted
entries_of c ps = accepted (log c (initial vector c) ps)

-- ---- the records: of a record's types, each field in range, and nothing named that the header lacks
pub record InRange (c : Config) (e : Entry) : Type 0 where
  pub fits : record_fits (event_record e) ≡ true
  pub typed : Typed (event_record e)
  pub known : record_known (header_of c) c.limits (event_record e) ≡ true

-- ---- the archive: the writers accept what it is made of, the test accepts it, and record k is entry k's
pub record Archived (c : Config) (E : List Accepted) : Type 0 where
  pub header_written_lem : (d : List ℕ) → 512 ≤ length d → write_header (header_of c) c.limits d ≡ wrote (splice d 0 (image_header (header_of c) c.limits))
  pub block_written : (b : ℕ) → b < blocks_for (length E) → (d : List ℕ) → 512 ≤ length d → write_entries (b + 1) (block_records E b) d ≡ wrote (splice d 0 (made_block E b))
  pub tested : archive_test (archive_of c E) ≡ true
  pub many : records (archive_of c E) ≡ length E
  pub found : (k : ℕ) → k < length E → record_at (archive_of c E) k ≡ bytes_of_entry (entry_at E k)

-- ---- the order: two different entries, of which neither happened before the other
abbrev pub Apart : List Accepted → ℕ → ℕ → Type 0
Apart E x y = (HappenedBefore E x y → ⊥) × (HappenedBefore E y x → ⊥) × (x ≢ y)

-- the verdict by number on two entries, of one phase or of two, is that of happened-before
pub record Verdicts (a : List ℕ) (E : List Accepted) (x y : ℕ) : Type 0 where
  pub before : (order_of a x y ≡ Ok Before) ↔ HappenedBefore E x y
  pub after : (order_of a x y ≡ Ok After) ↔ HappenedBefore E y x
  pub same : (order_of a x y ≡ Ok Same) ↔ (x ≡ y)
  pub unordered : (order_of a x y ≡ Ok Unordered) ↔ Apart E x y

-- entry y is of entry x's phase and apart from it
abbrev pub Beside : List Accepted → ℕ → ℕ → Type 0
Beside E x y = (y < length E) × (phase_of E x ≡ phase_of E y) × Apart E x y

-- the archive is well kept; every two entries have that verdict; and those beside an entry are what the test of unordered records finds, and what its list has
pub record Tells (a : List ℕ) (E : List Accepted) : Type 0 where
  pub kept : well_kept a ≡ true
  pub verdicts : (x y : ℕ) → x < length E → y < length E → Verdicts a E x y
  pub listed : (x y : ℕ) → x < length E → (is_unordered a x y ≡ true) ↔ Beside E x y
  pub lists : (x y : ℕ) → x < length E → Memᴰ y (unordered_list a x) ↔ Beside E x y

-- ---- the claims, for every header that setup accepts and every list of steps whose register numbers fit four bytes
abbrev pub AllInRange : Type 0
AllInRange =
    (c : Config) → well_made c ≡ true → network_rules c ≡ true → (ps : List Step) → StepsFit ps
    → (k : ℕ) → k < length (entries_of c ps) → InRange c (entry_at (entries_of c ps) k).entry

-- as many entries as block numbers of four bytes allow: 15 times 4,294,967,295
abbrev pub EveryArchive : Type 0
EveryArchive =
    (c : Config) → well_made c ≡ true → network_rules c ≡ true → (ps : List Step) → StepsFit ps → length (entries_of c ps) ≤ 64424509425
    → Archived c (entries_of c ps) × Tells (archive_of c (entries_of c ps)) (entries_of c ps)

-- ---- over areas
-- the accepted entries of a list of steps over areas, from setup on
abbrev pub entries_on : List ℕ → List ℕ → List Step → List Accepted
entries_on block a ps = accepted (log_on (setup_on block a).buffer ps)

-- the archive of such entries: its header is the block that setup was given, and both claims hold
pub record Chronicle (block : List ℕ) (E : List Accepted) : Type 0 where
  pub header_is : image_header (header_of (block_config block)) (block_config block).limits ≡ block
  pub archived : Archived (block_config block) E
  pub tells : Tells (archive_of (block_config block) E) E

-- for every header block and area that setup accepts
abbrev pub EveryChronicle : Type 0
EveryChronicle =
    (block a : List ℕ) → AreBytes block → (setup_on block a).answer ≡ 0 → (ps : List Step) → StepsFit ps → length (entries_on block a ps) ≤ 64424509425
    → Chronicle block (entries_on block a ps)
