-- Bytes that hold a list of entries: as many records, and record k stands for entry k. The archive of entries in range does. Assumes nothing.
use Prim.Native.Nat.{ℕ, ◌<◌}
use mathlib.Core.Path.{◌≡◌, ap, ◌∙◌}
use mathlib.Core.List.{List}
use lib.ListN.{length}
use Rattle.record.specs.Record.{parse_record}
use Rattle.record.specs.declared.Record.{Record}
use Rattle.archive.specs.Archive.{records}
use Rattle.events.specs.Events.{event_at, station_at, own_at}
use Rattle.reset.specs.Config.{Config}
use Rattle.causality.specs.HappenedBefore.{Accepted, entry_at}
use Rattle.causality.proofs.Trace.{record_station}
use Rattle.causality.proofs.TraceOrder.{vc}
use Rattle.step_parts.specs.Answers.{event_record}
use Rattle.run_archive.specs.Made.{archive_of}
use Rattle.run_archive.specs.Claims.{InRange, Archived}
use Rattle.run_archive.proofs.MadeLaws.{parsed_bytes}

pub record Holds (a : List ℕ) (E : List Accepted) : Type 0 where
  pub many : records a ≡ length E
  pub event : (k : ℕ) → k < length E → event_at a k ≡ event_record (entry_at E k).entry

module _ {a : List ℕ} {E : List Accepted} (H : Holds a E) (k : ℕ) (l : k < length E) where
  pub station_is : station_at a k ≡ record_station E k
  unfolding station_at
  station_is = ap (λ (r : Record). r.station) (H.event k l)

  pub own_is : own_at a k ≡ vc E k (record_station E k)
  unfolding own_at
  own_is = rw (station_is, H.event k l)

pub archive_holds : (c : Config) (E : List Accepted) → ((k : ℕ) → k < length E → InRange c (entry_at E k).entry) → Archived c E → Holds (archive_of c E) E
unfolding event_at
archive_holds c E range A = record { many = A.many; event = λ k l. ap parse_record (A.found k l) ∙ parsed_bytes c (entry_at E k) (range k l) }
