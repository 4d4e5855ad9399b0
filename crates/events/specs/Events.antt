-- The events that the records of an archive stand for. Assumes nothing.
use Rattle.std.specs.Prelude.{ℕ, List, get_or}
use Rattle.record.specs.Record.{parse_record}
use Rattle.record.specs.declared.Record.{Record}
use Rattle.archive.specs.Archive.{record_at}

-- the event that record k stands for
unfoldable pub event_at : List ℕ → ℕ → Record
event_at a k = parse_record (record_at a k)

-- its station, and its own count
unfoldable pub station_at : List ℕ → ℕ → ℕ
station_at a k = (event_at a k).station

unfoldable pub own_at : List ℕ → ℕ → ℕ
own_at a k = get_or (event_at a k).counts (station_at a k) 0
