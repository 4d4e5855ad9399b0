-- The archive that the writers make of accepted entries. Assumes nothing.
use Rattle.std.specs.Prelude.{ℕ, ◌+◌, ◌*◌, ◌/◌, List, ◌++◌, length, take, drop}
use Rattle.codec.specs.Rows.{rows, upto}
use Rattle.record.specs.Record.{image_record}
use Rattle.header.specs.Header.{image_header}
use Rattle.entries.specs.Entries.{image_entries}
use Rattle.reset.specs.Config.{Config}
use Rattle.rules.specs.Setup.{header_of}
use Rattle.step_parts.specs.Answers.{event_record}
use Rattle.causality.specs.HappenedBefore.{Accepted}

-- the 32 bytes of an accepted entry's record
unfoldable pub bytes_of_entry : Accepted → List ℕ
bytes_of_entry x = image_record (event_record x.entry)

-- the records' bytes of a list of accepted entries, in list order
unfoldable pub records_of : List Accepted → List ℕ
records_of E = rows bytes_of_entry E

-- the b-th fifteen of them, from 0; the last has what is left
unfoldable pub block_records : List Accepted → ℕ → List ℕ
block_records E b = take 480 (drop (b * 480) (records_of E))

-- entries block b, from 0: it bears number b + 1
unfoldable pub made_block : List Accepted → ℕ → List ℕ
made_block E b = image_entries (b + 1) (block_records E b)

-- how many blocks n records need
abbrev pub blocks_for : ℕ → ℕ
blocks_for n = (n + 14) / 15

-- the header of a configuration, and the entries blocks of a list
unfoldable pub archive_of : Config → List Accepted → List ℕ
archive_of c E = image_header (header_of c) c.limits ++ rows (made_block E) (upto (blocks_for (length E)) (λ (b : ℕ). b))
