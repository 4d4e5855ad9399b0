-- The calls on a whole archive for a host. Assumes nothing.
use Rattle.std.specs.Prelude.{ℕ, ◌≡◌, List, cond, eqb, ltb, length}
use Rattle.codec.specs.Splice.{splice}
use Rattle.codec.specs.Written.{Written, refused, wrote}
use Rattle.archive.specs.Archive.{find_record, found_record}
use Rattle.events.specs.Events.{event_at}
use Rattle.concurrent.specs.Unordered.{unordered_answer, list_after}
use Rattle.host_numbers.specs.Numbers.{record_length, area_length, counted_number}

-- a record that is not found is refused as the archive refuses it, an area of under 32 bytes is 11; the rest of an area is left
unfoldable pub record_found : List ℕ → ℕ → List ℕ → Written
record_found a k d =
    cond (eqb (find_record a k) 0)
    (cond (ltb (length d) record_length) (refused area_length d) (wrote (splice d 0 (found_record a k))))
    (refused (find_record a k) d)

-- the call of record k's unordered list returned r, and left the list as `after`
pub record HostList (a : List ℕ) (k : ℕ) (before after : List ℕ) (r : ℕ) : Type 0 where
  pub number : r ≡ counted_number (unordered_answer a k (length before))
  pub leaves : after ≡ list_after a (event_at a k) before (unordered_answer a k (length before))
