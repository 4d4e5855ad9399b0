-- A refused call leaves all that it was lent, byte for byte: the steps on an area, and every call that writes. It is proved as
-- `refused-leaves_all` in proofs/Refused. Assumes nothing.
use Rattle.std.specs.Prelude.{ℕ, ◌<◌, ◌≡◌, List}
use Rattle.codec.specs.Num.{AreBytes}
use Rattle.codec.specs.Written.{Written}
use Rattle.header.specs.Header.{write_header}
use Rattle.header.specs.declared.Header.{Header}
use Rattle.entries.specs.Entries.{write_entries, read_record}
use Rattle.reset.specs.Steps.{Step, refused}
use Rattle.area_calls.specs.Calls.{setup_on, step_on}
use Rattle.host_numbers.specs.Numbers.{tells, entry_made}
use Rattle.melontime.specs.Calls.{host_step}
use Rattle.host_numbers.specs.Headers.{header_written, header_fields}
use Rattle.melontime.specs.Archives.{record_found, HostList}

-- a call that writes is answered with 0, or has left the buffer as it was
abbrev pub LeavesRefused : List ℕ → Written → Type 0
LeavesRefused d w = (w.answer ≡ 0 → ⊥) → w.buffer ≡ d

pub record RefusedLeaves : Type 0 where
  -- a step on an area; a host's step, whose refusals are the numbers below 100, with its record area too
  pub step_area : (p : Step) (a : List ℕ) → AreBytes a → (k : ℕ) → (step_on p a).answer ≡ refused k → (step_on p a).area ≡ a
  pub step_both : (p : Step) (a d : List ℕ) → AreBytes a → (host_step p a d).number < entry_made → ((host_step p a d).area ≡ a) × ((host_step p a d).event ≡ d)
  -- setup, and the calls that write into a lent buffer
  pub setup : (block a : List ℕ) → LeavesRefused a (setup_on block a)
  pub header_write : (h : Header) (m : List (List ℕ)) (d : List ℕ) → LeavesRefused d (write_header h m d)
  pub entries_write : (number : ℕ) (rs d : List ℕ) → LeavesRefused d (write_entries number rs d)
  pub record_read : (block : List ℕ) (k : ℕ) (d : List ℕ) → LeavesRefused d (read_record block k d)
  pub host_header_write : (n t : ℕ) (x m d : List ℕ) → LeavesRefused d (header_written n t x m d)
  pub host_header_read : (block d : List ℕ) → LeavesRefused d (header_fields block d)
  pub host_record_found : (a : List ℕ) (k : ℕ) (d : List ℕ) → LeavesRefused d (record_found a k d)
  -- a list, whose refusals are the numbers below 1,000
  pub unordered_list_lem : (a : List ℕ) (k : ℕ) (before after : List ℕ) (r : ℕ) → HostList a k before after r → r < tells → after ≡ before
