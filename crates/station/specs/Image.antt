-- A station's record as 47 bytes without gaps: counts, two bytes each, from 0; messages sent from 16; req seen from 24, done seen from 32, each 0 or 1;
-- phase from 40; own entries from 44; mode at 46. Assumes nothing.
use Rattle.std.specs.Prelude.{ℕ, ◌+◌, ◌<◌, ◌≡◌, List, [], ◌∷◌, ◌++◌, Bool, true, false, not, cond, eqb, length, get_or}
use Rattle.codec.specs.Num.{bytes_of, num_at, nums_of, nums_at}
use Rattle.codec.specs.Rows.{upto}
use Rattle.header.specs.Header.{bytes_at}
use Rattle.reset.specs.Clock.{vector}
use Rattle.reset.specs.State.{Mode, normal, mute, stand_by, Station}

-- ---- the size of a record in bytes
abbrev pub station_size : ℕ
station_size = 47

-- ---- written
-- a mark is 1 when it is seen
abbrev pub mark_byte : Bool → ℕ
mark_byte true = 1
mark_byte false = 0

-- eight bytes of messages sent; eight marks
unfoldable pub sent_of : List ℕ → List ℕ
sent_of l = upto 8 (λ (j : ℕ). get_or l j 0)

unfoldable pub marks_of : List Bool → List ℕ
marks_of l = upto 8 (λ (j : ℕ). mark_byte (get_or l j false))

abbrev pub mode_byte : Mode → ℕ
mode_byte normal = 0
mode_byte mute = 1
mode_byte stand_by = 2

-- the 47 bytes of a record, whatever the lengths of its lists
unfoldable pub image_station : Station vector → List ℕ
image_station x =
    nums_of 2 8 x.time ++ sent_of x.sent ++ marks_of x.reqs ++ marks_of x.dones ++ bytes_of 4 x.phase ++ bytes_of 2 x.own ++ (mode_byte x.mode ∷ [])

-- ---- read
-- byte j from `at` on; it is a mark that is seen when it is not 0
abbrev pub byte_at : List ℕ → ℕ → ℕ → ℕ
byte_at l at j = get_or l (at + j) 0

abbrev pub mark_at : List ℕ → ℕ → ℕ → Bool
mark_at l at j = not (eqb (byte_at l at j) 0)

abbrev pub mode_of : ℕ → Mode
mode_of b = cond (eqb b 1) mute (cond (eqb b 2) stand_by normal)

-- the record that 47 bytes stand for
unfoldable pub parse_station : List ℕ → Station vector
parse_station l =
    record {
      time = nums_at 2 8 l 0;
      mode = mode_of (get_or l 46 0);
      phase = num_at 4 l 40;
      own = num_at 2 l 44;
      sent = bytes_at 8 l 16;
      reqs = upto 8 (mark_at l 24);
      dones = upto 8 (mark_at l 32);
    }

-- ---- a record whose fields have the sizes that the bytes give them
pub record Ranged (x : Station vector) : Type 0 where
  pub time8 : length x.time ≡ 8
  pub sent8 : length x.sent ≡ 8
  pub reqs8 : length x.reqs ≡ 8
  pub dones8 : length x.dones ≡ 8
  pub counts-below : (k : ℕ) → get_or x.time k 0 < 65536
  pub sent-below : (j : ℕ) → get_or x.sent j 0 < 256
  pub phase-below : x.phase < 4294967296
  pub own_below : x.own < 65536
