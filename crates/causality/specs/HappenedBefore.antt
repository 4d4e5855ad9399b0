-- Happened-before (document 01: recorded order), on the accepted entries of a list of steps with their answers. It reads no timestamp. Assumes nothing.
use Rattle.std.specs.Prelude.{ℕ, zero, suc, ◌+◌, ◌<◌, ◌≡◌, List, [], ◌∷◌, Bool, true, false, cond, ◌&&◌, eqb, get_or, length}
use Rattle.reset.specs.Steps.{Step, enter, send, recv, start, station_of_step, Entry, Answer, refused, entry, mode_after}
use Rattle.reset.specs.Network.{Answered}

-- An accepted entry: its step, and the record that was its answer.
pub record Accepted : Type 0 where
  pub step : Step
  pub entry : Entry

abbrev pub with_entry : Step → Answer → List Accepted → List Accepted
with_entry p (refused k) l = l
with_entry p (mode_after i m f) l = l
with_entry p (entry e) l = record { step = p; entry = e } ∷ l

-- the accepted entries, in list order; below an entry is named by its place among them, from 0
abbrev pub accepted : List Answered → List Accepted
accepted [] = []
accepted (x ∷ l) = with_entry x.step x.answer (accepted l)

-- no entry: read past the end
abbrev pub no_entry : Accepted
no_entry = record { step = start 0; entry = record { kind = 0; station = 0; peer = 0; phase = 0; register = 0; counts = []; news = 0 } }

-- entry x: its step and record; the station that took the step; the record's phase and timestamp
abbrev pub entry_at : List Accepted → ℕ → Accepted
entry_at E x = get_or E x no_entry

abbrev pub station_of : List Accepted → ℕ → ℕ
station_of E x = station_of_step (entry_at E x).step

abbrev pub phase_of : List Accepted → ℕ → ℕ
phase_of E x = (entry_at E x).entry.phase

abbrev pub timestamp_of : List Accepted → ℕ → List ℕ
timestamp_of E x = (entry_at E x).entry.counts

-- ---- which send goes with which recv
-- a send on the link from a to b; a recv from it
abbrev pub is_send : ℕ → ℕ → Step → Bool
is_send a b (enter i g) = false
is_send a b (send i j g) = eqb i a && eqb j b
is_send a b (recv i j) = false
is_send a b (start i) = false

abbrev pub is_recv : ℕ → ℕ → Step → Bool
is_recv a b (enter i g) = false
is_recv a b (send i j g) = false
is_recv a b (recv i j) = eqb j a && eqb i b
is_recv a b (start i) = false

-- how many of the first x entries are such
abbrev pub count : (Step → Bool) → List Accepted → ℕ → ℕ
count p E zero = 0
count p E (suc x) = count p E x + cond (p (entry_at E x).step) 1 0

-- entry x is the k-th accepted send on a link, and entry y the k-th recv from it that was answered with an entry
pub record GoesWith (E : List Accepted) (x y : ℕ) : Type 0 where
  pub a : ℕ
  pub b : ℕ
  pub x_in : x < length E
  pub y_in : y < length E
  pub sent : is_send a b (entry_at E x).step ≡ true
  pub received : is_recv a b (entry_at E y).step ≡ true
  pub same_number : count (is_send a b) E x ≡ count (is_recv a b) E y

-- The smallest transitive relation in which a station's earlier entry precedes its later, and a send precedes its message's receipt.
pub data HappenedBefore (E : List Accepted) : ℕ → ℕ → Type 0 where
  same_station : {x y : ℕ} → x < y → y < length E → station_of E x ≡ station_of E y → HappenedBefore E x y
  sent-received : {x y : ℕ} → GoesWith E x y → HappenedBefore E x y
  chain : {x y z : ℕ} → HappenedBefore E x y → HappenedBefore E y z → HappenedBefore E x z
