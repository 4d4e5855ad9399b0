-- Traces: lists of accepted entries in which every timestamp is made by the clock rule from the entries before it. Definitions alone. Assumes nothing.
use Prim.Native.Nat.{ℕ, zero, suc, ◌≤◌, ◌<◌}
use mathlib.Core.Path.{◌≡◌}
use mathlib.Core.List.{List, [], ◌∷◌, ◌++◌}
use mathlib.Core.Bool.{Bool, cond, ◌&&◌}
use lib.Dec.{eqb}
use lib.ListN.{get_or, drop, length}
use Rattle.codec.specs.Every.{count_below}
use Rattle.clock.specs.Timestamp.{zeros, tick, raised}
use Rattle.reset.specs.Steps.{Step, enter, send, recv}
use Rattle.causality.specs.Plain.{Message}
use Rattle.causality.specs.HappenedBefore.{Accepted, entry_at, phase_of, timestamp_of, is_send, is_recv, count, GoesWith}
use Rattle.causality.specs.Sound.{sent_message}

-- the station that entry x's record bears
abbrev pub record_station : List Accepted → ℕ → ℕ
record_station E x = (entry_at E x).entry.station

-- ---- of the first y entries
-- those of station i in phase f: how many, and the timestamp of the last, zeros where there is none
abbrev pub is_of : ℕ → ℕ → Accepted → Bool
is_of i f x = eqb x.entry.phase f && eqb x.entry.station i

abbrev pub entries_before : List Accepted → ℕ → ℕ → ℕ → ℕ
entries_before E i f y = count_below y (λ (x : ℕ). is_of i f (entry_at E x))

abbrev pub last_of : List Accepted → ℕ → ℕ → ℕ → List ℕ
last_of E i f zero = zeros
last_of E i f (suc y) = cond (is_of i f (entry_at E y)) (timestamp_of E y) (last_of E i f y)

-- those whose step passes p
abbrev pub those : (Step → Bool) → List Accepted → ℕ → List Accepted
those p E zero = []
those p E (suc y) = those p E y ++ cond (p (entry_at E y).step) (entry_at E y ∷ []) []

-- the sends on the link from a to b whose messages are not received yet, the first first
abbrev pub under_way : List Accepted → ℕ → ℕ → ℕ → List Accepted
under_way E a b y = drop (count (is_recv a b) E y) (those (is_send a b) E y)

-- the steps of the entries of phase f
abbrev pub fed_of : ℕ → List Accepted → List Step
fed_of f [] = []
fed_of f (x ∷ E) = cond (eqb x.entry.phase f) (x.step ∷ fed_of f E) (fed_of f E)

-- ---- the clock rule
-- the counts of entry y's station before it
abbrev pub counts_before : List Accepted → ℕ → List ℕ
counts_before E y = last_of E (record_station E y) (phase_of E y) y

-- Entry y bears what the clock rule gives: an own entry or a send counts 1, and takes no message; a receipt takes the message of the send that goes with it,
-- which is an earlier entry of its phase, raises the counts to that send's, and counts 1. T has the messages taken, of each entry.
pub data Follows (E : List Accepted) (T : List (List Message)) (y : ℕ) : Type 0 where
  own : (g : ℕ) → (entry_at E y).step ≡ enter (record_station E y) g → get_or T y [] ≡ [] → timestamp_of E y ≡ tick (record_station E y) (counts_before E y) → Follows E T y
  sent : (j : ℕ) → (entry_at E y).step ≡ send (record_station E y) j (entry_at E y).entry.register → get_or T y [] ≡ []
      → timestamp_of E y ≡ tick (record_station E y) (counts_before E y) → Follows E T y
  received : (j x : ℕ) → (entry_at E y).step ≡ recv (record_station E y) j → x < y → GoesWith E x y → phase_of E x ≡ phase_of E y
      → get_or T y [] ≡ sent_message (entry_at E x) ∷ [] → timestamp_of E y ≡ raised (record_station E y) (counts_before E y) (timestamp_of E x) → Follows E T y

-- A trace: every entry does; there are eight stations; a station's phase never falls.
pub record Trace (E : List Accepted) (T : List (List Message)) : Type 0 where
  pub follows : (y : ℕ) → y < length E → Follows E T y
  pub small : (y : ℕ) → y < length E → record_station E y < 8
  pub phases : (x y : ℕ) → x < y → y < length E → record_station E x ≡ record_station E y → phase_of E x ≤ phase_of E y
