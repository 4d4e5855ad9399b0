-- What the passes over an archive gather to tell which stations are reached. Assumes nothing.
use Rattle.std.specs.Prelude.{ℕ, ◌+◌, ◌*◌, ◌≤◌, ◌<◌, ◌≡◌, List, Bool, false, ◌&&◌, cond, leb, ltb, length, get_or}
use Rattle.codec.specs.Every.{some}
use Rattle.record.specs.declared.Record.{Record}
use Rattle.events.specs.Events.{event_at, station_at}
use Rattle.phase_order.specs.PhaseOrder.{last_among, reached}

-- a timestamp has, for some station, at least the count that is asked; 0 asks nothing
unfoldable pub meets : List ℕ → List ℕ → Bool
meets t v = some 8 (λ (k : ℕ). ltb 0 (get_or t k 0) && leb (get_or t k 0) (get_or v k 0))

-- the own count of a timestamp of station s, twice, and one more where it meets what is asked
unfoldable pub marked : List ℕ → ℕ → List ℕ → ℕ
marked t s v = get_or v s 0 * 2 + cond (meets t v) 1 0

-- a table of marks: of the records below n, those of the last timestamps of eight stations in each phase from f on
pub record Table (a : List ℕ) (f : ℕ) (t : List ℕ) (n : ℕ) (l : List ℕ) : Type 0 where
  pub marks : (q s : ℕ) → s < 8 → q * 8 + s < length l → get_or l (q * 8 + s) 0 ≡ marked t s (last_among a s (f + q) n)

-- of the records below n, none of a station that is not reached, in the phases from f on and before g, meets what is asked
pub record NoneMeets (a r : List ℕ) (f g n : ℕ) : Type 0 where
  pub none : (i : ℕ) → i < n → f ≤ (event_at a i).phase → (event_at a i).phase < g → get_or r (station_at a i) 0 ≡ 0 → meets r (event_at a i).counts ≡ false

-- the stations that x reaches before the phase that is 1 + d behind its own, as eight numbers: 1 for each of them
pub record Reaches (a : List ℕ) (x : Record) (d : ℕ) (r : List ℕ) : Type 0 where
  pub wide : length r ≡ 8
  pub are : (s : ℕ) → s < 8 → get_or r s 0 ≡ cond (reached a x d s) 1 0
