-- The order of two records of any phases of an archive (document 02, CR 2). Assumes nothing.
use Rattle.std.specs.Prelude.{ℕ, zero, suc, ◌+◌, ◌-◌, List, Bool, ◌&&◌, ◌||◌, cond, eqb, leb, ltb, get_or}
use Rattle.codec.specs.Every.{some}
use Rattle.clock.specs.Timestamp.{zeros}
use Rattle.clock.specs.Order.{verdict_of}
use Rattle.clock.specs.declared.Verdict.{Verdict}
use Rattle.clock.specs.declared.Verdict.TheVariants.{Before, After, Unordered}
use Rattle.record.specs.declared.Record.{Record}
use Rattle.archive.specs.Archive.{records}
use Rattle.events.specs.Events.{event_at, station_at, own_at}

-- ---- last timestamps
-- record k is of station s in phase f
unfoldable pub is_of : List ℕ → ℕ → ℕ → ℕ → Bool
is_of a s f k = eqb (station_at a k) s && eqb (event_at a k).phase f

-- of the records below n, the timestamp of station s in phase f that has the greatest own count; zeros where there is none
unfoldable pub last_among : List ℕ → ℕ → ℕ → ℕ → List ℕ
last_among a s f zero = zeros
last_among a s f (suc n) = cond (is_of a s f n && ltb (get_or (last_among a s f n) s 0) (own_at a n)) (event_at a n).counts (last_among a s f n)

-- the last timestamp (document 02: last stamp) of station s in phase f
abbrev pub last_timestamp : List ℕ → ℕ → ℕ → List ℕ
last_timestamp a s f = last_among a s f (records a)

-- ---- stations reached: a set of stations is a test of their numbers
-- reached by event x in its phase: those whose last timestamp there has, for x's station, at least x's own count
unfoldable pub reached_first : List ℕ → Record → ℕ → Bool
reached_first a x s = leb (get_or x.counts x.station 0) (get_or (last_timestamp a s x.phase) x.station 0)

-- a timestamp has a count of at least 1 for a station of the set
unfoldable pub knows : (ℕ → Bool) → List ℕ → Bool
knows r v = some 8 (λ (k : ℕ). r k && leb 1 (get_or v k 0))

-- behind phase f, of those reached before it: a station joins when its last timestamp there knows one of them
unfoldable pub reached_next : List ℕ → ℕ → (ℕ → Bool) → ℕ → Bool
reached_next a f r s = r s || knows r (last_timestamp a s f)

-- reached by x before the phase that is 1 + d behind its own: d phases lie between
unfoldable pub reached : List ℕ → Record → ℕ → ℕ → Bool
reached a x zero = reached_first a x
reached a x (suc d) = reached_next a (x.phase + 1 + d) (reached a x d)

-- ---- the verdict
-- x precedes y of a later phase: y has a count of at least 1 for a station reached before y's phase
unfoldable pub precedes : List ℕ → Record → Record → Bool
precedes a x y = ltb x.phase y.phase && knows (reached a x (y.phase - (x.phase + 1))) y.counts

-- in one phase timestamp order; else before or after, where one precedes the other, or unordered
unfoldable pub verdict_between : List ℕ → Record → Record → Verdict
verdict_between a x y =
    cond (eqb x.phase y.phase) (verdict_of x.counts y.counts) (cond (precedes a x y) Before (cond (precedes a y x) After Unordered))
