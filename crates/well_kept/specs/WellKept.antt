-- Archives that are well kept (document 02, CR 2): a station's own counts in a phase are 1, 2, 3 .., each once. Assumes nothing.
use Rattle.std.specs.Prelude.{ℕ, ◌+◌, List, Bool, ◌&&◌, eqb}
use Rattle.codec.specs.Every.{every, count_below}
use Rattle.archive.specs.Archive.{records}
use Rattle.events.specs.Events.{event_at, station_at, own_at}

-- record k is of station s in phase f, and bears own count c
unfoldable pub bears : List ℕ → ℕ → ℕ → ℕ → ℕ → Bool
bears a s f c k = eqb (station_at a k) s && (eqb (event_at a k).phase f && eqb (own_at a k) c)

-- how many records do
unfoldable pub bearers : List ℕ → ℕ → ℕ → ℕ → ℕ
bearers a s f c = count_below (records a) (bears a s f c)

-- each count from 1 to record k's own count is borne once, at its station in its phase
unfoldable pub kept_up_to : List ℕ → ℕ → Bool
kept_up_to a k = every (own_at a k) (λ (c : ℕ). eqb (bearers a (station_at a k) (event_at a k).phase (c + 1)) 1)

-- so it is with every record
unfoldable pub well_kept : List ℕ → Bool
well_kept a = every (records a) (kept_up_to a)
