-- The key of a record: its phase, station and own count as one number, so that the station's next own count in the phase has the next key. Assumes nothing.
use Rattle.std.specs.Prelude.{ℕ, zero, suc, ◌+◌, ◌*◌, ◌%◌, List, [], ◌∷◌, ◌++◌, Bool, true, ◌&&◌, ◌||◌, cond, eqb, leb, ltb, get_or}
use Rattle.codec.specs.Every.{count_below}
use Rattle.record.specs.declared.Record.{Record}
use Rattle.archive.specs.Archive.{records}
use Rattle.events.specs.Events.{event_at}

unfoldable pub key_of : Record → ℕ
key_of r = (r.phase * 8 + r.station) * 65536 + get_or r.counts r.station 0

abbrev pub key_at : List ℕ → ℕ → ℕ
key_at a k = key_of (event_at a k)

-- above every key
abbrev pub no_key : ℕ
no_key = 1099511627776

-- record k has key x; how many have
abbrev pub has_key : List ℕ → ℕ → ℕ → Bool
has_key a x k = eqb (key_at a k) x

unfoldable pub times : List ℕ → ℕ → ℕ
times a x = count_below (records a) (has_key a x)

-- where p is the greatest key below v, all is well with v: it is the next, or a first own count
unfoldable pub follows : ℕ → ℕ → Bool
follows p v = ltb p v && (eqb v (p + 1) || eqb (v % 65536) 1)

-- a list of keys in which each follows the one before it, and the first p; its last, or p
unfoldable pub runs_on : ℕ → List ℕ → Bool
runs_on p [] = true
runs_on p (v ∷ l) = follows p v && runs_on v l

abbrev pub last_from : ℕ → List ℕ → ℕ
last_from p [] = p
last_from p (v ∷ l) = last_from v l

-- a key above lo and up to hi
abbrev pub within : ℕ → ℕ → ℕ → Bool
within lo hi x = ltb lo x && leb x hi

-- those of the records below n, in record order
unfoldable pub keys_in : List ℕ → ℕ → ℕ → ℕ → List ℕ
keys_in a lo hi zero = []
keys_in a lo hi (suc n) = cond (within lo hi (key_at a n)) (keys_in a lo hi n ++ (key_at a n ∷ [])) (keys_in a lo hi n)
