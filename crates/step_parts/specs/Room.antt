-- Room on the links out of a station, read off an area. Assumes nothing.
use Rattle.std.specs.Prelude.{ℕ, ◌+◌, ◌*◌, List, ◌++◌, Bool, ◌&&◌, ◌||◌, eqb, leb, length, get_or}
use Rattle.clock.specs.Range.{last_phase}
use Rattle.codec.specs.Every.{every}
use Rattle.reset.specs.Config.{places_of}
use Rattle.reset_rules.specs.Slots.{control_of}
use Rattle.reset_rules.specs.declared.Turned.{Turned}
use Rattle.area.specs.Layout.{link_bytes}

-- every link out of i that has a limit in the row has room for k items more
unfoldable pub room_bytes : List ℕ → List ℕ → ℕ → ℕ → Bool
room_bytes a row i k = every 8 (λ (j : ℕ). eqb (get_or row j 0) 0 || leb (get_or (link_bytes a (i * 8 + j)) 0 0 + k) (places_of (get_or row j 0)))

-- how many control items go on every link out
abbrev pub items : Turned → ℕ
items t = length (control_of t.first ++ control_of t.second)

-- after the rules nothing is beyond its bound: the phase, and the room on the links out
unfoldable pub in_bounds_after : List ℕ → List ℕ → ℕ → Turned → Bool
in_bounds_after a row i t = leb t.station.phase last_phase && room_bytes a row i (items t)
