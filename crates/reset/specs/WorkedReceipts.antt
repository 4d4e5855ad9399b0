-- The number of receipts that empty the links, and receipts in several orders, worked by the definitions. Assumes nothing.
use Rattle.std.specs.Prelude.{ℕ, ◌≡◌, refl, List, [], ◌∷◌, ◌++◌, true, false}
use Rattle.codec.specs.Every.{sum, greatest}
use Rattle.reset.specs.Config.{Config}
use Rattle.reset.specs.Clock.{vector}
use Rattle.reset.specs.State.{normal, mute, State, reset_req, station_at}
use Rattle.reset.specs.Steps.{Step, enter, send, recv, start, step}
use Rattle.reset.specs.Network.{initial, log, run, quiescent}
use Rattle.reset.specs.Receipts.{greatest_target, under_way, receipts_to_rest, accepted_in}
use Rattle.reset.specs.Worked.{lines_from, pair, listing, lone, middle, triangle, all_reset, req_in_stand_by}
use Rattle.reset.specs.WorkedStates.{held, with, on, notes, formed}

-- the number in a state; unfolding it unfolds all that it computes with
unfoldable pub to_rest : Config → State vector → ℕ
unfolding sum greatest formed lines_from greatest_target under_way receipts_to_rest
to_rest c s = receipts_to_rest c s

-- the number after each of a list of steps, from a state and from the initial one
abbrev after_each : Config → State vector → List Step → List ℕ
after_each c s [] = []
after_each c s (p ∷ ps) = to_rest c (step c s p).after ∷ after_each c (step c s p).after ps

abbrev pub numbers : Config → List Step → List ℕ
numbers c ps = after_each c (initial vector c) ps

pub record Numbers : Type 0 where
  -- a message under way is one receipt; a start adds two for each of the two links, an own entry and a refused receipt nothing
  pub of_listing : numbers pair listing ≡ 0 ∷ 1 ∷ 5 ∷ 4 ∷ 3 ∷ 2 ∷ 1 ∷ 2 ∷ 1 ∷ 0 ∷ 0 ∷ []
  -- a second start in one reset adds nothing; the greatest target is that of a mute station, while all phases are 0
  pub both_start : numbers pair (start 0 ∷ start 1 ∷ recv 0 1 ∷ recv 1 0 ∷ recv 0 1 ∷ recv 1 0 ∷ []) ≡ 4 ∷ 4 ∷ 3 ∷ 2 ∷ 1 ∷ 0 ∷ []
  -- station 1 starts the next reset while station 0 is in stand-by of this one: two more for each of the four links
  pub next_begun : numbers middle (all_reset ++ req_in_stand_by) ≡ 8 ∷ 7 ∷ 6 ∷ 5 ∷ 4 ∷ 3 ∷ 2 ∷ 10 ∷ 9 ∷ []
  -- six links
  pub of_triangle : numbers triangle (send 0 1 1 ∷ send 2 1 2 ∷ start 0 ∷ recv 2 0 ∷ []) ≡ 1 ∷ 2 ∷ 14 ∷ 13 ∷ []
  -- a lone station has no link
  pub of_lone : numbers lone (enter 0 1 ∷ start 0 ∷ []) ≡ 0 ∷ 0 ∷ []

pub numbers-worked : Numbers
unfolding to_rest
numbers-worked = record { of_listing = refl; both_start = refl; next_begun = refl; of_triangle = refl; of_lone = refl }

-- ---- orders
-- after a list of steps the number is k; of a list of receipts from there k are accepted, and the network is then quiescent, with station 0 in phase p
abbrev pub Ends : Config → List Step → List Step → ℕ → ℕ → Type 0
Ends c ps qs k p =
    (to_rest c (run c (initial vector c) ps) ≡ k)
    × (accepted_in (log c (run c (initial vector c) ps) qs) ≡ k)
    × (quiescent c (run c (run c (initial vector c) ps) qs) ≡ true)
    × ((station_at (run c (run c (initial vector c) ps) qs) 0).phase ≡ p)

-- a message each way, and a start of station 0
abbrev pub mixed : List Step
mixed = send 0 1 1 ∷ send 1 0 2 ∷ start 0 ∷ []

pub record Orders : Type 0 where
  -- station 1 first, then station 0; in turn, with receipts that are refused between
  pub one_first : Ends pair mixed (recv 1 0 ∷ recv 1 0 ∷ recv 0 1 ∷ recv 0 1 ∷ recv 0 1 ∷ recv 1 0 ∷ recv 1 0 ∷ []) 6 1
  pub in_turn : Ends pair mixed (recv 0 1 ∷ recv 0 1 ∷ recv 1 0 ∷ recv 1 0 ∷ recv 0 1 ∷ recv 1 0 ∷ recv 1 0 ∷ recv 0 1 ∷ recv 0 0 ∷ []) 6 1
  -- two resets, one behind the other
  pub two_resets : Ends middle (all_reset ++ req_in_stand_by) (recv 0 2 ∷ recv 1 0 ∷ recv 2 0 ∷ recv 2 0 ∷ recv 0 2 ∷ recv 0 1 ∷ recv 0 2 ∷ recv 1 0 ∷ recv 2 0 ∷ []) 9 2
  -- none is needed
  pub at_rest : Ends pair listing [] 0 1

pub orders : Orders
unfolding to_rest
orders = record { one_first = (refl, refl, refl, refl); in_turn = (refl, refl, refl, refl); two_resets = (refl, refl, refl, refl); at_rest = (refl, refl, refl, refl) }

-- ---- well-formed states that no list of steps from the initial network reaches
abbrev pub LentNumber : State vector → ℕ → Type 0
LentNumber s k = (formed s ≡ true) × (to_rest pair s ≡ k)

pub record LentNumbers : Type 0 where
  -- no done seen in phase 0: fewer than no control items received, which counts as none
  pub none_received : LentNumber (with (held 0 0 normal 0 0 0 false false)) 0
  -- req and done of phase 3 seen while normal in it: more received than twice the greatest target, which leaves none; station 1 has received none
  pub more_received : LentNumber (with (held 0 0 normal 3 0 0 true true)) 6
  -- a station that aims past the last phase, and one in phase 0
  pub far_apart : LentNumber (with (held 0 0 mute 999999 0 0 false false)) 2000002
  -- a control item under way is no message: it is not looked at
  pub item-alone : LentNumber (on 1 0 (reset_req ∷ notes 2 0 0) (with (held 0 0 normal 0 0 0 false true))) 2

pub lent-numbers : LentNumbers
unfolding to_rest
lent-numbers = record { none_received = (refl, refl); more_received = (refl, refl); far_apart = (refl, refl); item-alone = (refl, refl) }
