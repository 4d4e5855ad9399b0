-- Headers, and lent states that no list of steps from an initial network reaches, worked by the definitions: what each rule and each clause turns away,
-- the refusals 8 and 2, and rest while an item is under way. Assumes nothing.
use Rattle.std.specs.Prelude.{ℕ, ◌≡◌, refl, List, [], ◌∷◌, ◌++◌, Bool, true, false, replicate}
use Rattle.codec.specs.Every.{every, sum}
use Rattle.clock.specs.Timestamp.{zeros}
use Rattle.reset.specs.Reach.{limit, linked, apart, joins, first, unseen, spread_by, every_reached}
use Rattle.reset.specs.Config.{Config, allowances_fit, limits_fit, well_made, zero_diagonal, linked_both_ways, nothing_above, within_ceiling, network_rules}
use Rattle.reset.specs.Clock.{vector, timestamp_fits}
use Rattle.reset.specs.State.{Mode, normal, mute, stand_by, Item, message, reset_req, reset_done, Station, State, blank_station, with_time, with_phase, with_sent, with_reqs, with_dones, set_station, set_link}
use Rattle.reset.specs.Steps.{Step, enter, send, recv, start}
use Rattle.reset.specs.Network.{initial, run, stations_quiescent, links_empty, quiescent}
use Rattle.reset.specs.WellFormed.{sent_fits, marks_fit, station_fits, link_fits, shape_fits, well_formed}
use Rattle.reset.specs.Worked.{net, allow, limit_to, link, Line, entry_line, receipt_line, mode_line, no_line, lines_from, pair, listing, lone, strict, middle, skewed, triangle, row}

-- ---- headers
-- the five network rules, in document 01's order
unfoldable pub kept : Config → List Bool
unfolding every limit linked apart joins first unseen spread_by every_reached zero_diagonal linked_both_ways nothing_above sum within_ceiling network_rules allowances_fit limits_fit well_made
kept c =
    zero_diagonal c.limits
    ∷ linked_both_ways c.limits
    ∷ nothing_above c.n c.allowances c.limits
    ∷ every_reached c.n c.limits
    ∷ within_ceiling c.t c.allowances c.limits
    ∷ []

-- the listing's network with another n and t
abbrev sized : ℕ → ℕ → Config
sized n t = record { n = n; t = t; allowances = pair.allowances; limits = pair.limits }

-- eight stations, linked 0 7 3 5 1 6 2 4
abbrev winding : Config
winding = link 2 4 1 (link 6 2 1 (link 1 6 1 (link 5 1 1 (link 3 5 1 (link 7 3 1 (link 0 7 1 (net 8 4)))))))

pub record Headers : Type 0 where
  -- accepted
  pub listing-accepted : (well_made pair ≡ true) × (network_rules pair ≡ true)
  pub lone-accepted : (well_made lone ≡ true) × (network_rules lone ≡ true)
  pub strict-accepted : (well_made strict ≡ true) × (network_rules strict ≡ true)
  pub middle-accepted : (well_made middle ≡ true) × (network_rules middle ≡ true)
  pub winding-accepted : (well_made winding ≡ true) × (network_rules winding ≡ true)
  pub triangle-accepted : (well_made triangle ≡ true) × (network_rules triangle ≡ true)
  pub row-accepted : (well_made row ≡ true) × (network_rules row ≡ true)
  -- the sum rule counts both directions of a link, once each
  pub skewed-accepted : (well_made (skewed 8) ≡ true) × (network_rules (skewed 8) ≡ true)
  -- well made, and one rule broken: 3
  pub skewed-refused : kept (skewed 7) ≡ true ∷ true ∷ true ∷ true ∷ false ∷ []
  pub ceiling_six : (well_made (sized 2 6) ≡ true) × (network_rules (sized 2 6) ≡ false) × (kept (sized 2 6) ≡ true ∷ true ∷ true ∷ true ∷ false ∷ [])
  pub diagonal : kept (limit_to 1 1 1 (net 2 7)) ≡ false ∷ true ∷ true ∷ false ∷ true ∷ []
  pub one_way_lem : kept (limit_to 0 1 1 (net 2 7)) ≡ true ∷ false ∷ true ∷ true ∷ true ∷ []
  pub allowance_above : kept (allow 1 1 (net 1 7)) ≡ true ∷ true ∷ false ∷ true ∷ true ∷ []
  pub limit-above : kept (link 0 1 1 (net 1 7)) ≡ true ∷ true ∷ false ∷ true ∷ true ∷ []
  pub not-reached : kept (link 2 3 1 (link 0 1 1 (net 4 7))) ≡ true ∷ true ∷ true ∷ false ∷ true ∷ []
  -- a wrong field: 1
  pub wrong_n : (well_made (sized 0 7) ≡ false) × (well_made (sized 9 7) ≡ false)
  pub wrong_t : (well_made (sized 2 0) ≡ false) × (well_made (sized 2 65536) ≡ false) × (well_made (sized 2 65535) ≡ true)
  pub wrong_limit : (well_made (link 0 1 33 pair) ≡ false) × (well_made (link 0 1 32 pair) ≡ true)
  pub wrong_allowance : (well_made (allow 0 65536 pair) ≡ false) × (well_made (allow 0 65535 pair) ≡ true)
  pub wrong_length : (well_made (allow 8 0 pair) ≡ false) × (well_made (limit_to 8 0 0 pair) ≡ false) × (well_made (limit_to 0 8 0 pair) ≡ false)

pub headers : Headers
unfolding kept
headers =
    record {
      listing-accepted = (refl, refl);
      lone-accepted = (refl, refl);
      strict-accepted = (refl, refl);
      middle-accepted = (refl, refl);
      winding-accepted = (refl, refl);
      triangle-accepted = (refl, refl);
      row-accepted = (refl, refl);
      skewed-accepted = (refl, refl);
      skewed-refused = refl;
      ceiling_six = (refl, refl, refl);
      diagonal = refl;
      one_way_lem = refl;
      allowance_above = refl;
      limit-above = refl;
      not-reached = refl;
      wrong_n = (refl, refl);
      wrong_t = (refl, refl, refl);
      wrong_limit = (refl, refl);
      wrong_allowance = (refl, refl);
      wrong_length = (refl, refl, refl);
    }

-- ---- states of the listing's network, as an area may hold them
-- eight of them: a, b and six times d
abbrev pub two : {A : Type 0} → A → A → A → List A
two d a b = a ∷ b ∷ replicate 6 d

-- a record of station 0: its counts for itself and for 1, mode, phase, own entries, messages sent to 1, req and done seen from 1
abbrev pub held : ℕ → ℕ → Mode → ℕ → ℕ → ℕ → Bool → Bool → Station vector
held a b m p e f q d =
    record { time = two 0 a b; mode = m; phase = p; own = e; sent = two 0 0 f; reqs = two false false q; dones = two false false d }

-- one with these counts, and nothing else
abbrev counting : List ℕ → Station vector
counting v = with_time v blank_station

-- the initial state with that record, and with q on the link from i to j
abbrev pub with : Station vector → State vector
with x = set_station (initial vector pair) 0 x

abbrev pub on : ℕ → ℕ → List (Item vector) → State vector → State vector
on i j q s = set_link s i j q

-- n messages that bear a and b
abbrev pub notes : ℕ → ℕ → ℕ → List (Item vector)
notes n a b = replicate n (message (two 0 a b) 4294967295)

-- the initial state with station 1 in a phase, and nothing else changed
abbrev ahead : ℕ → State vector
ahead p = set_station (initial vector pair) 1 (with_phase p (with_dones (two false true false) blank_station))

-- unfolds all that the test and a step compute with
unfoldable pub formed_in : Config → State vector → Bool
unfolding kept lines_from timestamp_fits sent_fits marks_fit station_fits link_fits shape_fits well_formed stations_quiescent links_empty quiescent
formed_in c s = well_formed c s

unfoldable pub formed : State vector → Bool
unfolding formed_in
formed s = formed_in pair s

pub record States : Type 0 where
  -- well formed: the initial state, the one after the listing, and the greatest of each number
  pub initial-formed : formed (initial vector pair) ≡ true
  pub listing-formed : formed (run pair (initial vector pair) listing) ≡ true
  pub greatest : formed (on 0 1 (notes 4 7 7) (on 1 0 (reset_req ∷ reset_done ∷ notes 2 0 7) (with (held 7 7 stand_by 999999 3 2 true true)))) ≡ true
  -- a count above t; of a station n or above; nine counts
  pub wrong_count : (formed (with (held 8 0 normal 0 0 0 false true)) ≡ false)
      × (formed (with (counting (0 ∷ 0 ∷ 1 ∷ replicate 5 0))) ≡ false)
      × (formed (with (counting (replicate 9 0))) ≡ false)
      × (formed (with (counting (replicate 8 0))) ≡ true)
  pub wrong_phase : formed (with (held 0 0 normal 1000000 0 0 false true)) ≡ false
  -- own entries above the allowance, messages sent above the limit
  pub wrong_own : formed (with (held 0 0 normal 0 4 0 false true)) ≡ false
  pub wrong_sent : formed (with (held 0 0 normal 0 0 3 false true)) ≡ false
  -- sent, req seen or done seen of a non-neighbour: station 0 itself
  pub wrong_peer : (formed (with (with_sent (two 0 1 0) blank_station)) ≡ false)
      × (formed (with (with_reqs (two false true false) blank_station)) ≡ false)
      × (formed (with (with_dones (two false true false) blank_station)) ≡ false)
  -- a station of n or above holds nothing
  pub nobody : (formed (set_station (initial vector pair) 2 (held 0 0 mute 0 0 0 false false)) ≡ false)
      × (formed (set_station (initial vector pair) 7 (held 0 0 normal 1 0 0 false false)) ≡ false)
      × (formed (set_station (initial vector pair) 2 (held 1 0 normal 0 0 0 false false)) ≡ false)
      × (formed (set_station (initial vector pair) 8 (held 0 0 normal 0 0 0 false false)) ≡ false)
  -- a link with more items than places; with one where there is no link; a message's count or register number out of range
  pub wrong_link : (formed (on 0 1 (notes 5 0 0) (initial vector pair)) ≡ false) × (formed (on 0 0 (reset_req ∷ []) (initial vector pair)) ≡ false)
  -- the places of a link are those of its own direction: five from 0 to 1, three back
  pub wrong_direction : (formed_in (skewed 8) (on 1 0 (notes 3 0 0) (on 0 1 (notes 5 0 0) (initial vector (skewed 8)))) ≡ true)
      × (formed_in (skewed 8) (on 1 0 (notes 4 0 0) (initial vector (skewed 8))) ≡ false) × (formed_in (skewed 8) (on 0 1 (notes 6 0 0) (initial vector (skewed 8))) ≡ false)
  pub wrong_message : (formed (on 0 1 (notes 1 8 0) (initial vector pair)) ≡ false) × (formed (on 0 1 (message (0 ∷ two 0 0 1) 1 ∷ []) (initial vector pair)) ≡ false)
      × (formed (on 0 1 (message (0 ∷ 0 ∷ 1 ∷ replicate 5 0) 1 ∷ []) (initial vector pair)) ≡ false) × (formed (on 0 1 (message zeros 4294967296 ∷ []) (initial vector pair)) ≡ false)
  -- quiescent: all normal and in one phase, with nothing under way
  pub rests : (quiescent pair (initial vector pair) ≡ true) × (quiescent pair (run pair (initial vector pair) listing) ≡ true)
      × (quiescent pair (with (held 0 0 normal 1 0 0 false true)) ≡ false) × (quiescent pair (with (held 0 0 mute 0 0 0 false true)) ≡ false)
      × (formed (ahead 1) ≡ true) × (quiescent pair (ahead 1) ≡ false) × (quiescent pair (ahead 0) ≡ true)

pub states : States
unfolding formed
states =
    record {
      initial-formed = refl;
      listing-formed = refl;
      greatest = refl;
      wrong_count = (refl, refl, refl, refl);
      wrong_phase = refl;
      wrong_own = refl;
      wrong_sent = refl;
      wrong_peer = (refl, refl, refl);
      nobody = (refl, refl, refl, refl);
      wrong_link = (refl, refl);
      wrong_direction = (refl, refl, refl);
      wrong_message = (refl, refl, refl, refl);
      rests = (refl, refl, refl, refl, refl, refl, refl);
    }

-- ---- steps on such states
-- s is well formed, and a list of steps from it is answered so
abbrev pub Lent : State vector → List Step → List Line → Type 0
Lent s ps out = (formed s ≡ true) × (lines_from pair s ps ≡ out)

pub record LentSteps : Type 0 where
  -- 8 in phase 999,999, and not before it; 5 comes before 8
  pub start_at_last : Lent (with (held 0 0 normal 999999 0 0 false true)) (start 0 ∷ start 1 ∷ []) (no_line 8 ∷ mode_line 0 1 mute ∷ [])
  pub start_before : Lent (with (held 0 0 normal 999998 0 0 false true)) (start 0 ∷ []) (mode_line 999998 0 mute ∷ [])
  pub five_before_eight : Lent (with (held 0 0 stand_by 999999 0 0 false true)) (start 0 ∷ []) (no_line 5 ∷ [])
  -- 2 where a bound would be met: rule c in the last phase; a count at the ceiling, for each kind of entry; a full link, at a send, a start, and a receipt
  -- by which rule c or rule a puts a control item on it. The state is left: the next step finds it so
  pub phase-beyond : Lent (on 1 0 (reset_req ∷ []) (with (held 0 0 normal 999999 0 0 false true))) (recv 0 1 ∷ enter 0 1 ∷ []) (no_line 2 ∷ entry_line 999999 0 (1 ∷ 0 ∷ []) ∷ [])
  pub count-beyond : Lent (on 1 0 (notes 1 0 0) (with (held 7 0 normal 0 2 1 false true))) (enter 0 1 ∷ send 0 1 1 ∷ recv 0 1 ∷ []) (no_line 2 ∷ no_line 2 ∷ no_line 2 ∷ [])
  pub item-beyond : Lent (on 0 1 (notes 4 0 0) (with (held 0 0 normal 0 0 0 false true))) (send 0 1 1 ∷ start 0 ∷ recv 1 0 ∷ send 0 1 1 ∷ []) (no_line 2 ∷ no_line 2 ∷ receipt_line 0 1 (0 ∷ 1 ∷ []) 0 ∷ entry_line 0 0 (1 ∷ 0 ∷ []) ∷ [])
  pub item-beyond_by_c : Lent (on 0 1 (notes 4 0 0) (on 1 0 (reset_req ∷ []) (with (held 0 0 normal 0 0 0 false true)))) (recv 0 1 ∷ recv 0 1 ∷ []) (no_line 2 ∷ no_line 2 ∷ [])
  pub item-beyond_by_a : Lent (on 0 1 (notes 4 0 0) (on 1 0 (reset_req ∷ []) (with (held 0 0 mute 0 0 0 false true)))) (recv 0 1 ∷ recv 0 1 ∷ []) (no_line 2 ∷ no_line 2 ∷ [])
  -- it comes last: after 4, 7, 5, 8 and 6
  pub four_before_bound : Lent (with (held 7 0 normal 0 0 0 false true)) (send 0 0 1 ∷ enter 2 1 ∷ []) (no_line 4 ∷ no_line 4 ∷ [])
  pub seven_before_bound : Lent (with (held 7 0 normal 0 0 0 false true)) (recv 0 1 ∷ []) (no_line 7 ∷ [])
  pub five_before_bound : Lent (on 0 1 (notes 4 0 0) (with (held 7 0 mute 0 0 0 false true))) (send 0 1 1 ∷ start 0 ∷ []) (no_line 5 ∷ no_line 5 ∷ [])
  pub eight_before_bound : Lent (on 0 1 (notes 4 0 0) (with (held 0 0 normal 999999 0 0 false true))) (start 0 ∷ []) (no_line 8 ∷ [])
  pub six_before_bound : Lent (with (held 7 0 normal 0 3 2 false true)) (enter 0 1 ∷ send 0 1 1 ∷ []) (no_line 6 ∷ no_line 6 ∷ [])
  -- a receipt raises each other count to the greater, and the own count by 1 whatever the message bears; news is what grew of the others
  pub own-count : Lent (on 1 0 (notes 1 5 3) (with (held 2 1 normal 0 0 0 false true))) (recv 0 1 ∷ []) (receipt_line 0 0 (3 ∷ 3 ∷ []) 1 ∷ [])
  pub others_greater : Lent (on 1 0 (notes 1 5 3) (with (held 2 4 normal 0 0 0 false true))) (recv 0 1 ∷ []) (receipt_line 0 0 (3 ∷ 4 ∷ []) 0 ∷ [])
  -- three rules in a row, b, c and a: a reset at once, into the next phase's stand-by
  pub three_in_a_row : Lent (on 1 0 (reset_done ∷ []) (with (held 1 0 stand_by 4 1 0 true false))) (recv 0 1 ∷ recv 1 0 ∷ recv 1 0 ∷ recv 1 0 ∷ []) (mode_line 5 0 stand_by ∷ mode_line 1 1 stand_by ∷ mode_line 1 1 normal ∷ no_line 7 ∷ [])

pub lent_steps : LentSteps
unfolding formed lines_from
lent_steps =
    record {
      start_at_last = (refl, refl);
      start_before = (refl, refl);
      five_before_eight = (refl, refl);
      phase-beyond = (refl, refl);
      count-beyond = (refl, refl);
      item-beyond = (refl, refl);
      item-beyond_by_c = (refl, refl);
      item-beyond_by_a = (refl, refl);
      four_before_bound = (refl, refl);
      seven_before_bound = (refl, refl);
      five_before_bound = (refl, refl);
      eight_before_bound = (refl, refl);
      six_before_bound = (refl, refl);
      own-count = (refl, refl);
      others_greater = (refl, refl);
      three_in_a_row = (refl, refl);
    }

-- ---- rest while an item is under way
-- s is well formed, its stations are normal and in one phase; and it is quiescent, or not
abbrev pub Still : Config → State vector → Bool → Type 0
Still c s b = (formed_in c s ≡ true) × (stations_quiescent c s ≡ true) × (quiescent c s ≡ b)

-- after a list of steps from the initial network
abbrev pub StillAfter : Config → List Step → Bool → Type 0
StillAfter c ps b = Still c (run c (initial vector c) ps) b

-- a whole reset of the listing's network, which station 0 starts
abbrev pub whole_reset : List Step
whole_reset = start 0 ∷ recv 1 0 ∷ recv 0 1 ∷ recv 0 1 ∷ recv 1 0 ∷ []

pub record UnderWay : Type 0 where
  -- a message is under way, on either link; then it is received
  pub sent : StillAfter pair (send 0 1 1 ∷ []) false × StillAfter pair (send 1 0 1 ∷ []) false
  pub received : StillAfter pair (send 0 1 1 ∷ recv 1 0 ∷ []) true × StillAfter pair (send 1 0 1 ∷ recv 0 1 ∷ []) true
  -- one of two is received, on one link and on two
  pub one_of_two : StillAfter pair (send 0 1 1 ∷ send 0 1 2 ∷ recv 1 0 ∷ []) false × StillAfter pair (send 0 1 1 ∷ send 1 0 2 ∷ recv 1 0 ∷ []) false
  -- an own entry puts nothing under way
  pub entered : StillAfter pair (enter 0 1 ∷ []) true
  -- a reset: no while it lasts, and yes in the next phase; then no again, while a message of that phase is under way
  pub resetting : (quiescent pair (run pair (initial vector pair) (start 0 ∷ [])) ≡ false) × StillAfter pair whole_reset true × StillAfter pair (whole_reset ++ (send 1 0 1 ∷ [])) false
  -- a control item alone, which steps from an initial network put on no link of normal stations in one phase
  pub control : Still pair (on 0 1 (reset_req ∷ []) (initial vector pair)) false × Still pair (on 1 0 (reset_done ∷ []) (initial vector pair)) false
  -- a done is received there
  pub done-received : Still pair (run pair (on 1 0 (reset_done ∷ []) (initial vector pair)) (recv 0 1 ∷ [])) true
  -- the first and the last link of eight stations
  pub each_end : Still winding (initial vector winding) true × Still winding (on 0 7 (reset_done ∷ []) (initial vector winding)) false
      × Still winding (on 7 3 (notes 1 0 0) (initial vector winding)) false
  -- a lone station has no link: it is always at rest
  pub lone-rests : StillAfter lone [] true × StillAfter lone (enter 0 1 ∷ start 0 ∷ []) true

pub under_way_lem : UnderWay
unfolding formed lines_from
under_way_lem =
    record {
      sent = ((refl, refl, refl), (refl, refl, refl));
      received = ((refl, refl, refl), (refl, refl, refl));
      one_of_two = ((refl, refl, refl), (refl, refl, refl));
      entered = (refl, refl, refl);
      resetting = (refl, (refl, refl, refl), (refl, refl, refl));
      control = ((refl, refl, refl), (refl, refl, refl));
      done-received = (refl, refl, refl);
      each_end = ((refl, refl, refl), (refl, refl, refl), (refl, refl, refl));
      lone-rests = ((refl, refl, refl), (refl, refl, refl));
    }
