-- The steps (document 01, "The steps"): begin and the reset rules, then enter, send, recv and start with their refusals and answers. Assumes nothing.
use Rattle.std.specs.Prelude.{ℕ, suc, List, [], ◌∷◌, Bool, true, false, not, cond, ◌&&◌, ◌||◌, eqb, leb, get_or, length}
use Rattle.codec.specs.Every.{every, some}
use Rattle.codec.specs.Put.{put}
use Rattle.clock.specs.Timestamp.{zeros, news}
use Rattle.clock.specs.Range.{last_phase}
use Rattle.reset.specs.Config.{Config, is_station, neighbours, limit_at, allowance_at, places}
use Rattle.reset.specs.Clock.{Clock}
use Rattle.reset.specs.State.{Mode, normal, mute, stand_by, Item, message, reset_req, reset_done, Station, State, none_seen, station_at, link_at, req_seen, done_seen, sent_to, with_time, with_mode, with_phase, with_own, with_sent, with_reqs, with_dones, set_station, set_link, put_on, put_on_all}

-- ---- begin and the reset rules (document 01: turning rules)
-- p holds of every neighbour of i; of some neighbour of i
unfoldable pub every_neighbour : Config → ℕ → (ℕ → Bool) → Bool
every_neighbour c i p = every 8 (λ (j : ℕ). not (neighbours c i j) || p j)

unfoldable pub some_neighbour : Config → ℕ → (ℕ → Bool) → Bool
some_neighbour c i p = some 8 (λ (j : ℕ). neighbours c i j && p j)

-- the record after begin: all dones seen are forgotten; mute
abbrev pub begun : {K : Clock} → Station K → Station K
begun x = with_mode mute (with_dones none_seen x)

-- the record after rule a: phase +1; counts, own entries and messages sent 0; reqs seen forgotten; stand-by
abbrev pub renewed : {K : Clock} → Station K → Station K
renewed {K} x = with_mode stand_by (with_phase (suc x.phase) (with_time K.start (with_own 0 (with_sent zeros (with_reqs none_seen x)))))

-- the record after rule b: normal
abbrev pub woken : {K : Clock} → Station K → Station K
woken x = with_mode normal x

-- begin, at station i: reset_req on every link out, and the record after begin
unfoldable pub begin_reset : {K : Clock} → Config → ℕ → State K → State K
begin_reset c i s = put_on_all c (set_station s i (begun (station_at s i))) i reset_req

-- what rule a does at station i, its reset: the record after rule a, and reset_done on every link out
unfoldable pub renew : {K : Clock} → Config → ℕ → State K → State K
renew c i s = put_on_all c (set_station s i (renewed (station_at s i))) i reset_done

-- what rule b does at station i
unfoldable pub wake : {K : Clock} → ℕ → State K → State K
wake i s = set_station s i (woken (station_at s i))

-- which rule
pub data Rule : Type 0 where
  rule_a rule_b rule_c no_rule : Rule

-- the first rule that applies, each being for one mode:
-- (a) mute, and req seen from every neighbour; (b) stand-by, done seen from every neighbour; (c) normal and some req seen
abbrev pub rule_in : Mode → Bool → Bool → Bool → Rule
rule_in mute every_req every_done some_req = cond every_req rule_a no_rule
rule_in stand_by every_req every_done some_req = cond every_done rule_b no_rule
rule_in normal every_req every_done some_req = cond some_req rule_c no_rule

-- the one that applies to station i, whose record is x
abbrev pub rule_of : {K : Clock} → Config → ℕ → Station K → Rule
rule_of c i x = rule_in x.mode (every_neighbour c i (req_seen x)) (every_neighbour c i (done_seen x)) (some_neighbour c i (req_seen x))

-- the record after a rule
abbrev pub applied : {K : Clock} → Station K → Rule → Station K
applied x rule_a = renewed x
applied x rule_b = woken x
applied x rule_c = begun x
applied x no_rule = x

-- a rule applied at station i
abbrev pub apply : {K : Clock} → Config → ℕ → State K → Rule → State K
apply c i s rule_a = renew c i s
apply c i s rule_b = wake i s
apply c i s rule_c = begin_reset c i s
apply c i s no_rule = s

-- the first rule that applies, once; nothing where none does
unfoldable pub turn_once : {K : Clock} → Config → ℕ → State K → State K
turn_once c i s = apply c i s (rule_of c i (station_at s i))

-- the rules tried from the first again after each that applies, until none does: at most three apply in a row (`no_rule_left` in TurnLaws)
unfoldable pub turn : {K : Clock} → Config → ℕ → State K → State K
turn c i s = turn_once c i (turn_once c i (turn_once c i s))

-- ---- steps and answers
-- enter i reg; send i j reg; recv i j; start i
pub data Step : Type 0 where
  enter : ℕ → ℕ → Step
  send : ℕ → ℕ → ℕ → Step
  recv : ℕ → ℕ → Step
  start : ℕ → Step

-- the station that takes a step
abbrev pub station_of_step : Step → ℕ
station_of_step (enter i g) = i
station_of_step (send i j g) = i
station_of_step (recv i j) = i
station_of_step (start i) = i

-- An accepted entry's record: kind (1 own, 2 sent, 3 received), station, peer (255 for own), phase, register number, eight counts.
-- Beside the record, of a received one: how many of the other stations' counts grew, its news; else 0.
pub record Entry : Type 0 where
  pub kind : ℕ
  pub station : ℕ
  pub peer : ℕ
  pub phase : ℕ
  pub register : ℕ
  pub counts : List ℕ
  pub news : ℕ

-- a received entry, a receipt: its answer tells its news after its record
abbrev pub is_receipt : Entry → Bool
is_receipt e = eqb e.kind 3

-- A refusal's number; an accepted entry's record; for other steps the station, and its mode and phase after.
pub data Answer : Type 0 where
  refused : ℕ → Answer
  entry : Entry → Answer
  mode_after : ℕ → Mode → ℕ → Answer

-- What a step gives: its answer, and the state after.
pub record Outcome (K : Clock) : Type 0 where
  pub answer : Answer
  pub after : State K

-- refused with number k: the state is left as it was
abbrev pub refuse : {K : Clock} → State K → ℕ → Outcome K
refuse s k = record { answer = refused k; after = s }

-- refused with number k where the test holds, else o
unfoldable pub guard : {K : Clock} → State K → Bool → ℕ → Outcome K → Outcome K
guard s true k o = refuse s k
guard s false k o = o

-- the phase of station i at most 999,999; its count k at most t; the items on the link from i to j no more than its places
abbrev pub phase_bounded : {K : Clock} → State K → ℕ → Bool
phase_bounded s i = leb (station_at s i).phase last_phase

abbrev pub count_bounded : {K : Clock} → Config → State K → ℕ → ℕ → Bool
count_bounded {K} c s i k = leb (get_or (K.stamp i (station_at s i).time) k 0) c.t

abbrev pub link_bounded : {K : Clock} → Config → State K → ℕ → ℕ → Bool
link_bounded c s i j = leb (length (link_at s i j)) (places c i j)

-- all of them
unfoldable pub in_bounds : {K : Clock} → Config → State K → Bool
in_bounds c s = every 8 (phase_bounded s) && (every 8 (λ (i : ℕ). every 8 (count_bounded c s i)) && every 8 (λ (i : ℕ). every 8 (link_bounded c s i)))

-- refused with 2 where the state after would have an item, count or phase beyond its bound: no network that began as the initial one meets this
-- (`NeverBeyond`), only a state that was lent
unfoldable pub bounded : {K : Clock} → Config → State K → Outcome K → Outcome K
bounded c s o = guard s (not (in_bounds c o.after)) 2 o

-- ---- enter i reg: own count +1; the entry's timestamp (document 01: stamp) is the eight counts
-- the record after it
abbrev pub entered : {K : Clock} → ℕ → Station K → Station K
entered {K} i x = with_time (K.tick i x.time) (with_own (suc x.own) x)

-- an entry's record: its kind, station i, peer j, register number g, and phase and counts of the station, whose record is x after the step; its news b
abbrev pub entry_of : {K : Clock} → ℕ → ℕ → ℕ → ℕ → Station K → ℕ → Entry
entry_of {K} k i j g x b = record { kind = k; station = i; peer = j; phase = x.phase; register = g; counts = K.stamp i x.time; news = b }

-- the entry, of kind own
abbrev pub do_enter : {K : Clock} → ℕ → ℕ → State K → Outcome K
do_enter i g s =
    let x = entered i (station_at s i) in
    record { answer = entry (entry_of 1 i 255 g x 0); after = set_station s i x }

-- ---- send i j reg: own count +1; that timestamp and the register number are put on the link from i to j
-- the record after it: one message more is sent on that link
abbrev pub sending : {K : Clock} → ℕ → ℕ → Station K → Station K
sending {K} i j x = with_time (K.sent i j (K.tick i x.time)) (with_sent (put 0 x.sent j (suc (sent_to x j))) x)

-- the entry, of kind sent
abbrev pub do_send : {K : Clock} → ℕ → ℕ → ℕ → State K → Outcome K
do_send {K} i j g s =
    let x = sending i j (station_at s i) in
    record { answer = entry (entry_of 2 i j g x 0); after = put_on (set_station s i x) i j (message (K.load i j (K.tick i (station_at s i).time)) g) }

-- allowed in normal, and in stand-by where j's done is seen
abbrev pub may_send : Mode → Bool → Bool
may_send normal seen = true
may_send mute seen = false
may_send stand_by seen = seen

-- ---- recv i j: station i takes the first item of the link from j to i, and leaves q there
-- the record after a message: the counts are raised, own count +1
abbrev pub receiving : {K : Clock} → ℕ → ℕ → K.Load → Station K → Station K
receiving {K} i j w x = with_time (K.take i j w x.time) x

-- the news of it: how many of the other stations' counts grew, by the timestamps before and after
abbrev pub news_of : {K : Clock} → ℕ → Station K → Station K → ℕ
news_of {K} i x y = news i (K.stamp i x.time) (K.stamp i y.time)

-- the entry, of kind received, with the message's register number, and its news
abbrev pub do_receive : {K : Clock} → ℕ → ℕ → K.Load → ℕ → List (Item K) → State K → Outcome K
do_receive i j w g q s =
    let x = receiving i j w (station_at s i) in
    record { answer = entry (entry_of 3 i j g x (news_of i (station_at s i) x)); after = set_link (set_station s i x) j i q }

-- reset_req marks req seen, reset_done marks done seen, each in any mode
abbrev pub with_req : {K : Clock} → ℕ → Station K → Station K
with_req j x = with_reqs (put false x.reqs j true) x

abbrev pub with_done : {K : Clock} → ℕ → Station K → Station K
with_done j x = with_dones (put false x.dones j true) x

-- the reset rules run; the answer is station i's mode and phase after
abbrev pub settle : {K : Clock} → Config → ℕ → State K → Outcome K
settle c i s =
    let s' = turn c i s in
    record { answer = mode_after i (station_at s' i).mode (station_at s' i).phase; after = s' }

-- a control item, with the mark in station i's record x; then the reset rules
abbrev pub do_mark : {K : Clock} → Config → ℕ → ℕ → Station K → List (Item K) → State K → Outcome K
do_mark c i j x q s = settle c i (set_link (set_station s i x) j i q)

-- what recv does with the link from j to i, by its first item: 7 where it is empty
abbrev pub receive : {K : Clock} → Config → ℕ → ℕ → State K → List (Item K) → Outcome K
receive c i j s [] = refuse s 7
receive c i j s (message w g ∷ q) = bounded c s (do_receive i j w g q s)
receive c i j s (reset_req ∷ q) = bounded c s (do_mark c i j (with_req j (station_at s i)) q s)
receive c i j s (reset_done ∷ q) = bounded c s (do_mark c i j (with_done j (station_at s i)) q s)

-- ---- start i: begin, then the reset rules
abbrev pub do_start : {K : Clock} → Config → ℕ → State K → Outcome K
do_start c i s = settle c i (begin_reset c i s)

-- allowed in normal
abbrev pub is_normal : Mode → Bool
is_normal normal = true
is_normal mute = false
is_normal stand_by = false

-- and not in the last phase
abbrev pub in_last_phase : {K : Clock} → Station K → Bool
in_last_phase x = leb last_phase x.phase

-- ---- a step, its refusals in the order 4, 7, 5, 8, 6, 2:
-- 4 no station or no neighbour; 7 an empty link; 5 the mode forbids it; 8 a start in phase 999,999; 6 allowance or limit used up; 2 beyond a bound
abbrev pub step : {K : Clock} → Config → State K → Step → Outcome K
step c s (enter i g) =
    guard s (not (is_station c i)) 4
    (guard s (leb (allowance_at c (station_at s i).phase i) (station_at s i).own) 6
    (bounded c s (do_enter i g s)))
step c s (send i j g) =
    guard s (not (is_station c i)) 4
    (guard s (not (neighbours c i j)) 4
    (guard s (not (may_send (station_at s i).mode (done_seen (station_at s i) j))) 5
    (guard s (leb (limit_at c (station_at s i).phase i j) (sent_to (station_at s i) j)) 6
    (bounded c s (do_send i j g s)))))
step c s (recv i j) =
    guard s (not (is_station c i)) 4
    (guard s (not (neighbours c i j)) 4
    (receive c i j s (link_at s j i)))
step c s (start i) =
    guard s (not (is_station c i)) 4
    (guard s (not (is_normal (station_at s i).mode)) 5
    (guard s (in_last_phase (station_at s i)) 8
    (bounded c s (do_start c i s))))
