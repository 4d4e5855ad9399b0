-- Lists of steps worked by the definitions, each answer computed: document 01's listing, and for each fault that a definition of the steps could have a list
-- that such a definition would answer otherwise. Assumes nothing.
use Rattle.std.specs.Prelude.{ℕ, ◌≡◌, refl, List, [], ◌∷◌, ◌++◌, map, cond, get_or, take, drop, replicate}
use Rattle.codec.specs.Every.{every, some, count_below}
use Rattle.codec.specs.Put.{put}
use Rattle.codec.specs.Rows.{upto}
use Rattle.clock.specs.Timestamp.{zeros, news}
use Rattle.reset.specs.Reach.{limit, linked}
use Rattle.reset.specs.Config.{Config, is_station, neighbours, limit_at, allowance_at, places}
use Rattle.reset.specs.Clock.{vector}
use Rattle.reset.specs.State.{Mode, normal, mute, stand_by, State, none_seen, station_at, link_at, set_station, set_link, put_linked, put_first, put_on_all}
use Rattle.reset.specs.Steps.{every_neighbour, some_neighbour, begin_reset, renew, wake, turn_once, turn, Step, enter, send, recv, start, Answer, is_receipt, refused, entry, mode_after, guard, in_bounds, bounded}
use Rattle.reset.specs.Network.{initial, Answered, log}

-- ---- headers, as turnover's lines set them
abbrev pub net : ℕ → ℕ → Config
net n t = record { n = n; t = t; allowances = replicate 8 0; limits = replicate 8 (replicate 8 0) }

abbrev pub allow : ℕ → ℕ → Config → Config
allow i a c = record { n = c.n; t = c.t; allowances = put 0 c.allowances i a; limits = c.limits }

-- one limit, from i to j
abbrev pub limit_to : ℕ → ℕ → ℕ → Config → Config
limit_to i j l c = record { n = c.n; t = c.t; allowances = c.allowances; limits = put [] c.limits i (put 0 (get_or c.limits i []) j l) }

-- both ways
abbrev pub link : ℕ → ℕ → ℕ → Config → Config
link i j l c = limit_to j i l (limit_to i j l c)

-- ---- answers, as turnover prints them: entry, phase, station and the n counts, and for a receipt its news; mode, phase, station and mode; no and
-- the refusal
pub data Line : Type 0 where
  entry_line : ℕ → ℕ → List ℕ → Line
  receipt_line : ℕ → ℕ → List ℕ → ℕ → Line
  mode_line : ℕ → ℕ → Mode → Line
  no_line : ℕ → Line

abbrev pub line : Config → Answer → Line
line c (refused k) = no_line k
line c (entry e) = cond (is_receipt e) (receipt_line e.phase e.station (take c.n e.counts) e.news) (entry_line e.phase e.station (take c.n e.counts))
line c (mode_after i m p) = mode_line p i m

-- the answers of a list of steps, from a state and from the initial one; unfolding it unfolds all that a step computes with
unfoldable pub lines_from : Config → State vector → List Step → List Line
unfolding zeros news every some count_below upto limit linked is_station neighbours limit_at allowance_at places none_seen station_at link_at set_station set_link put_linked put_first put_on_all every_neighbour some_neighbour begin_reset renew wake turn_once turn guard in_bounds bounded initial
lines_from c s ps = map (λ (x : Answered). line c x.answer) (log c s ps)

unfoldable pub lines : Config → List Step → List Line
unfolding lines_from
lines c ps = lines_from c (initial vector c) ps

-- ---- document 01's listing
abbrev pub pair : Config
pair = link 0 1 2 (allow 1 3 (allow 0 3 (net 2 7)))

abbrev pub listing : List Step
listing = enter 0 501 ∷ send 0 1 502 ∷ start 1 ∷ recv 1 0 ∷ recv 0 1 ∷ recv 1 0 ∷ recv 1 0 ∷ send 1 0 503 ∷ recv 0 1 ∷ recv 0 1 ∷ recv 0 1 ∷ []

pub worked-listing : lines pair listing
    ≡ entry_line 0 0 (1 ∷ 0 ∷ [])
    ∷ entry_line 0 0 (2 ∷ 0 ∷ [])
    ∷ mode_line 0 1 mute
    ∷ receipt_line 0 1 (2 ∷ 1 ∷ []) 1
    ∷ mode_line 1 0 stand_by
    ∷ mode_line 1 1 stand_by
    ∷ mode_line 1 1 normal
    ∷ entry_line 1 1 (0 ∷ 1 ∷ [])
    ∷ mode_line 1 0 normal
    ∷ receipt_line 1 0 (1 ∷ 1 ∷ []) 1
    ∷ no_line 7
    ∷ []
unfolding lines
worked-listing = refl

-- ---- small networks
-- a lone station
abbrev pub lone : Config
lone = allow 0 1 (net 1 7)

-- two stations, one message and one own entry each a phase
abbrev pub strict : Config
strict = link 0 1 1 (allow 1 1 (allow 0 1 (net 2 3)))

-- three stations in a line, station 0 in the middle
abbrev pub middle : Config
middle = link 0 2 1 (link 0 1 1 (allow 2 1 (allow 1 1 (allow 0 1 (net 3 5)))))

-- two stations whose links have different limits, 3 from 0 to 1 and 1 back: with t = 8 the sum rule just holds of station 0
abbrev pub skewed : ℕ → Config
skewed t = limit_to 1 0 1 (limit_to 0 1 3 (allow 0 4 (net 2 t)))

-- station 0 starts, 1 and 2 reset, and 0 has taken the req of each: it is in stand-by, with a done under way from each
abbrev pub all_reset : List Step
all_reset = start 0 ∷ recv 1 0 ∷ recv 2 0 ∷ recv 0 1 ∷ recv 0 2 ∷ []

-- station 0 takes the done of 1; 1 takes that of 0, and starts again; its req meets 0 in stand-by
abbrev pub req_in_stand_by : List Step
req_in_stand_by = recv 0 1 ∷ recv 1 0 ∷ start 1 ∷ recv 0 1 ∷ []

-- ---- what each list would show otherwise
pub record Traps : Type 0 where
  -- a start resets a lone station at once: the rules a and b, tried once only, would leave it in stand-by
  pub lone_start : lines lone (start 0 ∷ enter 0 1 ∷ enter 0 2 ∷ start 0 ∷ enter 0 3 ∷ start 1 ∷ [])
      ≡ mode_line 1 0 normal ∷ entry_line 1 0 (1 ∷ []) ∷ no_line 6 ∷ mode_line 2 0 normal ∷ entry_line 2 0 (1 ∷ []) ∷ no_line 4 ∷ []
  -- one req of two has come: no reset yet
  pub one_req-of_two : lines middle (take 4 all_reset) ≡ mode_line 0 0 mute ∷ mode_line 1 1 stand_by ∷ mode_line 1 2 stand_by ∷ mode_line 0 0 mute ∷ []
  -- the second has come: a reset, and a stand-by that waits for both dones (not forgotten at begin, they would be there)
  pub both_reqs : drop 4 (lines middle all_reset) ≡ mode_line 1 0 stand_by ∷ []
  -- a req that meets a station in stand-by is kept: when the last done comes rule b applies, and then rule c (dropped, or c left out after b: normal)
  pub req_in_stand_by_lem : drop 5 (lines middle (all_reset ++ req_in_stand_by ++ (recv 0 2 ∷ [])))
      ≡ mode_line 1 0 stand_by ∷ mode_line 1 1 normal ∷ mode_line 1 1 mute ∷ mode_line 1 0 stand_by ∷ mode_line 1 0 mute ∷ []
  -- in stand-by a send is refused to a neighbour whose done is unseen, and allowed to one whose done is seen; a start is refused
  pub sends_in_stand_by : drop 5 (lines middle (all_reset ++ (send 0 1 7 ∷ recv 0 1 ∷ send 0 1 8 ∷ send 0 2 9 ∷ start 0 ∷ [])))
      ≡ no_line 5 ∷ mode_line 1 0 stand_by ∷ entry_line 1 0 (1 ∷ 0 ∷ 0 ∷ []) ∷ no_line 5 ∷ no_line 5 ∷ []
  -- a done that comes before the reset is kept (forgotten at the reset: stand-by in the last line)
  pub done_while_mute : lines middle (start 0 ∷ recv 1 0 ∷ recv 0 1 ∷ recv 0 1 ∷ recv 2 0 ∷ recv 0 2 ∷ recv 0 2 ∷ [])
      ≡ mode_line 0 0 mute ∷ mode_line 1 1 stand_by ∷ mode_line 0 0 mute ∷ mode_line 0 0 mute ∷ mode_line 1 2 stand_by ∷ mode_line 1 0 stand_by ∷ mode_line 1 0 normal ∷ []
  -- own entries and messages sent are counted anew after the reset
  pub counted_anew : lines strict (enter 0 1 ∷ enter 0 2 ∷ send 0 1 3 ∷ send 0 1 4 ∷ start 0 ∷ recv 1 0 ∷ recv 1 0 ∷ recv 0 1 ∷ enter 0 5 ∷ recv 0 1 ∷ send 0 1 6 ∷ [])
      ≡ entry_line 0 0 (1 ∷ 0 ∷ []) ∷ no_line 6 ∷ entry_line 0 0 (2 ∷ 0 ∷ []) ∷ no_line 6 ∷ mode_line 0 0 mute ∷ receipt_line 0 1 (2 ∷ 1 ∷ []) 1 ∷ mode_line 1 1 stand_by
      ∷ mode_line 1 0 stand_by ∷ entry_line 1 0 (1 ∷ 0 ∷ []) ∷ mode_line 1 0 normal ∷ entry_line 1 0 (2 ∷ 0 ∷ []) ∷ []
  -- what was sent and entered in stand-by counts when the station is normal again: limit and allowance are used up
  pub counted_in_stand_by : drop 5 (lines middle (all_reset ++ (recv 0 1 ∷ send 0 1 7 ∷ enter 0 8 ∷ recv 0 2 ∷ send 0 1 9 ∷ enter 0 10 ∷ [])))
      ≡ mode_line 1 0 stand_by ∷ entry_line 1 0 (1 ∷ 0 ∷ 0 ∷ []) ∷ entry_line 1 0 (2 ∷ 0 ∷ 0 ∷ []) ∷ mode_line 1 0 normal ∷ no_line 6 ∷ no_line 6 ∷ []
  -- a start begins no new count: what was entered before it counts while the station is mute
  pub counted_while_mute : lines strict (enter 0 1 ∷ start 0 ∷ enter 0 2 ∷ []) ≡ entry_line 0 0 (1 ∷ 0 ∷ []) ∷ mode_line 0 0 mute ∷ no_line 6 ∷ []
  -- the limit of a send and the places of a link are those of its own direction, not of the way back
  pub own_direction : lines (skewed 8) (send 0 1 1 ∷ send 0 1 2 ∷ send 0 1 3 ∷ send 0 1 4 ∷ send 1 0 5 ∷ send 1 0 6 ∷ start 0 ∷ start 1 ∷ recv 0 1 ∷ recv 0 1 ∷ [])
      ≡ entry_line 0 0 (1 ∷ 0 ∷ []) ∷ entry_line 0 0 (2 ∷ 0 ∷ []) ∷ entry_line 0 0 (3 ∷ 0 ∷ []) ∷ no_line 6 ∷ entry_line 0 1 (0 ∷ 1 ∷ []) ∷ no_line 6
      ∷ mode_line 0 0 mute ∷ mode_line 0 1 mute ∷ receipt_line 0 0 (4 ∷ 1 ∷ []) 1 ∷ mode_line 1 0 stand_by ∷ []
  -- a link holds two items more than its limit: a message, a req and a done (one more only: 2)
  pub two_more_places : lines strict (send 0 1 1 ∷ start 0 ∷ start 1 ∷ recv 0 1 ∷ []) ≡ entry_line 0 0 (1 ∷ 0 ∷ []) ∷ mode_line 0 0 mute ∷ mode_line 0 1 mute ∷ mode_line 1 0 stand_by ∷ []
  -- a third send on a limit of 2
  pub third_send : lines pair (send 0 1 1 ∷ send 0 1 2 ∷ send 0 1 3 ∷ []) ≡ entry_line 0 0 (1 ∷ 0 ∷ []) ∷ entry_line 0 0 (2 ∷ 0 ∷ []) ∷ no_line 6 ∷ []
  -- a mute station sends nothing and starts nothing, and enters
  pub while_mute : lines pair (start 0 ∷ send 0 1 1 ∷ start 0 ∷ enter 0 2 ∷ []) ≡ mode_line 0 0 mute ∷ no_line 5 ∷ no_line 5 ∷ entry_line 0 0 (1 ∷ 0 ∷ []) ∷ []
  -- 4: a station or a peer of n and above, also of 8 and above, and a peer that is no neighbour
  pub number-four : lines middle (enter 3 1 ∷ send 3 0 1 ∷ recv 8 0 ∷ start 9 ∷ send 1 2 1 ∷ send 0 3 1 ∷ send 0 8 1 ∷ recv 1 2 ∷ recv 0 0 ∷ recv 0 300 ∷ []) ≡ replicate 10 (no_line 4)
  -- the order of refusals: 4 before 5 and before 7, 5 before 6
  pub four_five_six : drop 2 (lines strict (send 0 1 1 ∷ start 0 ∷ send 0 0 2 ∷ recv 0 0 ∷ send 0 1 3 ∷ recv 0 1 ∷ [])) ≡ no_line 4 ∷ no_line 4 ∷ no_line 5 ∷ no_line 7 ∷ []

pub traps : Traps
unfolding lines
traps =
    record {
      lone_start = refl;
      one_req-of_two = refl;
      both_reqs = refl;
      req_in_stand_by_lem = refl;
      sends_in_stand_by = refl;
      done_while_mute = refl;
      counted_anew = refl;
      counted_in_stand_by = refl;
      counted_while_mute = refl;
      own_direction = refl;
      two_more_places = refl;
      third_send = refl;
      while_mute = refl;
      number-four = refl;
      four_five_six = refl;
    }

-- ---- how much news messages bring
-- three stations, each linked to both others
abbrev pub triangle : Config
triangle = link 1 2 2 (link 0 2 2 (link 0 1 2 (net 3 9)))

-- eight stations in a row, and a message from each to the next lower, from 7 down to 0, each after a receipt
abbrev pub row : Config
row = link 6 7 1 (link 5 6 1 (link 4 5 1 (link 3 4 1 (link 2 3 1 (link 1 2 1 (link 0 1 1 (net 8 9)))))))

abbrev pub passed_on : List Step
passed_on = send 7 6 1 ∷ recv 6 7 ∷ send 6 5 2 ∷ recv 5 6 ∷ send 5 4 3 ∷ recv 4 5 ∷ send 4 3 4 ∷ recv 3 4 ∷ send 3 2 5 ∷ recv 2 3 ∷ send 2 1 6 ∷ recv 1 2 ∷ send 1 0 7 ∷ recv 0 1 ∷ []

-- the news of the receipts among lines, in their order
abbrev news_in : List Line → List ℕ
news_in [] = []
news_in (receipt_line p i v b ∷ l) = b ∷ news_in l
news_in (entry_line p i v ∷ l) = news_in l
news_in (mode_line p i m ∷ l) = news_in l
news_in (no_line k ∷ l) = news_in l

pub record News : Type 0 where
  -- a message that was overtaken by way of station 2 brings none; the one by that way brought two
  pub nothing_new : lines triangle (send 1 0 1 ∷ send 1 2 2 ∷ recv 2 1 ∷ send 2 0 3 ∷ recv 0 2 ∷ recv 0 1 ∷ [])
      ≡ entry_line 0 1 (0 ∷ 1 ∷ 0 ∷ []) ∷ entry_line 0 1 (0 ∷ 2 ∷ 0 ∷ []) ∷ receipt_line 0 2 (0 ∷ 2 ∷ 1 ∷ []) 1 ∷ entry_line 0 2 (0 ∷ 2 ∷ 2 ∷ [])
      ∷ receipt_line 0 0 (1 ∷ 2 ∷ 2 ∷ []) 2 ∷ receipt_line 0 0 (2 ∷ 2 ∷ 2 ∷ []) 0 ∷ []
  -- a message that is new of station 1 and old of station 2 brings one
  pub old_and_new : drop 4 (lines triangle (send 2 1 1 ∷ recv 1 2 ∷ send 2 0 2 ∷ send 1 0 3 ∷ recv 0 2 ∷ recv 0 1 ∷ []))
      ≡ receipt_line 0 0 (1 ∷ 0 ∷ 2 ∷ []) 1 ∷ receipt_line 0 0 (2 ∷ 2 ∷ 2 ∷ []) 1 ∷ []
  -- the own count, which the message bears too, is never news: it tells station 0 of 1 alone
  pub own_known : drop 2 (lines triangle (send 0 1 1 ∷ recv 1 0 ∷ send 1 0 2 ∷ recv 0 1 ∷ [])) ≡ entry_line 0 1 (1 ∷ 2 ∷ 0 ∷ []) ∷ receipt_line 0 0 (2 ∷ 2 ∷ 0 ∷ []) 1 ∷ []
  -- passed on along the row, each receipt brings one more, up to all seven others
  pub all_others : (news_in (lines row passed_on) ≡ 1 ∷ 2 ∷ 3 ∷ 4 ∷ 5 ∷ 6 ∷ 7 ∷ []) × (drop 13 (lines row passed_on) ≡ receipt_line 0 0 (1 ∷ 2 ∷ 2 ∷ 2 ∷ 2 ∷ 2 ∷ 2 ∷ 1 ∷ []) 7 ∷ [])

pub news_brought : News
unfolding lines
news_brought = record { nothing_new = refl; old_and_new = refl; own_known = refl; all_others = (refl, refl) }
