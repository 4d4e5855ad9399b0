-- What demand 3 speaks of, computed on worked lists: accepted entries, messages taken, the plain network of each phase, phases after, and happened-before
-- beside the order of timestamps. Assumes nothing.
use Rattle.std.specs.Prelude.{ℕ, ◌<◌, ◌≡◌, refl, ◌↔◌, List, [], ◌∷◌, map, Bool, true, false, not, ◌&&◌, ◌||◌, eqb, leb, get_or, take, length, replicate}
use Rattle.codec.specs.Every.{every, some}
use Rattle.codec.specs.Rows.{upto}
use Rattle.reset.specs.Config.{Config}
use Rattle.reset.specs.Clock.{vector}
use Rattle.reset.specs.Steps.{Step, enter, send, recv, start}
use Rattle.reset.specs.Network.{initial, Answered, log}
use Rattle.reset.specs.Worked.{lines_from, pair, middle, listing}
use Rattle.causality.specs.Plain.{Message, at₁, at₂, plain_initial, stuck, told, plain_told, plain_after, fed}
use Rattle.causality.specs.HappenedBefore.{Accepted, accepted, phase_of, timestamp_of, HappenedBefore}
use Rattle.causality.specs.Sound.{takens, told_of, phase_after}

-- the list's steps with their answers; unfolding it unfolds all that is computed here
unfoldable pub log_of : Config → List Step → List Answered
unfolding lines_from at₁ at₂
log_of c ps = log c (initial vector c) ps

abbrev pub takens_of : Config → List Step → List (List Message)
takens_of c ps = takens c (initial vector c) ps

-- the eight counts of a network of two stations
abbrev pub eight : ℕ → ℕ → List ℕ
eight a b = a ∷ b ∷ replicate 6 0

-- a message that bears them
abbrev pub note : ℕ → ℕ → ℕ → Message
note a b g = record { counts = eight a b; register = g }

-- ---- document 01's listing
pub record Listing : Type 0 where
  -- the accepted entries, and the messages that they took
  pub entries : map (λ (x : Accepted). x.step) (accepted (log_of pair listing)) ≡ enter 0 501 ∷ send 0 1 502 ∷ recv 1 0 ∷ send 1 0 503 ∷ recv 0 1 ∷ []
  pub messages : takens_of pair listing ≡ [] ∷ [] ∷ (note 2 0 502 ∷ []) ∷ [] ∷ (note 0 1 503 ∷ []) ∷ []
  -- what the plain network is fed for each phase; what is told of that, there and in the network
  pub fed_0 : fed 0 (log_of pair listing) ≡ enter 0 501 ∷ send 0 1 502 ∷ recv 1 0 ∷ []
  pub fed_1 : fed 1 (log_of pair listing) ≡ send 1 0 503 ∷ recv 0 1 ∷ []
  pub fed_2 : fed 2 (log_of pair listing) ≡ []
  pub plain_0 : plain_told plain_initial (fed 0 (log_of pair listing)) ≡ told (eight 1 0) [] ∷ told (eight 2 0) [] ∷ told (eight 2 1) (note 2 0 502 ∷ []) ∷ []
  pub network_0 : told_of 0 (accepted (log_of pair listing)) (takens_of pair listing) ≡ told (eight 1 0) [] ∷ told (eight 2 0) [] ∷ told (eight 2 1) (note 2 0 502 ∷ []) ∷ []
  pub plain_1 : plain_told plain_initial (fed 1 (log_of pair listing)) ≡ told (eight 0 1) [] ∷ told (eight 1 1) (note 0 1 503 ∷ []) ∷ []
  pub network_1 : told_of 1 (accepted (log_of pair listing)) (takens_of pair listing) ≡ told (eight 0 1) [] ∷ told (eight 1 1) (note 0 1 503 ∷ []) ∷ []
  -- a receipt from an empty queue has no result
  pub plain_stuck : plain_told plain_initial (enter 0 1 ∷ recv 0 1 ∷ enter 0 2 ∷ []) ≡ told (eight 1 0) [] ∷ stuck ∷ []
  -- phases after: after five steps station 0 has left phase 0, after seven both have, and then no message is in a queue of phase 0
  pub phases_5 : (phase_after 0 (log_of pair (take 5 listing)) ≡ 1) × (phase_after 1 (log_of pair (take 5 listing)) ≡ 0)
  pub phases_7 : (phase_after 0 (log_of pair (take 7 listing)) ≡ 1) × (phase_after 1 (log_of pair (take 7 listing)) ≡ 1)
  pub under_way_lem : (plain_after plain_initial (fed 0 (log_of pair (take 3 listing)))).queue 0 1 ≡ note 2 0 502 ∷ []
  pub emptied : ((plain_after plain_initial (fed 0 (log_of pair (take 7 listing)))).queue 0 1 ≡ []) × ((plain_after plain_initial (fed 0 (log_of pair (take 7 listing)))).queue 1 0 ≡ [])

pub worked-listing : Listing
unfolding log_of
worked-listing =
    record {
      entries = refl;
      messages = refl;
      fed_0 = refl;
      fed_1 = refl;
      fed_2 = refl;
      plain_0 = refl;
      network_0 = refl;
      plain_1 = refl;
      network_1 = refl;
      plain_stuck = refl;
      phases_5 = (refl, refl);
      phases_7 = (refl, refl);
      under_way_lem = refl;
      emptied = (refl, refl);
    }

-- ---- happened-before, and the order of timestamps
-- less: different, and no count greater
abbrev less : List ℕ → List ℕ → Bool
less v w = some 8 (λ (k : ℕ). not (eqb (get_or v k 0) (get_or w k 0))) && every 8 (λ (k : ℕ). leb (get_or v k 0) (get_or w k 0))

-- of one phase, and with the lesser timestamp
abbrev less_in : List Accepted → ℕ → ℕ → Bool
less_in E x y = eqb (phase_of E x) (phase_of E y) && less (timestamp_of E x) (timestamp_of E y)

-- a table: for each entry, the entries that come after it
abbrev holds : List ℕ → ℕ → Bool
holds [] y = false
holds (x ∷ l) y = eqb x y || holds l y

abbrev pub in_table : List (List ℕ) → ℕ → ℕ → Bool
in_table t x y = holds (get_or t x []) y

-- two entries of E that a table R has
abbrev pub Inside : List Accepted → (ℕ → ℕ → Bool) → ℕ → ℕ → Type 0
Inside E R x y = (x < length E) × (y < length E) × (R x y ≡ true)

-- a relation of n entries as rows of true and false
abbrev rows_of : ℕ → (ℕ → ℕ → Bool) → List (List Bool)
rows_of n R = upto n (λ (x : ℕ). upto n (R x))

-- one phase: station 1 enters and sends, 2 enters, 0 receives and sends on, 2 receives. The entry of 2 is unordered with all but its receipt
abbrev pub relayed : List Step
relayed = enter 1 1 ∷ send 1 0 2 ∷ enter 2 3 ∷ recv 0 1 ∷ send 0 2 4 ∷ recv 2 0 ∷ []

abbrev pub relayed_table : List (List ℕ)
relayed_table = (1 ∷ 3 ∷ 4 ∷ 5 ∷ []) ∷ (3 ∷ 4 ∷ 5 ∷ []) ∷ (5 ∷ []) ∷ (4 ∷ 5 ∷ []) ∷ (5 ∷ []) ∷ []

-- two phases: both stations enter, reset and enter again; control items order nothing
abbrev pub crossing : List Step
crossing = enter 0 1 ∷ enter 1 2 ∷ start 0 ∷ recv 1 0 ∷ recv 0 1 ∷ recv 0 1 ∷ recv 1 0 ∷ enter 0 3 ∷ enter 1 4 ∷ []

abbrev pub crossing_table : List (List ℕ)
crossing_table = (2 ∷ []) ∷ (3 ∷ []) ∷ []

-- the listing: a line of entries over two phases, and within each the order of timestamps
abbrev pub listing_table : List (List ℕ)
listing_table = (1 ∷ 2 ∷ 3 ∷ 4 ∷ []) ∷ (2 ∷ 3 ∷ 4 ∷ []) ∷ (3 ∷ 4 ∷ []) ∷ (4 ∷ []) ∷ []

-- happened-before is the table, and the timestamps of one phase are in that order
pub record Orders (c : Config) (ps : List Step) (n : ℕ) (before less : List (List ℕ)) : Type 0 where
  pub number : length (accepted (log_of c ps)) ≡ n
  pub exact : (x y : ℕ) → HappenedBefore (accepted (log_of c ps)) x y ↔ Inside (accepted (log_of c ps)) (in_table before) x y
  pub timestamps : rows_of n (less_in (accepted (log_of c ps))) ≡ rows_of n (in_table less)

-- of the three lists: `worked-orders` in `proofs/Tables`
pub record OrderedLists : Type 0 where
  pub relayed-orders : Orders middle relayed 6 relayed_table relayed_table
  pub crossing-orders : Orders pair crossing 4 crossing_table []
  pub listing-orders : Orders pair listing 5 listing_table ((1 ∷ 2 ∷ []) ∷ (2 ∷ []) ∷ [] ∷ (4 ∷ []) ∷ [])
