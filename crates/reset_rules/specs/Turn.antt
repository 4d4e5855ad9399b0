-- The reset rules (document 01: turning rules) on one station's record alone: the record after, and the control items that go on every link out, in order.
-- `proofs/TurnLaws.antt` shows that this is what the network's `turn` does. Assumes nothing.
use Rattle.std.specs.Prelude.{ℕ, List, [], ◌∷◌, ◌++◌}
use Rattle.reset.specs.Config.{Config}
use Rattle.reset.specs.Clock.{Clock}
use Rattle.reset.specs.State.{Item, reset_req, reset_done, Station, State, put_on_all}
use Rattle.reset.specs.Steps.{Rule, rule_a, rule_b, rule_c, no_rule, rule_of, applied, begun}

-- A record, and what was put on every link out so far.
pub record Turning (K : Clock) : Type 0 where
  pub station : Station K
  pub items : List (Item K)

-- what a rule puts on every link out: a reset_done, a begin reset_req
abbrev pub sends : {K : Clock} → Rule → List (Item K)
sends rule_a = reset_done ∷ []
sends rule_b = []
sends rule_c = reset_req ∷ []
sends no_rule = []

-- a rule applied
abbrev pub turned_by : {K : Clock} → Turning K → Rule → Turning K
turned_by t r = record { station = applied t.station r; items = t.items ++ sends r }

-- the first rule that applies to station i, once
unfoldable pub turned_once : {K : Clock} → Config → ℕ → Turning K → Turning K
turned_once c i t = turned_by t (rule_of c i t.station)

-- until none applies: three at most do
unfoldable pub turned_all : {K : Clock} → Config → ℕ → Turning K → Turning K
turned_all c i t = turned_once c i (turned_once c i (turned_once c i t))

-- the rules run on a record; begin, and then the rules
abbrev pub turned : {K : Clock} → Config → ℕ → Station K → Turning K
turned c i x = turned_all c i (record { station = x; items = [] })

abbrev pub started : {K : Clock} → Config → ℕ → Station K → Turning K
started c i x = turned_all c i (record { station = begun x; items = reset_req ∷ [] })

-- items put on every link out of i, one after the other
abbrev pub put_items : {K : Clock} → Config → State K → ℕ → List (Item K) → State K
put_items c s i [] = s
put_items c s i (x ∷ q) = put_items c (put_on_all c s i x) i q
