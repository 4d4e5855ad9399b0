-- The rules on a record and two slots. Assumes nothing.
use Prim.Native.Nat.{ℕ}
use mathlib.Core.Path.{◌≡◌, refl, ap, ◌∙◌}
use mathlib.Core.List.{List, []}
use mathlib.Core.Bool.{Bool, true, false, cond}
use lib.ListN.{get_or}
use Rattle.reset.specs.Config.{Config, neighbours}
use Rattle.reset.specs.Clock.{vector}
use Rattle.reset.specs.State.{Mode, normal, mute, stand_by, Station, req_seen, done_seen}
use Rattle.reset.specs.Steps.{every_neighbour, some_neighbour, Rule, rule_a, rule_b, rule_c, no_rule, rule_of, applied, begun, renewed}
use Rattle.reset.proofs.Views.{none_at}
use Rattle.reset.proofs.TurnLaws.{some_none}
use Rattle.reset_rules.specs.Turn.{Turning, turned_by, turned_once, turned_all, turned, started}
use Rattle.reset_rules.specs.Slots.{every_seen, some_seen, Slots, slot_items, slots_view, turned_view, fresh, asked, slot_by, slot_once, slot_all}
use Rattle.reset_rules.specs.declared.Turned.{Turned}
use Rattle.reset_rules.proofs.SeenLaws.{every_seen_lem, some_seen_lem}

-- ---- one rule, by the mode and a flag: whether the marks are seen, in the row of limits
module _ (c : Config) (i : ℕ) (t : Slots) (b : Bool) {row : List ℕ} (r : get_or c.limits i [] ≡ row) {f : Bool} where
  pub once_mute : t.station.mode ≡ mute → f ≡ every_seen row t.station.reqs → f ≡ b → slot_by t (cond b rule_a no_rule) ≡ slot_once c i t
  unfolding slot_once
  once_mute e h g = rw (e, every_seen_lem c i row r t.station.reqs, ← h, g)

  pub once-stand_by : t.station.mode ≡ stand_by → f ≡ every_seen row t.station.dones → f ≡ b → slot_by t (cond b rule_b no_rule) ≡ slot_once c i t
  unfolding slot_once
  once-stand_by e h g = rw (e, every_seen_lem c i row r t.station.dones, ← h, g)

  pub once-normal : t.station.mode ≡ normal → f ≡ some_seen row t.station.reqs → f ≡ b → slot_by t (cond b rule_c no_rule) ≡ slot_once c i t
  unfolding slot_once
  once-normal e h g = rw (e, some_seen_lem c i row r t.station.reqs, ← h, g)

-- ---- three rules in a row
-- a rule does the same to the record, whatever was sent
slot_station : (t : Slots) (r : Rule) → (slot_by t r).station ≡ applied t.station r
slot_station t rule_a = refl
slot_station t rule_b = refl
slot_station t rule_c = refl
slot_station t no_rule = refl

module _ (c : Config) (i : ℕ) where
  abbrev rule_at : Station vector → Rule
  rule_at = rule_of c i

  slots_by : (t : Slots) (r : Rule) → rule_at t.station ≡ r → slot_once c i t ≡ slot_by t r
  unfolding slot_once
  slots_by t r e = ap (slot_by t) e

  turned_by_lem : (t : Turning vector) (r : Rule) → rule_at t.station ≡ r → turned_once c i t ≡ turned_by t r
  unfolding turned_once
  turned_by_lem t r e = ap (turned_by t) e

  -- where the first three rules are these, the slots hold what they send if it is so for the rules
  three : (t : Slots) (a b d : Rule) → rule_at t.station ≡ a → rule_at (applied t.station a) ≡ b → rule_at (applied (applied t.station a) b) ≡ d
      → slot_items (slot_by (slot_by (slot_by t a) b) d) ≡ turned_by (turned_by (turned_by (slot_items t) a) b) d
      → slot_items (slot_all c i t) ≡ turned_all c i (slot_items t)
  unfolding turned_all
  three t a b d e f g h =
      let e₂ : rule_at (slot_by t a).station ≡ b = ap rule_at (slot_station t a) ∙ f in
      let e₃ : rule_at (slot_by (slot_by t a) b).station ≡ d = ap rule_at (slot_station (slot_by t a) b ∙ ap (λ (x : Station vector). applied x b) (slot_station t a)) ∙ g in
      rw (
        slots_by t a e,
        slots_by (slot_by t a) b e₂,
        slots_by (slot_by (slot_by t a) b) d e₃,
        turned_by_lem (slot_items t) a e,
        turned_by_lem (turned_by (slot_items t) a) b f,
        turned_by_lem (turned_by (turned_by (slot_items t) a) b) d g,
      ) h

  -- after a reset no req is seen
  no_req : (x : Station vector) → some_neighbour c i (req_seen (renewed x)) ≡ false
  unfolding some_neighbour
  no_req x = some_none 8 (neighbours c i) (req_seen (renewed x)) none_at

  module _ (x : Station vector) where
    abbrev qa : Bool
    qa = every_neighbour c i (req_seen x)

    abbrev da : Bool
    da = every_neighbour c i (done_seen x)

    abbrev qs : Bool
    qs = some_neighbour c i (req_seen x)

    abbrev db : Bool
    db = every_neighbour c i (done_seen (begun x))

    abbrev Same : Slots → Type 0
    Same t = slot_items (slot_all c i t) ≡ turned_all c i (slot_items t)

    -- by the mode, and the marks that the first, second and third rule look at
    from_mute : x.mode ≡ mute → (u v : Bool) → qa ≡ u → da ≡ v → Same (fresh x)
    from_mute e true true q d = three (fresh x) rule_a rule_b no_rule (rw (e, q)) (rw d) (rw (no_req x)) refl
    from_mute e true false q d = three (fresh x) rule_a no_rule no_rule (rw (e, q)) (rw d) (rw d) refl
    from_mute e false v q d = three (fresh x) no_rule no_rule no_rule (rw (e, q)) (rw (e, q)) (rw (e, q)) refl

    from_stand_by : x.mode ≡ stand_by → (u v w : Bool) → da ≡ u → qs ≡ v → qa ≡ w → Same (fresh x)
    from_stand_by e true true true d r q = three (fresh x) rule_b rule_c rule_a (rw (e, d)) (rw r) (rw q) refl
    from_stand_by e true true false d r q = three (fresh x) rule_b rule_c no_rule (rw (e, d)) (rw r) (rw q) refl
    from_stand_by e true false w d r q = three (fresh x) rule_b no_rule no_rule (rw (e, d)) (rw r) (rw r) refl
    from_stand_by e false v w d r q = three (fresh x) no_rule no_rule no_rule (rw (e, d)) (rw (e, d)) (rw (e, d)) refl

    from_normal : x.mode ≡ normal → (u v w : Bool) → qs ≡ u → qa ≡ v → db ≡ w → Same (fresh x)
    from_normal e true true true r q d = three (fresh x) rule_c rule_a rule_b (rw (e, r)) (rw q) (rw d) refl
    from_normal e true true false r q d = three (fresh x) rule_c rule_a no_rule (rw (e, r)) (rw q) (rw d) refl
    from_normal e true false w r q d = three (fresh x) rule_c no_rule no_rule (rw (e, r)) (rw q) (rw q) refl
    from_normal e false v w r q d = three (fresh x) no_rule no_rule no_rule (rw (e, r)) (rw (e, r)) (rw (e, r)) refl

    from_begin : (u v : Bool) → qa ≡ u → db ≡ v → Same (asked x)
    from_begin true true q d = three (asked x) rule_a rule_b no_rule (rw q) (rw d) (rw (no_req (begun x))) refl
    from_begin true false q d = three (asked x) rule_a no_rule no_rule (rw q) (rw d) (rw d) refl
    from_begin false v q d = three (asked x) no_rule no_rule no_rule (rw q) (rw q) (rw q) refl

    from : (m : Mode) → x.mode ≡ m → Same (fresh x)
    from normal e = from_normal e _ _ _ refl refl refl
    from mute e = from_mute e _ _ refl refl
    from stand_by e = from_stand_by e _ _ _ refl refl refl

    -- three rules on the slots send what the rules send
    pub slots_turned : slot_items (slot_all c i (fresh x)) ≡ turned c i x
    slots_turned = from x.mode refl

    pub slots_started : slot_items (slot_all c i (asked x)) ≡ started c i x
    slots_started = from_begin _ _ refl refl

-- ---- what the rules promise of a station in a table of limits, by what they do for its row
pub promised : (r : Turned) (m : List (List ℕ)) (i : ℕ) (t : Slots) (g : Config → Turning vector) → ((c : Config) → slot_items (slot_all c i t) ≡ g c)
    → ((c : Config) (k : ℕ) → get_or c.limits k [] ≡ get_or m i [] → slots_view r ≡ slot_all c k t)
    → (c : Config) → c.limits ≡ m → turned_view r ≡ g c
promised r m i t g is all c e = ap slot_items (all c i (ap (λ (l : List (List ℕ)). get_or l i []) e)) ∙ is c
