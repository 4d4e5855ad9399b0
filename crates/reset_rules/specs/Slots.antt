-- What the code keeps while the rules run: the control items in two slots. Assumes nothing.
use Rattle.std.specs.Prelude.{ℕ, List, [], ◌∷◌, ◌++◌, Bool, false, ◌&&◌, ◌||◌, not, eqb, get_or, Option, Some, None}
use Rattle.codec.specs.Every.{every, some}
use Rattle.reset.specs.Config.{Config}
use Rattle.reset.specs.Clock.{vector}
use Rattle.reset.specs.State.{Item, Station}
use Rattle.reset.specs.Steps.{Rule, rule_a, rule_b, rule_c, no_rule, rule_of, begun, renewed, woken}
use Rattle.station.specs.View.{station_view}
use Rattle.link.specs.declared.Control.{Control}
use Rattle.link.specs.declared.Control.TheVariants.{ResetReq, ResetDone}
use Rattle.link.specs.Image.{control_view}
use Rattle.reset_rules.specs.Turn.{Turning}
use Rattle.reset_rules.specs.declared.Turned.{Turned}

-- ---- marks of the neighbours in a row of limits
-- seen from every neighbour; from some
unfoldable pub every_seen : List ℕ → List Bool → Bool
every_seen row marks = every 8 (λ (j : ℕ). eqb (get_or row j 0) 0 || get_or marks j false)

unfoldable pub some_seen : List ℕ → List Bool → Bool
some_seen row marks = some 8 (λ (j : ℕ). not (eqb (get_or row j 0) 0) && get_or marks j false)

-- ---- the control item of a slot, if it has one
abbrev pub control_of : Option Control → List (Item vector)
control_of None = []
control_of (Some control) = control_view control ∷ []

-- A record and the two slots.
pub record Slots : Type 0 where
  pub station : Station vector
  pub first : Option Control
  pub second : Option Control

-- the items of the slots, in order
abbrev pub slot_items : Slots → Turning vector
slot_items t = record { station = t.station; items = control_of t.first ++ control_of t.second }

-- the code's struct
abbrev pub slots_view : Turned → Slots
slots_view t = record { station = station_view t.station; first = t.first; second = t.second }

abbrev pub turned_view : Turned → Turning vector
turned_view t = slot_items (slots_view t)

-- nothing is sent yet; a begin has sent reset_req
abbrev pub fresh : Station vector → Slots
fresh x = record { station = x; first = None; second = None }

abbrev pub asked : Station vector → Slots
asked x = record { station = begun x; first = Some ResetReq; second = None }

-- a rule applied: reset_req goes into the first slot, reset_done into the second
abbrev pub slot_by : Slots → Rule → Slots
slot_by t rule_a = record { station = renewed t.station; first = t.first; second = Some ResetDone }
slot_by t rule_b = record { station = woken t.station; first = t.first; second = t.second }
slot_by t rule_c = record { station = begun t.station; first = Some ResetReq; second = t.second }
slot_by t no_rule = t

-- the first rule that applies to station i, once; three times
unfoldable pub slot_once : Config → ℕ → Slots → Slots
slot_once c i t = slot_by t (rule_of c i t.station)

abbrev pub slot_all : Config → ℕ → Slots → Slots
slot_all c i t = slot_once c i (slot_once c i (slot_once c i t))
