-- The reset rules on one record are what the network does: a new record for station i, and the items sent, in order, on every link out of it. Assumes nothing.
use Prim.Native.Nat.{ℕ, zero, suc}
use mathlib.Core.Path.{◌≡◌, refl, ap, ◌∙◌}
use mathlib.Core.List.{List, [], ◌∷◌, ◌++◌, append-nil}
use mathlib.Core.Bool.{Bool, true, false, cond}
use Rattle.codec.specs.Put.{put}
use Rattle.reset.specs.Config.{Config, neighbours}
use Rattle.reset.specs.Clock.{Clock}
use Rattle.reset.specs.State.{Item, reset_req, reset_done, Station, State, blank_station, station_at, link_at, set_station, set_link, put_on, put_linked, put_first, put_on_all}
use Rattle.reset.specs.Steps.{Rule, rule_a, rule_b, rule_c, no_rule, rule_of, apply, begun, renewed, begin_reset, renew, wake, turn_once, turn}
use Rattle.reset.proofs.Views.{station-set, station-put_all}
use Rattle.reset_rules.specs.Turn.{Turning, turned_by, turned_once, turned_all, turned, started, put_items}

-- ---- a record replaced
put-again : {A : Type 0} (d : A) (l : List A) (i : ℕ) (a b : A) → put d (put d l i a) i b ≡ put d l i b
put-again d [] zero a b = refl
put-again d [] (suc i) a b = ap (◌∷◌ d) (put-again d [] i a b)
put-again d (x ∷ l) zero a b = refl
put-again d (x ∷ l) (suc i) a b = ap (◌∷◌ x) (put-again d l i a b)

module _ {K : Clock} where
  abbrev with_stations : State K → List (Station K) → State K
  with_stations s l = record { stations = l; links = s.links }

  set-again : (s : State K) (i : ℕ) (x y : Station K) → set_station (set_station s i x) i y ≡ set_station s i y
  unfolding set_station
  set-again s i x y = ap (with_stations s) (put-again blank_station s.stations i x y)

  -- a link and a record, in either order
  pub set_link-set : (s : State K) (a b i : ℕ) (q : List (Item K)) (x : Station K) → set_link (set_station s i x) a b q ≡ set_station (set_link s a b q) i x
  unfolding set_link set_station
  set_link-set s a b i q x = refl

  set_on : (s : State K) (i j : ℕ) (y : Item K) (x : Station K) → set_station (put_on s i j y) i x ≡ put_on (set_station s i x) i j y
  unfolding set_link set_station link_at
  set_on s i j y x = refl

  module _ (c : Config) (i : ℕ) where
    set-linked : (s : State K) (j : ℕ) (y : Item K) (x : Station K) → set_station (put_linked c s i j y) i x ≡ put_linked c (set_station s i x) i j y
    unfolding put_linked
    set-linked s j y x = go (neighbours c i j)
      where
        go : (t : Bool) → set_station (cond t (put_on s i j y) s) i x ≡ cond t (put_on (set_station s i x) i j y) (set_station s i x)
        go true = set_on s i j y x
        go false = refl

    set_first : (k : ℕ) (s : State K) (y : Item K) (x : Station K) → set_station (put_first k c s i y) i x ≡ put_first k c (set_station s i x) i y
    unfolding put_first
    set_first zero s y x = refl
    set_first (suc k) s y x = set-linked (put_first k c s i y) k y x ∙ ap (λ (u : State K). put_linked c u i k y) (set_first k s y x)

    set_all : (s : State K) (y : Item K) (x : Station K) → set_station (put_on_all c s i y) i x ≡ put_on_all c (set_station s i x) i y
    unfolding put_on_all
    set_all s y x = set_first 8 s y x

    -- ---- items on every link out
    set-items : (s : State K) (q : List (Item K)) (x : Station K) → set_station (put_items c s i q) i x ≡ put_items c (set_station s i x) i q
    set-items s [] x = refl
    set-items s (y ∷ q) x = set-items (put_on_all c s i y) q x ∙ ap (λ (u : State K). put_items c u i q) (set_all s y x)

    station-items : (s : State K) (q : List (Item K)) → station_at (put_items c s i q) i ≡ station_at s i
    station-items s [] = refl
    station-items s (y ∷ q) = station-items (put_on_all c s i y) q ∙ station-put_all c s i y i

    pub put_items_lem : (s : State K) (p q : List (Item K)) → put_items c (put_items c s i p) i q ≡ put_items c s i (p ++ q)
    put_items_lem s [] q = refl
    put_items_lem s (y ∷ p) q = put_items_lem (put_on_all c s i y) p q

    -- ---- the state with a record and its items
    abbrev with : State K → Turning K → State K
    with s t = put_items c (set_station s i t.station) i t.items

    station_with : (s : State K) (t : Turning K) → station_at (with s t) i ≡ t.station
    station_with s t = station-items (set_station s i t.station) t.items ∙ station-set s i t.station

    set_with : (s : State K) (t : Turning K) (x : Station K) → set_station (with s t) i x ≡ put_items c (set_station s i x) i t.items
    set_with s t x =
        set-items (set_station s i t.station) t.items x ∙ ap (λ (u : State K). put_items c u i t.items) (set-again s i t.station x)

    -- a rule applied there
    apply_with : (s : State K) (t : Turning K) (r : Rule) → apply c i (with s t) r ≡ with s (turned_by t r)
    unfolding renew wake begin_reset
    apply_with s t rule_a = rw (station_with, set_with) (put_items_lem (set_station s i (renewed t.station)) t.items (reset_done ∷ []))
    apply_with s t rule_b = rw (station_with, set_with, append-nil)
    apply_with s t rule_c = rw (station_with, set_with) (put_items_lem (set_station s i (begun t.station)) t.items (reset_req ∷ []))
    apply_with s t no_rule = rw append-nil

    once_with : (s : State K) (t : Turning K) → turn_once c i (with s t) ≡ with s (turned_once c i t)
    unfolding turn_once turned_once
    once_with s t = rw station_with (apply_with s t (rule_of c i t.station))

    pub turn_with : (s : State K) (t : Turning K) → turn c i (with s t) ≡ with s (turned_all c i t)
    unfolding turn turned_all
    turn_with s t = rw (once_with, once_with, once_with)

    -- ---- the rules on a record are the rules of the network
    -- with station i's record x
    pub turn_set : (s : State K) (x : Station K) → turn c i (set_station s i x) ≡ put_items c (set_station s i (turned c i x).station) i (turned c i x).items
    turn_set s x = turn_with s (record { station = x; items = [] })

    -- begin, and then the rules
    pub start_set : (s : State K)
        → turn c i (begin_reset c i s) ≡ put_items c (set_station s i (started c i (station_at s i)).station) i (started c i (station_at s i)).items
    unfolding begin_reset
    start_set s = turn_with s (record { station = begun (station_at s i); items = reset_req ∷ [] })
