-- Receipts to rest, item by item, link by link and station by station. Assumes nothing.
use Prim.Native.Nat.{ℕ, zero, suc, ◌+◌, ◌*◌, ◌-◌, ◌/◌, ◌%◌, ◌≤◌, ◌<◌}
use mir.Val.{bool_byte}
use mathlib.Core.Path.{◌≡◌, refl, ◌∙◌, subst, sym, ap}
use mathlib.Core.List.{List, [], ◌∷◌}
use mathlib.Core.Bool.{Bool, true, false, not, cond, ◌&&◌}
use native.Mathlib.Omega.{arith}
use native.Mathlib.Nat.{add-zero}
use lib.Dec.{eqb}
use lib.ListN.{length, get_or, take, drop}
use lib.Seq.{get_or-drop, get_or-take}
use borrow.Author.Tests.{eq-eqb, ne_eqb}
use Rattle.codec.specs.Num.{AreBytes}
use Rattle.codec.specs.Rows.{upto}
use Rattle.codec.specs.Every.{sum, greatest}
use Rattle.codec.proofs.EveryLaws.{both}
use Rattle.codec.proofs.SumLaws.{sum_same, sum_rows}
use Rattle.header.specs.Header.{parse_header}
use Rattle.header.specs.declared.Header.{Header}
use Rattle.header.proofs.Laws.{header-small, table_at_lem}
use Rattle.reset.specs.Reach.{limit, linked}
use Rattle.reset.specs.Config.{neighbours, places}
use Rattle.reset.specs.Clock.{vector}
use Rattle.reset.specs.State.{Item, message, reset_req, reset_done, Station, State, station_at}
use Rattle.reset.specs.Receipts.{bit, target, greatest_target, messages, under_way, controls_taken, controls_left, receipts_to_rest}
use Rattle.reset.proofs.ClockRange.{vector-range}
use Rattle.reset.proofs.Flow.{messages-append}
use Rattle.reset.proofs.Formed.{station-phase}
use Rattle.station.specs.Image.{parse_station}
use Rattle.station.specs.View.{station_view}
use Rattle.station.specs.declared.Station.{Station as CodeStation}
use Rattle.station.proofs.Laws.{test_parts}
use Rattle.link.specs.Image.{item_of, parse_item, item_at, parse_link, link_test, items_test, sized}
use Rattle.link.proofs.Laws.{items-few, places_most}
use Rattle.queue.specs.Queue.{parse_queue}
use Rattle.area.specs.Layout.{station_bytes, link_bytes, config_at, state_at, test}
use Rattle.area.proofs.Exact.{tested, station_read, link_read, config-made}

-- ---- messages
pub bool-small : (b : Bool) → bool_byte b ≤ 1
bool-small true = omega arith
bool-small false = omega arith

messages-upto : (n : ℕ) (f : ℕ → Item vector) → messages (upto n f) ≡ sum n (λ (k : ℕ). messages (f k ∷ []))
unfolding upto sum
messages-upto zero f = refl
messages-upto (suc n) f = messages-append (upto n f) (f n ∷ []) ∙ ap (λ (k : ℕ). k + messages (f n ∷ [])) (messages-upto n f)

-- 1 where the item in place k is a message, else 0
abbrev pub messages_at : List ℕ → ℕ → ℕ
messages_at l k = messages (item_at l k ∷ [])

pub messages-are : (l : List ℕ) → messages (parse_link l) ≡ sum (get_or l 0 0) (messages_at l)
unfolding parse_link parse_queue item_at
messages-are l = messages-upto (get_or l 0 0) _

-- by its kind
pub messages_at_is : (l : List ℕ) (k : ℕ) → messages_at l k ≡ bit (not (eqb (get_or l (1 + k * 21) 0) 2) && not (eqb (get_or l (1 + k * 21) 0) 3))
unfolding item_at parse_item item_of
messages_at_is l k = rw (get_or-take 21 (drop (1 + k * 21) l) 0 0 (omega arith), get_or-drop, add-zero (1 + k * 21)) (go (eqb (get_or l (1 + k * 21) 0) 2) (eqb (get_or l (1 + k * 21) 0) 3) _ _)
  where
    go : (p q : Bool) (v : List ℕ) (g : ℕ) → messages {K = vector} (cond p reset_req (cond q reset_done (message v g)) ∷ []) ≡ bit (not p && not q)
    go true q v g = refl
    go false true v g = refl
    go false false v g = refl

-- those of link k of an area
abbrev pub on_link : List ℕ → ℕ → ℕ
on_link a k = messages (parse_link (link_bytes a k))

pub under_way_lem : (a : List ℕ) → under_way (state_at a) ≡ sum 64 (on_link a)
unfolding under_way
under_way_lem a = sum_same 8 _ _ (λ i il. sum_same 8 _ _ (λ j jl. ap messages (link_read a i j il jl))) ∙ sym (sum_rows 8 8 (on_link a))

-- ---- targets
abbrev pub target_at : State vector → ℕ → ℕ
target_at s i = target (station_at s i)

pub greatest_is : (n : ℕ) (s : State vector) → greatest_target (sized n 0) s ≡ greatest n (target_at s)
unfolding greatest_target
greatest_is n s = refl

-- ---- an area that passed its test
module _ (a : List ℕ) (w : test a ≡ true) where
  pub long : length a ≡ 65536
  long = (tested a w).long

  limit_at_lem : (i j : ℕ) → i < 8 → j < 8 → limit (config_at a).limits i j ≡ get_or a (32 + (i * 8 + j)) 0
  unfolding limit config_at
  limit_at_lem i j il jl = table_at_lem 8 (take 512 a) 32 i j il jl ∙ get_or-take 512 a (32 + (i * 8 + j)) 0 (omega arith)

  pub neighbours_at : (i j : ℕ) → i < 8 → j < 8 → neighbours (config_at a) i j ≡ not (eqb (get_or a (32 + (i * 8 + j)) 0) 0)
  unfolding neighbours linked
  neighbours_at i j il jl = rw (limit_at_lem i j il jl)

  pub count_most : AreBytes a → (k : ℕ) → k < 64 → get_or (link_bytes a k) 0 0 ≤ 34
  unfolding link_test
  count_most b k l =
      let m : ℕ = places (config_at a) (k / 8) (k % 8) in
      omega (arith, places_most (config_at a) (config-made a b w) (k / 8) (k % 8), items-few m (config_at a) (link_bytes a k) (both (items_test m (config_at a) (link_bytes a k)) _ ((tested a w).link k l)).0)

  -- a station as it is read
  module _ (j : ℕ) (jl : j < 8) (x : CodeStation) (e : station_view x ≡ parse_station (station_bytes a j)) where
    is_at : station_at (state_at a) j ≡ station_view x
    is_at = station_read a j jl ∙ sym e

    pub phase-most : x.phase ≤ 999999
    phase-most =
        let p : (station_view x).phase ≤ 999999 = subst (λ (y : Station vector). y.phase ≤ 999999) (sym e) (station-phase vector-range (config_at a) j (parse_station (station_bytes a j)) (test_parts (config_at a) j (station_bytes a j) ((tested a w).station j jl)).1) in
        p

    pub target_is : target_at (state_at a) j ≡ target (station_view x)
    target_is = ap (λ (y : Station vector). target y) is_at

    -- what it has still to receive from i, by the limit of the link
    module _ (i g : ℕ) (il : i < 8) where
      pub linked_left : (get_or a (32 + (i * 8 + j)) 0 ≡ 0 → ⊥) → controls_left (config_at a) (state_at a) g j i ≡ 2 * g - controls_taken (station_view x) i
      linked_left h = rw (neighbours_at i j il jl, ne_eqb _ 0 h, is_at)

      pub apart_left : get_or a (32 + (i * 8 + j)) 0 ≡ 0 → controls_left (config_at a) (state_at a) g j i ≡ 0
      apart_left h = rw (neighbours_at i j il jl, eq-eqb _ 0 h)

  -- of the configuration, the greatest target reads n alone
  pub to_rest_is : (h : Header) → h ≡ parse_header (take 512 a) → (m c g : ℕ) → m ≡ under_way (state_at a) → g ≡ greatest_target (sized h.n 0) (state_at a)
      → c ≡ sum 8 (λ (j : ℕ). sum 8 (controls_left (config_at a) (state_at a) g j)) → m + c ≡ receipts_to_rest (config_at a) (state_at a)
  unfolding receipts_to_rest greatest_target
  to_rest_is h e m c g p q r =
      let n : g ≡ greatest (config_at a).n (target_at (state_at a)) = unfold config_at in q ∙ ap (λ (k : Header). greatest k.n (target_at (state_at a))) e in
      rw (p, r, n)

  pub n_small : (h : Header) → h ≡ parse_header (take 512 a) → h.n ≤ 8
  n_small h e = rw e (header-small (take 512 a) (tested a w).head)
