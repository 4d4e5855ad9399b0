-- What the rules lead a station to: the test of it, the room that it takes, and what is written. Assumes nothing.
use Prim.Native.Nat.{ℕ, ◌+◌, ◌*◌, ◌<◌}
use mathlib.Core.Path.{◌≡◌, refl, sym, ◌∙◌, ap}
use mathlib.Core.List.{List, []}
use mathlib.Core.Bool.{Bool, true, false, not, cond, ◌&&◌, ◌||◌}
use native.Mathlib.Omega.{arith}
use lib.Dec.{eqb, leb}
use lib.ListN.{length, get_or}
use borrow.Author.Tests.{leb-true}
use Rattle.codec.proofs.EveryLaws.{both, every_at, every_same}
use Rattle.reset.specs.Reach.{limit, linked}
use Rattle.reset.specs.Config.{Config, neighbours, places, places_of}
use Rattle.reset.specs.Clock.{vector}
use Rattle.reset.specs.State.{Station, State, link_at, set_station}
use Rattle.reset.proofs.Views.{link_set-station}
use Rattle.reset.specs.Steps.{Step, mode_after, step}
use Rattle.link.proofs.Laws.{places_most}
use Rattle.station.specs.View.{mode_view}
use Rattle.station.specs.declared.Mode.{Mode as CodeMode}
use Rattle.station.specs.declared.Mode.TheVariants.{Normal, Mute, StandBy}
use Rattle.reset_rules.specs.Turn.{Turning, put_items}
use Rattle.reset_rules.specs.Slots.{turned_view}
use Rattle.reset_rules.specs.declared.Turned.{Turned}
use Rattle.step_outcomes.proofs.Local.{room_for}
use Rattle.area.specs.Layout.{image, link_bytes, config_at, state_at}
use Rattle.area_edit.specs.Room.{Roomy}
use Rattle.std.specs.Prelude.{Ok}
use Rattle.step_parts.specs.Answers.{stepped_of, mode_code}
use Rattle.step_parts.specs.Does.{Does}
use Rattle.step_parts.specs.Room.{room_bytes, items, in_bounds_after}
use Rattle.step_parts.specs.Settles.{Settles}
use Rattle.step_parts.specs.declared.answer.Accepted.{Accepted}
use Rattle.step_parts.proofs.Read.{Passed, does, made, count_is}

-- the code's mode is the network's, and back
pub mode_code_lem : (m : CodeMode) → mode_code (mode_view m) ≡ m
mode_code_lem Normal = refl
mode_code_lem Mute = refl
mode_code_lem StandBy = refl

-- another record takes no room
pub room-set : {a : List ℕ} {m : List (List ℕ)} {i k : ℕ} (b : List ℕ) (x : Station vector) (r : Roomy a m i k) → b ≡ image r.config (set_station r.state i x) → Roomy b m i k
room-set {a} {m} {i} {k} b x r e =
    record {
      config = r.config;
      state = set_station r.state i x;
      is = e;
      limits = r.limits;
      room = λ (j : ℕ) (jl : j < 8) (n : neighbours r.config i j ≡ true). rw (link_set-station r.state i x i j) (r.room j jl n);
    }

same_test : (t : Bool) (n m : ℕ) → (t || leb n m) ≡ (not (not t) || leb n (cond (not t) m 0))
same_test true n m = refl
same_test false n m = refl

-- ---- at station i, with the table of limits m
module _ {a : List ℕ} (k : Passed a) (i : ℕ) (il : i < 8) {m : List (List ℕ)} (l : m ≡ (config_at a).limits) where
  abbrev c : Config
  c = config_at a

  abbrev s : State vector
  s = state_at a

  cell : (n j : ℕ) → j < 8
      → (eqb (get_or (get_or m i []) j 0) 0 || leb (get_or (link_bytes a (i * 8 + j)) 0 0 + n) (places_of (get_or (get_or m i []) j 0))) ≡ (not (neighbours c i j) || leb (length (link_at s i j) + n) (places c i j))
  unfolding neighbours linked limit places
  cell n j jl = rw (l, count_is k i j il jl) (same_test (eqb (get_or (get_or c.limits i []) j 0) 0) (length (link_at s i j) + n) (get_or (get_or c.limits i []) j 0 + 2))

  module _ (t : Turned) where
    -- the code's test is that of the outcome
    pub tests : (u : Turning vector) → turned_view t ≡ u
        → in_bounds_after a (get_or m i []) i t ≡ (leb u.station.phase 999999 && room_for (config_at a) (state_at a) i (length u.items))
    unfolding in_bounds_after room_bytes room_for
    tests u v =
        ap (λ (b : Bool). leb t.station.phase 999999 && b) (every_same 8 _ _ (cell (items t)))
        ∙ ap (λ (x : Turning vector). leb x.station.phase 999999 && room_for c s i (length x.items)) v

    -- where it holds there is room, also in a state with the links out of i the same
    pub room_after : in_bounds_after a (get_or m i []) i t ≡ true → (s₁ : State vector) → ((j : ℕ) → link_at s₁ i j ≡ link_at (state_at a) i j)
        → {d : List ℕ} → d ≡ image (config_at a) s₁ → Roomy d m i (items t)
    unfolding room_for
    room_after h s₁ out e =
        record {
          config = c;
          state = s₁;
          is = e;
          limits = sym l;
          room = λ (j : ℕ) (jl : j < 8) (n : neighbours c i j ≡ true).
              let r = (both (leb t.station.phase 999999) (room_for c s i (items t)) (sym (tests (turned_view t) refl) ∙ h)).1 in
              let p : (not (neighbours c i j) || leb (length (link_at s i j) + items t) (places c i j)) ≡ true = every_at 8 _ j r jl in
              let q : leb (length (link_at s i j) + items t) (places c i j) ≡ true = rw n at p in
              rw (out j) (omega (arith, leb-true (length (link_at s i j) + items t) (places c i j) q, places_most c (made k) i j));
        }

    -- a step that ends with what the rules led to
    pub settled : {p : Step} (u : Turning vector) → turned_view t ≡ u → (s₁ : State vector)
        → step (config_at a) (state_at a) p
        ≡ record { answer = mode_after i u.station.mode u.station.phase; after = put_items (config_at a) (set_station s₁ i u.station) i u.items }
        → {d : List ℕ} → d ≡ image (config_at a) s₁ → {r : Accepted} {b : List ℕ} → Settles m i t d r b → Does p a (Ok r) b
    settled u v s₁ e p h =
        does k _ e (h.answer ∙ ap (λ (x : Turning vector). stepped_of (mode_after i x.station.mode x.station.phase)) v)
        (h.area c s₁ (sym l) p ∙ ap (λ (x : Turning vector). image c (put_items c (set_station s₁ i x.station) i x.items)) v)
