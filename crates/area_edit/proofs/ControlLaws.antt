-- What links hold after items are put on them. Assumes nothing.
use Prim.Native.Nat.{ℕ, ◌+◌, ◌*◌, ◌≤◌, ◌<◌}
use mathlib.Core.Path.{◌≡◌, refl, ◌∙◌, ap}
use mathlib.Core.List.{List, [], ◌∷◌, ◌++◌}
use mathlib.Core.Bool.{Bool, true, false, not}
use native.Mathlib.Omega.{arith}
use native.Mathlib.Numerals.{add-one}
use lib.Dec.{eqb}
use lib.ListN.{length, get_or, length-append}
use borrow.Author.Tests.{eq-eqb, ne_eqb}
use Rattle.reset.specs.Reach.{limit, linked}
use Rattle.reset.specs.Config.{Config, neighbours}
use Rattle.reset.specs.Clock.{vector}
use Rattle.reset.specs.State.{Item, State, link_at, put_on, put_linked, put_first, put_on_all}
use Rattle.reset.proofs.Views.{link-first_past, link-put_all, link-put_all_far}
use Rattle.link.specs.Image.{Queue}
use Rattle.reset_rules.specs.Turn.{put_items}
use Rattle.area.specs.Layout.{image, link_bytes}
use Rattle.area_edit.specs.Room.{Roomy}
use Rattle.area_edit.proofs.PartLaws.{link-held}

-- ---- an item on the links of a row of limits
module _ (c : Config) (i j : ℕ) (row : List ℕ) (e : get_or c.limits i [] ≡ row) where
  by_row : neighbours c i j ≡ not (eqb (get_or row j 0) 0)
  unfolding neighbours linked limit
  by_row = rw e

  pub row-linked : (get_or row j 0 ≡ 0 → ⊥) → neighbours c i j ≡ true
  row-linked h = by_row ∙ rw (ne_eqb _ 0 h)

  pub put-row_none : (s : State vector) (x : Item vector) → get_or row j 0 ≡ 0 → put_linked c s i j x ≡ s
  unfolding put_linked
  put-row_none s x h = rw (by_row, eq-eqb _ 0 h)

  pub put-row : (s : State vector) (x : Item vector) → (get_or row j 0 ≡ 0 → ⊥) → put_linked c s i j x ≡ put_on s i j x
  unfolding put_linked
  put-row s x h = rw (row-linked h)

module _ (c : Config) (s : State vector) (i : ℕ) (x : Item vector) where
  pub first_none : put_first 0 c s i x ≡ s
  unfolding put_first
  first_none = refl

  pub first_more : (j : ℕ) → put_linked c (put_first j c s i x) i j x ≡ put_first (j + 1) c s i x
  unfolding put_first
  first_more j = rw add-one

  pub first_all : put_first 8 c s i x ≡ put_on_all c s i x
  unfolding put_on_all
  first_all = refl

  -- the links to j and on are as they were
  pub first_held : (a : List ℕ) (j : ℕ) → i < 8 → j < 8 → a ≡ image c (put_first j c s i x) → get_or (link_bytes a (i * 8 + j)) 0 0 ≡ length (link_at s i j)
  first_held a j il jl e = link-held c (put_first j c s i x) i il e j jl ∙ ap length (link-first_past c i x s j j (omega arith))

  pub all_grows : (j : ℕ) → j < 8 → length (link_at (put_on_all c s i x) i j) ≤ length (link_at s i j) + 1
  all_grows j jl = go (neighbours c i j) refl
    where
      go : (b : Bool) → neighbours c i j ≡ b → length (link_at (put_on_all c s i x) i j) ≤ length (link_at s i j) + 1
      go true h = rw (link-put_all c s i x j jl h, length-append) (omega arith)
      go false h = rw (link-put_all_far c s i x j h) (omega arith)

-- each item put makes a link out one longer at most
pub items-grow : (c : Config) (s : State vector) (i j : ℕ) (q : Queue) → j < 8 → length (link_at (put_items c s i q) i j) ≤ length (link_at s i j) + length q
items-grow c s i j [] l = omega arith
items-grow c s i j (x ∷ q) l = omega (arith, items-grow c (put_on_all c s i x) i j q l, all_grows c s i x j l)

-- ---- room
-- room for more is room for fewer
pub less-room : {a : List ℕ} {m : List (List ℕ)} {i : ℕ} (k n : ℕ) → n ≤ k → Roomy a m i k → Roomy a m i n
less-room {a} {m} {i} k n h r =
    record {
      config = r.config;
      state = r.state;
      is = r.is;
      limits = r.limits;
      room = λ (j : ℕ) (l : j < 8) (e : neighbours r.config i j ≡ true). omega (arith, r.room j l e);
    }

-- items put take their room
pub room_after : {a : List ℕ} {m : List (List ℕ)} {i : ℕ} (b : List ℕ) (p q : Queue) (r : Roomy a m i (length (p ++ q))) → b ≡ image r.config (put_items r.config r.state i p)
    → Roomy b m i (length q)
room_after {a} {m} {i} b p q r e =
    record {
      config = r.config;
      state = put_items r.config r.state i p;
      is = e;
      limits = r.limits;
      room = λ (j : ℕ) (l : j < 8) (h : neighbours r.config i j ≡ true). omega (arith, r.room j l h, length-append p q, items-grow r.config r.state i j p l);
    }
