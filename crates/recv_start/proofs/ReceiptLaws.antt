-- What a receipt finds on a link. Assumes nothing.
use Prim.Native.Nat.{ℕ, ◌+◌, ◌*◌, ◌<◌}
use mathlib.Core.Path.{◌≡◌, refl, sym, ◌∙◌, ap}
use mathlib.Core.List.{List, [], ◌∷◌}
use native.Mathlib.Omega.{arith}
use lib.ListN.{length, get_or}
use denote.Enum.Bare.{sameb}
use Rattle.codec.specs.Num.{AreBytes}
use Rattle.reset.specs.Clock.{vector}
use Rattle.reset.specs.State.{Item, reset_req, link_at, set_link}
use Rattle.reset.proofs.Views.{none_long, link_set-row}
use Rattle.reset.specs.Steps.{is_normal}
use Rattle.station.specs.View.{mode_view}
use Rattle.station.specs.declared.Mode.{Mode as CodeMode}
use Rattle.station.specs.declared.Mode.TheVariants.{Normal, Mute, StandBy}
use Rattle.station.specs.contracts.Mode.{the_type as mode_type}
use Rattle.link.specs.Image.{Queue, item_at}
use Rattle.link.proofs.Laws.{parse_item_lem}
use Rattle.step_outcomes.proofs.Outcome.{net}
use Rattle.area.specs.Layout.{link_bytes, config_at, state_at}
use Rattle.area.proofs.Exact.{link_read}
use Rattle.recv_start.specs.Taking.{Holds}
use Rattle.step_parts.proofs.Read.{AtLink, passed, at_link_of, count_is}

-- ---- the items on the link from j to i
abbrev pub rest : Queue → Queue
rest [] = []
rest (x ∷ q) = q

front : (q : Queue) → 0 < length q → q ≡ get_or q 0 reset_req ∷ rest q
front [] h = absurd (omega arith)
front (x ∷ q) h = refl

module _ {a : List ℕ} {i j : ℕ} (k : AtLink a i j) where
  pub holds_none : get_or (link_bytes a (j * 8 + i)) 0 0 ≡ 0 → link_at (state_at a) j i ≡ []
  holds_none h = none_long _ (sym (count_is k.area j i k.j_small k.i_small) ∙ h)

  -- the first, and the others
  pub first_is : 0 < get_or (link_bytes a (j * 8 + i)) 0 0 → (x : Item vector) → x ≡ item_at (link_bytes a (j * 8 + i)) 0 → link_at (state_at a) j i ≡ x ∷ rest (link_at (state_at a) j i)
  first_is h x e =
      let p : get_or (link_at (state_at a) j i) 0 reset_req ≡ x = ap (λ (q : Queue). get_or q 0 reset_req) (link_read a j i k.j_small k.i_small) ∙ parse_item_lem (link_bytes a (j * 8 + i)) 0 h ∙ sym e in
      front (link_at (state_at a) j i) (omega (arith, count_is k.area j i k.j_small k.i_small)) ∙ ap (λ (y : Item vector). y ∷ rest (link_at (state_at a) j i)) p

  -- the links out of i are the same without it
  pub out_same : (q : List (Item vector)) (n : ℕ) → link_at (set_link (state_at a) j i q) i n ≡ link_at (state_at a) i n
  out_same q n = link_set-row (state_at a) j i q i n (λ p. (net (config_at a) (state_at a) k.area.formed).loopless i (rw (sym p) at k.neighbour))

pub held : (a : List ℕ) (i j : ℕ) → AreBytes a → Holds a i j → AtLink a i j
held a i j b h = at_link_of (passed a b h.tested) i j h.station h.neighbour

-- the code's test of a mode
pub normal_is : (m : CodeMode) → sameb mode_type m Normal ≡ is_normal (mode_view m)
normal_is Normal = refl
normal_is Mute = refl
normal_is StandBy = refl
