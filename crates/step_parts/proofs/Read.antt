-- What a step knows of an area that passed its test, what it reads there, and how its outcome is put together. Assumes nothing.
use Prim.Native.Nat.{ℕ, ◌+◌, ◌*◌, ◌≤◌, ◌<◌}
use mathlib.Core.Path.{◌≡◌, refl, sym, ◌∙◌, ap}
use mathlib.Core.List.{List, []}
use mathlib.Core.Bool.{Bool, true, false, ◌&&◌}
use native.Mathlib.Omega.{arith}
use lib.Dec.{eqb, ltb}
use lib.ListN.{length, get_or}
use borrow.Author.Tests.{lt-ltb, le-ltb, leb-true}
use Rattle.codec.specs.Num.{AreBytes}
use Rattle.codec.proofs.EveryLaws.{both, every_at}
use Rattle.header.specs.declared.Header.{Header}
use Rattle.reset.specs.Reach.{limit, linked}
use Rattle.reset.specs.Config.{Config, is_station, neighbours, allowance_at, size_fits, allowance_fits, allowances_fit, well_made}
use Rattle.reset.specs.Clock.{vector}
use Rattle.reset.specs.State.{Station, station_at, link_at}
use Rattle.reset.specs.Steps.{Step, Outcome, refuse, step}
use Rattle.reset.specs.WellFormed.{well_formed}
use Rattle.reset.proofs.ClockRange.{vector-range}
use Rattle.reset.proofs.Formed.{formed_of, formed-bounds}
use Rattle.reset.proofs.ConfigLaws.{shape, linked-small}
use Rattle.rules.specs.Setup.{header_of}
use Rattle.station.specs.Image.{parse_station}
use Rattle.step_outcomes.proofs.Outcome.{station-small, neighbour-small}
use Rattle.area.specs.Layout.{image, station_bytes, link_bytes, config_at, state_at, test}
use Rattle.area.proofs.Exact.{tested, formed, formed_fits, station_read, formed-imaged}
use Rattle.area_edit.proofs.PartLaws.{link-held}
use Rattle.step_parts.specs.Answers.{stepped_of, step_view}
use Rattle.step_parts.specs.Does.{Does}
use Rattle.step_parts.specs.Link.{is_linked}
use Rattle.std.specs.Prelude.{Result, Err}
use Rattle.std.specs.Result.{IsErrAnd}
use Rattle.std.proofs.lemmas.Result.{err_from_is_err_and}
use Rattle.refusals.specs.declared.Refusal.{Refusal}
use Rattle.refusals.specs.Numbers.{number_of}
use Rattle.step_parts.specs.declared.answer.Accepted.{Accepted}

-- ---- an area of bytes that passed its test
pub record Passed (a : List ℕ) : Type 0 where
  pub tested : test a ≡ true
  pub long : length a ≡ 65536
  pub is : a ≡ image (config_at a) (state_at a)
  pub formed : well_formed (config_at a) (state_at a) ≡ true

pub passed : (a : List ℕ) → AreBytes a → test a ≡ true → Passed a
passed a b w = record { tested = w; long = (tested a w).long; is = sym (formed a b w); formed = formed_fits a b w }

module _ {a : List ℕ} (k : Passed a) where
  -- a step done, and one refused, which leaves the area
  pub does : {p : Step} (o : Outcome vector) {r : Result Accepted Refusal} {d : List ℕ} → step (config_at a) (state_at a) p ≡ o → step_view r ≡ stepped_of o.answer → d ≡ image (config_at a) o.after → Does p a r d
  does o e f g =
      record {
        answer = f ∙ sym (ap (λ (o : Outcome vector). stepped_of o.answer) e);
        area = g ∙ sym (ap (λ (o : Outcome vector). image (config_at a) o.after) e);
      }

  pub refuses : {p : Step} (r : Refusal) → step (config_at a) (state_at a) p ≡ refuse (state_at a) (number_of r) → Does p a (Err r) a
  refuses r e = does (refuse (state_at a) (number_of r)) e refl k.is

  -- where a `?` hands the refusal x on
  pub hands_on : {p : Step} {r : Result Accepted Refusal} {x : Refusal} (q : Refusal) → IsErrAnd r (λ y. y ≡ x) → x ≡ q
      → step (config_at a) (state_at a) p ≡ refuse (state_at a) (number_of q) → Does p a r a
  hands_on {r = r} q f e g = let y = err_from_is_err_and r f in rw (y.1, y.2, e) (refuses q g)

  pub made : well_made (config_at a) ≡ true
  made = (both (well_made (config_at a)) _ (formed_of (config_at a) (state_at a) k.formed).accepted).0

  pub t-small : (config_at a).t ≤ 65535
  t-small = (shape (config_at a) made).ceiling

  pub phase-most : (i : ℕ) → i < 8 → (station_at (state_at a) i).phase ≤ 999999
  phase-most i l = leb-true (station_at (state_at a) i).phase 999999 ((formed-bounds vector-range (config_at a) (state_at a) k.formed).phases i l)

  -- the record of a station, and the count of a link, as they are read
  pub station_is : (i : ℕ) → i < 8 → {x : Station vector} → x ≡ parse_station (station_bytes a i) → station_at (state_at a) i ≡ x
  station_is i l e = station_read a i l ∙ sym e

  pub count_is : (i j : ℕ) → i < 8 → j < 8 → get_or (link_bytes a (i * 8 + j)) 0 0 ≡ length (link_at (state_at a) i j)
  count_is i j il jl = link-held (config_at a) (state_at a) i il k.is j jl

  pub count_most : (i j : ℕ) → i < 8 → j < 8 → get_or (link_bytes a (i * 8 + j)) 0 0 ≤ 34
  count_most i j il jl = omega (arith, count_is i j il jl, ((formed-imaged (config_at a) (state_at a) k.formed).links i j il jl).most)

-- ---- a station of it, and a link
pub record AtStation (a : List ℕ) (i : ℕ) : Type 0 where
  pub area : Passed a
  pub station : is_station (config_at a) i ≡ true
  pub i_small : i < 8

pub record AtLink (a : List ℕ) (i j : ℕ) : Type 0 where
  pub area : Passed a
  pub station : is_station (config_at a) i ≡ true
  pub neighbour : neighbours (config_at a) i j ≡ true
  pub i_small : i < 8
  pub j_small : j < 8
  pub limit-small : limit (config_at a).limits i j ≤ 32

pub at_link_of : {a : List ℕ} → Passed a → (i j : ℕ) → is_station (config_at a) i ≡ true → neighbours (config_at a) i j ≡ true → AtLink a i j
at_link_of {a} k i j h n =
    let il = station-small (config_at a) (state_at a) k.formed i h in
    let jl = neighbour-small (config_at a) (state_at a) k.formed i j n in
    record { area = k; station = h; neighbour = n; i_small = il; j_small = jl; limit-small = (shape (config_at a) (made k)).limit32 i j il jl }

-- the code's test of a link is the network's
is_linked_lem : (c : Config) → well_made c ≡ true → (i j : ℕ) → is_linked c.n c.limits i j ≡ (is_station c i && neighbours c i j)
unfolding is_linked is_station neighbours
is_linked_lem c w i j = ap (λ (t : Bool). ltb i c.n && t) (go (linked c.limits i j) refl)
  where
    go : (t : Bool) → linked c.limits i j ≡ t → (ltb j 8 && t) ≡ t
    go true e = rw (lt-ltb j 8 (linked-small c w i j e).1)
    go false e = none (ltb j 8)
      where
        none : (b : Bool) → (b && false) ≡ false
        none true = refl
        none false = refl

-- ---- where the header h is read
module _ {a : List ℕ} (k : Passed a) {h : Header} (e : h ≡ header_of (config_at a)) where
  pub n_small : h.n ≤ 8
  n_small = rw e (shape (config_at a) (made k)).small

  pub t_is : (config_at a).t ≡ h.t
  t_is = rw e

  pub allowance_is : (p i : ℕ) → allowance_at (config_at a) p i ≡ get_or h.allowances i 0
  unfolding allowance_at
  allowance_is p i = rw e

  pub allowance_small : (i : ℕ) → i < 8 → get_or h.allowances i 0 ≤ 65535
  unfolding well_made allowances_fit
  allowance_small i l =
      let p = both (size_fits (config_at a).n (config_at a).t) _ (made k) in
      let q = both (allowances_fit (config_at a).allowances) _ p.1 in
      let r = both (eqb (length (config_at a).allowances) 8) _ q.0 in
      rw e (leb-true _ _ (every_at 8 (allowance_fits (config_at a).allowances) i r.1 l))

  pub no_station : (i : ℕ) → h.n ≤ i → is_station (config_at a) i ≡ false
  unfolding is_station
  no_station i l = le-ltb i (config_at a).n (rw e at l)

  pub at_station : (i : ℕ) → i < h.n → AtStation a i
  unfolding is_station
  at_station i l =
      let p : is_station (config_at a) i ≡ true = lt-ltb i (config_at a).n (rw e at l) in
      record { area = k; station = p; i_small = station-small (config_at a) (state_at a) k.formed i p }

  -- and the limits m
  module _ {m : List (List ℕ)} (l : m ≡ (config_at a).limits) (i j : ℕ) where
    links : is_linked h.n m i j ≡ (is_station (config_at a) i && neighbours (config_at a) i j)
    links = rw (e, l) (is_linked_lem (config_at a) (made k) i j)

    pub no_link : {P : Type 0} → is_linked h.n m i j ≡ false → (is_station (config_at a) i ≡ false → P) → (is_station (config_at a) i ≡ true → neighbours (config_at a) i j ≡ false → P) → P
    no_link {P} t f g = go (is_station (config_at a) i) refl (sym links ∙ t)
      where
        go : (b : Bool) → is_station (config_at a) i ≡ b → (b && neighbours (config_at a) i j) ≡ false → P
        go false p q = f p
        go true p q = g p q

    pub at_link : is_linked h.n m i j ≡ true → AtLink a i j
    at_link t = let p = both (is_station (config_at a) i) _ (sym links ∙ t) in at_link_of k i j p.0 p.1

    pub limit_is : limit (config_at a).limits i j ≡ get_or (get_or m i []) j 0
    unfolding limit
    limit_is = rw l
