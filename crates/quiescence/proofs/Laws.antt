-- Rest, station by station and link by link. Assumes nothing.
use Prim.Native.Nat.{ℕ, ◌+◌, ◌*◌, ◌≤◌, ◌<◌}
use mathlib.Core.Path.{◌≡◌, refl, ◌∙◌, sym, ap, ap₂}
use mathlib.Core.List.{List}
use mathlib.Core.Bool.{Bool, true, false, cond, ◌&&◌}
use native.Mathlib.Omega.{arith}
use lib.Dec.{eqb}
use lib.ListN.{length, get_or, take}
use Rattle.codec.specs.Every.{every}
use Rattle.codec.proofs.EveryLaws.{every_same}
use Rattle.codec.proofs.FlagLaws.{every_both, every-rows}
use Rattle.header.specs.Header.{parse_header}
use Rattle.header.specs.declared.Header.{Header}
use Rattle.header.proofs.Laws.{header-small}
use Rattle.reset.specs.Clock.{vector}
use Rattle.reset.specs.State.{Station, State, station_at}
use Rattle.reset.specs.Steps.{is_normal}
use Rattle.reset.specs.Network.{stations_quiescent, links_empty, quiescent}
use Rattle.station.specs.Image.{parse_station}
use Rattle.station.specs.View.{mode_view, station_view}
use Rattle.station.specs.declared.Station.{Station as CodeStation}
use Rattle.station.specs.declared.Mode.{Mode as CodeMode}
use Rattle.station.specs.declared.Mode.TheVariants.{Normal, Mute, StandBy}
use Rattle.station.specs.contracts.Mode.{the_type as mode_type}
use denote.Enum.Bare.{sameb}
use Rattle.link.specs.Image.{sized}
use Rattle.link.proofs.Laws.{parse_count}
use Rattle.std.specs.Prelude.{Ok}
use Rattle.area_calls.specs.Calls.{yes, no, rest_on}
use Rattle.quiescence.specs.View.{rest_view}
use Rattle.area.specs.Layout.{station_bytes, link_bytes, config_at, state_at, test}
use Rattle.area.proofs.Exact.{tested, station_read, link_read}

-- a station is normal and in the phase of station 0
abbrev pub settled : State vector → ℕ → Bool
settled s i = is_normal (station_at s i).mode && eqb (station_at s i).phase (station_at s 0).phase

pub settles : (n : ℕ) (s : State vector) → stations_quiescent (sized n 0) s ≡ every n (settled s)
unfolding stations_quiescent
settles n s = sym (every_both (settled s) (λ (i : ℕ). is_normal (station_at s i).mode) (λ (i : ℕ). eqb (station_at s i).phase (station_at s 0).phase) (λ (i : ℕ). refl) n)

-- the code's test of a mode
pub normal_is : (m : CodeMode) → sameb mode_type m Normal ≡ is_normal (mode_view m)
normal_is Normal = refl
normal_is Mute = refl
normal_is StandBy = refl

-- what is read of two stations
pub settled_is : (a : List ℕ) (i : ℕ) (x y : CodeStation) → i < 8 → station_view x ≡ parse_station (station_bytes a i) → station_view y ≡ parse_station (station_bytes a 0)
    → settled (state_at a) i ≡ (sameb mode_type x.mode Normal && eqb x.phase y.phase)
settled_is a i x y l e f =
    let p : station_at (state_at a) i ≡ station_view x = station_read a i l ∙ sym e in
    let q : station_at (state_at a) 0 ≡ station_view y = station_read a 0 (omega arith) ∙ sym f in
    ap₂ (λ (u v : Station vector). is_normal u.mode && eqb u.phase v.phase) p q ∙ ap (λ (k : Bool). k && eqb x.phase y.phase) (sym (normal_is x.mode))

-- link k holds no item, by its count
abbrev pub idle : List ℕ → ℕ → Bool
idle a k = eqb (get_or (link_bytes a k) 0 0) 0

pub links_empty_lem : (a : List ℕ) → links_empty (state_at a) ≡ every 64 (idle a)
unfolding links_empty
links_empty_lem a =
    every_same 8 _ _ (λ i il. every_same 8 _ _ (λ j jl. ap (λ (n : ℕ). eqb n 0) (ap length (link_read a i j il jl) ∙ parse_count (link_bytes a (i * 8 + j)))))
    ∙ sym (every-rows 8 8 (idle a))

-- ---- an area that passed its test
module _ (a : List ℕ) (w : test a ≡ true) (h : Header) (e : h ≡ parse_header (take 512 a)) where
  pub n_small : h.n ≤ 8
  n_small = rw e (header-small (take 512 a) (tested a w).head)

  -- of the configuration, rest reads n alone
  pub quiescent_is : quiescent (config_at a) (state_at a) ≡ (stations_quiescent (sized h.n 0) (state_at a) && links_empty (state_at a))
  unfolding quiescent stations_quiescent config_at
  quiescent_is = ap (λ (k : Header). stations_quiescent (sized k.n 0) (state_at a) && links_empty (state_at a)) (sym e)

  -- the answer, from what was looked at
  pub rest_is : (b : Bool) → (stations_quiescent (sized h.n 0) (state_at a) && links_empty (state_at a)) ≡ b → rest_view (Ok b) ≡ rest_on a
  unfolding rest_on
  rest_is b q = rw (w, quiescent_is ∙ q) (view b)
    where
      view : (b : Bool) → rest_view (Ok b) ≡ cond b yes no
      view true = refl
      view false = refl
