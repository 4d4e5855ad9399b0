-- The areas of a run of turnover: setup by its settings is refused with 1 or 3, or leaves the image of the initial network; a step goes on from there.
-- Assumes nothing.
use Prim.Native.Nat.{ℕ, zero, suc, ◌+◌, ◌*◌, ◌<◌}
use native.Mathlib.Omega.{arith}
use mathlib.Core.Path.{◌≡◌, refl, sym, ap, ◌∙◌}
use mathlib.Core.Logic.{◌⊎◌, inl, inr}
use mathlib.Core.List.{List, [], ◌∷◌, ◌++◌}
use mathlib.Core.Bool.{true, false, cond}
use lib.ListN.{length, set, length-set}
use borrow.Author.Tests.{lt-ltb}
use Rattle.codec.specs.Every.{blank}
use Rattle.codec.specs.Written.{Written, wrote, refused as refused_with}
use Rattle.codec.proofs.NumLaws.{Below}
use Rattle.codec.proofs.SpliceLaws.{splice-length}
use Rattle.header.specs.Header.{header_fits, table_at, write_header}
use Rattle.header.proofs.Laws.{Typed}
use Rattle.reset.specs.Config.{Config, well_made, network_rules}
use Rattle.reset.specs.Clock.{vector}
use Rattle.reset.specs.State.{State}
use Rattle.reset.specs.Steps.{Step, step, refused}
use Rattle.reset.specs.Network.{initial, run}
use Rattle.reset.specs.WellFormed.{well_formed, step_fits}
use Rattle.reset.proofs.Cases.{by_test}
use Rattle.reset.proofs.ClockRange.{vector-range}
use Rattle.reset.proofs.Formed.{initial-well_formed, step_well_formed}
use Rattle.rules.specs.Setup.{header_config}
use Rattle.rules.proofs.Laws.{same_test, parsed_table}
use Rattle.area.specs.Layout.{image}
use Rattle.area_calls.specs.Calls.{AreaStep, imaged, step_on}
use Rattle.area_calls.proofs.Demand3.{step_on-image}
use Rattle.turnover_settings.specs.declared.Run.{Run}
use Rattle.turnover_settings.specs.Settings.{named_run, allowed_run, limit_set, link_set, settings_of, settings_block, set_up}
use Rattle.turnover_commands.specs.Run.{Standing}
use Rattle.turnover_listing.proofs.SetupLaws.{set_up_lem}

-- ---- an area that steps from setup on have left
pub record Reached (a : List ℕ) : Type 0 where
  pub network : Config
  pub steps : List Step
  pub made : well_made network ≡ true
  pub rules : network_rules network ≡ true
  pub formed : well_formed network (run network (initial vector network) steps) ≡ true
  pub is : a ≡ image network (run network (initial vector network) steps)

-- one step more
run_more : (c : Config) (s : State vector) (ps : List Step) (p : Step) → run c s (ps ++ (p ∷ [])) ≡ (step c (run c s ps) p).after
run_more c s [] p = refl
run_more c s (q ∷ ps) p = run_more c (step c s q).after ps p

module _ (a : List ℕ) (r : Reached a) (p : Step) where
  -- where it stands
  abbrev here : State vector
  here = run r.network (initial vector r.network) r.steps

  as_network : step_on p a ≡ imaged r.network (step r.network here p)
  as_network = rw r.is (step_on-image r.network here r.formed p)

  -- a refusal is the network's
  pub refused_there : (k : ℕ) → (step_on p a).answer ≡ refused k → (step r.network here p).answer ≡ refused k
  refused_there k e = sym (ap (λ (o : AreaStep). o.answer) as_network) ∙ e

  pub reached_step : step_fits p ≡ true → Reached (step_on p a).area
  reached_step f =
      let c = r.network in
      let e = run_more c (initial vector c) r.steps p in
      record {
        network = c;
        steps = r.steps ++ (p ∷ []);
        made = r.made;
        rules = r.rules;
        formed = rw e (step_well_formed vector-range c here r.formed p f);
        is = rw e (ap (λ (o : AreaStep). o.area) as_network);
      }

-- ---- the settings before setup: a block in the making, an area that is blank yet, and numbers that their fields hold
pub record Unset (s : Standing) : Type 0 where
  pub long : length s.block ≡ 512
  pub empty : s.area ≡ blank 65536
  pub typed : Typed (settings_of s.run)

pub typed_named : (n t : ℕ) → n < 256 → t < 65536 → Typed (settings_of (named_run n t))
typed_named n t h g =
    let z : 0 < 65536 = omega arith in
    record { n = h; t = g; eight = refl; allowances = (z, (z, (z, (z, (z, (z, (z, (z, tt)))))))) }

below_set : (m : ℕ) (l : List ℕ) (i x : ℕ) → x < m → Below m l → Below m (set l i x)
below_set m [] i x h b = tt
below_set m (y ∷ l) zero x h b = (h, b.1)
below_set m (y ∷ l) (suc i) x h b = (b.0, below_set m l i x h b.1)

pub typed-allowed : (run : Run) (i a : ℕ) → i < 8 → a < 65536 → Typed (settings_of run) → Typed (settings_of (allowed_run run i a))
typed-allowed run i a h g y =
    rw (lt-ltb i 8 h)
    (record { n = y.n; t = y.t; eight = rw length-set y.eight; allowances = below_set 65536 run.allowances i a g y.allowances })

limit-long : (block : List ℕ) (i j l : ℕ) → i < 8 → j < 8 → length block ≡ 512 → length (limit_set block i j l) ≡ 512
unfolding limit_set
limit-long block i j l h g n = rw (lt-ltb i 8 h, lt-ltb j 8 g) (splice-length block (32 + 8 * i + j) (l ∷ []) (omega arith) ∙ n)

pub link-long : (block : List ℕ) (i j l : ℕ) → i < 8 → j < 8 → length block ≡ 512 → length (link_set block i j l) ≡ 512
link-long block i j l h g n = limit-long (limit_set block i j l) j i l g h (limit-long block i j l h g n)

-- ---- setup by them
pub data SetsUp (w : Written) : Type 0 where
  refuses : (w.answer ≡ 1) ⊎ (w.answer ≡ 3) → SetsUp w
  accepts : w.answer ≡ 0 → Reached w.buffer → SetsUp w

module _ (s : Standing) (u : Unset s) where
  abbrev network : Config
  network = header_config (settings_of s.run) (table_at 8 s.block 32)

  same : well_made network ≡ header_fits (settings_of s.run) (table_at 8 s.block 32)
  same = same_test (settings_of s.run) (table_at 8 s.block 32) u.typed (parsed_table s.block)

  out_of_range : well_made network ≡ false → (set_up s.block s.area s.run).answer ≡ 1
  unfolding set_up settings_block write_header
  out_of_range e = rw (sym same ∙ e)

  in_range : well_made network ≡ true
      → set_up s.block s.area s.run ≡ cond (network_rules network) (wrote (image network (initial vector network))) (refused_with 3 (blank 65536))
  unfolding set_up settings_block
  in_range w = rw u.empty (set_up_lem network s.block refl u.long w)

  at_start : well_made network ≡ true → network_rules network ≡ true → Reached (image network (initial vector network))
  at_start w h = record { network = network; steps = []; made = w; rules = h; formed = initial-well_formed vector-range network w h; is = refl }

  pub sets_up : SetsUp (set_up s.block s.area s.run)
  sets_up =
      by_test (well_made network)
      (λ w. by_test (network_rules network) (λ h. rw (in_range w, h) (accepts refl (at_start w h))) (λ h. rw (in_range w, h) (refuses (inr refl))))
      (λ w. refuses (inl (out_of_range w)))
