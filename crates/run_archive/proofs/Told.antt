-- The archive of a run tells happened-before: its verdicts and unordered lists, by demand 3 and, between phases, by stations reached. Assumes nothing.
use Prim.Native.Nat.{ℕ, ◌<◌}
use mathlib.Core.Path.{◌≡◌, sym, ap, ◌∙◌}
use mathlib.Core.Logic.{◌≢◌, ◌↔◌, ⊎_elim}
use mathlib.Core.List.{List}
use mathlib.Core.Bool.{true, cond}
use native.Mathlib.Omega.{arith}
use native.Mathlib.Decide.{ℕ_discrete}
use lib.ListN.{length, get_or}
use borrow.Author.Tests.{eq-eqb, ne_eqb, lt-ltb}
use Rattle.codec.proofs.FlagLaws.{false_of}
use Rattle.clock.specs.Timestamp.{Less}
use Rattle.clock.specs.Order.{Related}
use Rattle.clock.specs.declared.Verdict.{Verdict}
use Rattle.clock.specs.declared.Verdict.TheVariants.{Before, After, Same, Unordered}
use Rattle.clock.proofs.OrderLaws.{verdict_exact}
use Rattle.record.specs.declared.Record.{Record}
use Rattle.archive.specs.Archive.{archive_test, records}
use Rattle.std.proofs.Common.{Result, Ok}
use Rattle.refusals.specs.declared.Refusal.{Refusal}
use Rattle.events.specs.Events.{event_at}
use Rattle.concurrent.specs.Unordered.{is_unordered}
use Rattle.concurrent.proofs.Laws.{has_below, unordered_means}
use Rattle.concurrent.proofs.ListLaws.{every_list}
use Rattle.phase_order.specs.PhaseOrder.{precedes, verdict_between}
use Rattle.phase_order.specs.ByNumber.{order_of}
use Rattle.reset.proofs.ConfigLaws.{rules}
use Rattle.causality.specs.Plain.{Message}
use Rattle.causality.specs.HappenedBefore.{Accepted, entry_at, phase_of, timestamp_of, HappenedBefore}
use Rattle.causality.proofs.Trace.{record_station, Trace}
use Rattle.causality.proofs.Order.{back}
use Rattle.causality.proofs.TraceOrder.{eight, from_chain, clocked, never_back, by_timestamp}
use Rattle.causality.proofs.Demand3.{run_trace}
use Rattle.step_parts.specs.Answers.{event_record}
use Rattle.run_archive.specs.Claims.{entries_of, Apart, Beside, Verdicts, Tells, EveryArchive}
use Rattle.run_archive.proofs.RangeLaws.{all_in_range}
use Rattle.run_archive.proofs.MadeLaws.{archived}
use Rattle.run_archive.proofs.EventLaws.{Holds, archive_holds}
use Rattle.run_archive.proofs.KeptLaws.{kept}
use Rattle.run_archive.proofs.Across.{precedes_is}
use Rattle.reset.proofs.Cases.{by_test, by_dec, clash}

-- what a verdict says of entries x and y
abbrev Says : List Accepted → ℕ → ℕ → Verdict → Type 0
Says E x y Before = HappenedBefore E x y
Says E x y After = HappenedBefore E y x
Says E x y Same = x ≡ y
Says E x y Unordered = Apart E x y

module _ {a : List ℕ} {E : List Accepted} {T : List (List Message)} (H : Holds a E) (tested : archive_test a ≡ true) (R : Trace E T) where
  abbrev event : ℕ → Record
  event k = event_record (entry_at E k).entry

  in_archive : (k : ℕ) → k < length E → k < records a
  in_archive k l = omega (arith, H.many)

  -- ---- entries of one phase
  -- two that have one timestamp are one
  one_timestamp : (x y : ℕ) → x < length E → y < length E → phase_of E x ≡ phase_of E y → timestamp_of E x ≡ timestamp_of E y → x ≡ y
  one_timestamp x y xl yl p e =
      ⊎_elim (λ q. q) (λ h. absurd (((by_timestamp E T R x y xl yl p).0 (from_chain E T R h)).0 e))
      (back (clocked E T R) x y xl yl p (omega (arith, ap (λ (v : List ℕ). get_or v (record_station E x) 0) e)))

  -- a verdict says of two of them what it says of their timestamps
  one_phase : (x y : ℕ) → x < length E → y < length E → phase_of E x ≡ phase_of E y → (v : Verdict) → Related v (timestamp_of E x) (timestamp_of E y) ↔ Says E x y v
  one_phase x y xl yl p = go (by_timestamp E T R x y xl yl p) (by_timestamp E T R y x yl xl (sym p))
    where
      go : HappenedBefore E x y ↔ Less (timestamp_of E x) (timestamp_of E y) → HappenedBefore E y x ↔ Less (timestamp_of E y) (timestamp_of E x)
          → (v : Verdict) → Related v (timestamp_of E x) (timestamp_of E y) ↔ Says E x y v
      go f g Before = (f.1, f.0)
      go f g After = (g.1, g.0)
      go f g Same = (one_timestamp x y xl yl p, ap (timestamp_of E))
      go f g Unordered = (
        λ s. (λ h. s.0 (f.0 h), λ h. s.1 (g.0 h), λ e. s.2 (ap (timestamp_of E) e)),
        λ s. (λ l. s.0 (f.1 l), λ l. s.1 (g.1 l), λ e. s.2 (one_timestamp x y xl yl p e)),
      )

  -- ---- entries of two phases
  precedence : (x y : ℕ) → x < length E → y < length E → phase_of E x ≢ phase_of E y → (precedes a (event x) (event y) ≡ true) ↔ HappenedBefore E x y
  precedence x y xl yl n =
      let i = precedes_is H R x xl y yl in
      (λ h. (i.0 h).1, λ h. i.1 (let l = never_back E T R h in omega arith, h))

  module _ (x y : ℕ) (xl : x < length E) (yl : y < length E) (n : phase_of E x ≢ phase_of E y) where
    -- the verdict on them, and what it says
    abbrev chosen : Verdict
    chosen = cond (precedes a (event x) (event y)) Before (cond (precedes a (event y) (event x)) After Unordered)

    first : (precedes a (event x) (event y) ≡ true) ↔ HappenedBefore E x y
    first = precedence x y xl yl n

    second : (precedes a (event y) (event x) ≡ true) ↔ HappenedBefore E y x
    second = precedence y x yl xl (λ e. n (sym e))

    chosen_says : Says E x y chosen
    chosen_says =
        by_test (precedes a (event x) (event y)) (λ e. rw e (first.0 e))
        (λ e. by_test (precedes a (event y) (event x)) (λ f. rw (e, f) (second.0 f))
        (λ f. rw (e, f) (λ h. clash (sym (first.1 h) ∙ e), λ h. clash (sym (second.1 h) ∙ f), λ h. n (ap (phase_of E) h))))

    says_chosen : (v : Verdict) → Says E x y v → chosen ≡ v
    says_chosen Before h = rw (first.1 h)
    says_chosen After h =
        rw (false_of (precedes a (event x) (event y)) (λ e. n (let l = never_back E T R h in let m = never_back E T R (first.0 e) in omega arith)), second.1 h)
    says_chosen Same h = absurd (n (ap (phase_of E) h))
    says_chosen Unordered h =
        rw (false_of (precedes a (event x) (event y)) (λ e. h.0 (first.0 e)), false_of (precedes a (event y) (event x)) (λ e. h.1 (second.0 e)))

    two_phases : (v : Verdict) → (chosen ≡ v) ↔ Says E x y v
    two_phases v = (λ e. rw e at chosen_says, says_chosen v)

  -- ---- verdicts and lists
  module _ (x y : ℕ) (xl : x < length E) (yl : y < length E) where
    verdict_says : (v : Verdict) → (verdict_between a (event x) (event y) ≡ v) ↔ Says E x y v
    unfolding verdict_between
    verdict_says v =
        by_dec (ℕ_discrete (phase_of E x) (phase_of E y))
        (λ p. let u = verdict_exact (timestamp_of E x) (timestamp_of E y) (eight E T R x xl ∙ sym (eight E T R y yl)) (omega (arith, eight E T R y yl)) v in
        let w = one_phase x y xl yl p v in
        rw (eq-eqb _ _ p) (λ h. w.0 (u.0 h), λ h. u.1 (w.1 h)))
        (λ n. rw (ne_eqb _ _ n) (two_phases x y xl yl n v))

    order : order_of a x y ≡ Ok (verdict_between a (event x) (event y))
    unfolding order_of
    order = rw (tested, lt-ltb x _ (in_archive x xl), lt-ltb y _ (in_archive y yl), kept H R, H.event x xl, H.event y yl)

    exact : (v : Verdict) → (order_of a x y ≡ Ok v) ↔ Says E x y v
    exact v =
        let u = verdict_says v in (
          λ h. u.0 (let k : ◌≡◌ {A = Result Verdict Refusal} (Ok (verdict_between a (event x) (event y))) (Ok v) = sym order ∙ h in cc),
          λ s. order ∙ ap (λ (w : Verdict). Ok w) (u.1 s),
        )

    verdicts : Verdicts a E x y
    verdicts = record { before = exact Before; after = exact After; same = exact Same; unordered = exact Unordered }

  listed : (x y : ℕ) → x < length E → (is_unordered a x y ≡ true) ↔ Beside E x y
  listed x y xl = (
    λ h.
        let k : y < records a = has_below a (event_at a x) y h in
        let l : y < length E = omega (arith, H.many) in
        let (p, b, f, d) = rw (H.event x xl, H.event y l) at ((unordered_means a x y k).0 h) in
        (l, p, (one_phase x y xl l p Unordered).0 (b, f, d)),
    λ (l, p, m).
        let (b, f, d) = (one_phase x y xl l p Unordered).1 m in (unordered_means a x y (in_archive y l)).1 (rw (H.event x xl, H.event y l) (p, b, f, d)),
  )

  pub tells : Tells a E
  tells =
      record {
        kept = kept H R;
        verdicts = verdicts;
        listed = listed;
        lists = λ x y xl. let m = (every_list a tested x).lists.members y in let u = listed x y xl in (λ h. u.0 (m.0 h), λ h. m.1 (u.1 h));
      }

pub every_archive : EveryArchive
every_archive c w r ps f few =
    let range = all_in_range c w r ps f in
    let A = archived c (entries_of c ps) w few range in
    (A, tells (archive_holds c (entries_of c ps) range A) A.tested (run_trace c (rules c w r) ps))
