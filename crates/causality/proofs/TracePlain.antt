-- The plain network of each phase does what a trace says: fed the trace's entries of that phase, it gives their timestamps and the messages that they took,
-- and its queues hold the messages of that phase that are under way. Assumes nothing.
use Prim.Native.Nat.{ℕ, suc, ◌+◌, ◌<◌}
use mathlib.Core.Path.{◌≡◌, refl, sym, ap, ◌∙◌}
use mathlib.Core.Logic.{◌≢◌}
use mathlib.Core.List.{List, [], ◌∷◌, ◌++◌, append-nil}
use mathlib.Core.Bool.{true, cond, ◌&&◌}
use native.Mathlib.Omega.{arith}
use lib.Dec.{eqb}
use lib.ListN.{get_or, drop, length}
use borrow.Author.Tests.{eqb-true, eqb-false, eq-eqb, ne_eqb}
use Rattle.codec.proofs.EveryLaws.{both}
use Rattle.clock.specs.Timestamp.{tick, raised}
use Rattle.causality.specs.Plain.{Message, Plain, plain_initial, at₁, at₂, gives, plain_take, plain_step, Told, told, plain_told, plain_after}
use Rattle.causality.specs.HappenedBefore.{Accepted, no_entry, entry_at, phase_of, timestamp_of, is_send, is_recv}
use Rattle.causality.specs.Sound.{sent_message, told_of}
use Rattle.causality.proofs.Trace.{record_station, last_of, counts_before, under_way, fed_of, Follows, own, sent, received, Trace}
use Rattle.causality.proofs.TraceLaws.{goes_on, by_follows, fewer, drop_head, stays-under_way, sent-under_way, first_under_way}
use Rattle.reset.proofs.Cases.{by_test, clash}

-- ---- of phase f alone
-- the messages of the sends l
abbrev pub messages_of : ℕ → List Accepted → List Message
messages_of f [] = []
messages_of f (x ∷ l) = cond (eqb x.entry.phase f) (sent_message x ∷ messages_of f l) (messages_of f l)

messages-append : (f : ℕ) (l m : List Accepted) → messages_of f (l ++ m) ≡ messages_of f l ++ messages_of f m
messages-append f [] m = refl
messages-append f (x ∷ l) m = by_test (eqb x.entry.phase f) (λ t. rw (t, messages-append f l m)) (λ t. rw (t, messages-append f l m))

-- ---- the plain network after the first m entries
pub record Stands (E : List Accepted) (f m : ℕ) (P : Plain) : Type 0 where
  pub counts : (i : ℕ) → P.counts i ≡ last_of E i f m
  pub queues : (a b : ℕ) → P.queue a b ≡ messages_of f (under_way E a b m)

module _ (E : List Accepted) (T : List (List Message)) (R : Trace E T) (f : ℕ) where
  -- an entry of another phase: nothing of phase f moves
  other-phase : (x : Accepted) (l : List Accepted) → x.entry.phase ≢ f → messages_of f (x ∷ l) ≡ messages_of f l
  other-phase x l n = rw (ne_eqb x.entry.phase f n)

  skipped : (m : ℕ) → m < length E → phase_of E m ≢ f → (a b : ℕ) → messages_of f (under_way E a b (suc m)) ≡ messages_of f (under_way E a b m)
  skipped m l n a b =
      by_test (is_recv a b (entry_at E m).step)
      (λ hr. by_follows (R.follows m l) (λ k e. clash (sym hr ∙ k a b))
      (λ x xl g p t z. let k = goes_on E x m a b g hr in
      sym (ap (messages_of f) (first_under_way E a b m x hr xl k.0 k.1) ∙ other-phase (entry_at E x) (under_way E a b (suc m)) (λ q. n (sym p ∙ q)))))
      (λ hr. by_test (is_send a b (entry_at E m).step)
      (λ hs. ap (messages_of f) (sent-under_way E a b m hs hr (fewer E T a b m (λ y yl. R.follows y (omega arith))))
      ∙ messages-append f (under_way E a b m) _ ∙ rw (other-phase (entry_at E m) [] n) (append-nil _))
      (λ hs. ap (messages_of f) (stays-under_way E a b m hs hr)))

  skip : (m : ℕ) (P : Plain) → m < length E → phase_of E m ≢ f → Stands E f m P → Stands E f (suc m) P
  skip m P l n h = record { counts = λ i. rw (ne_eqb (phase_of E m) f n) (h.counts i); queues = λ a b. h.queues a b ∙ sym (skipped m l n a b) }

  -- an entry of phase f: the plain network does the same
  abbrev Does : ℕ → Plain → Type 0
  Does m P = (Q : Plain) × (plain_step P (entry_at E m).step ≡ gives (timestamp_of E m) (get_or T m []) Q) × Stands E f (suc m) Q

  module _ (m : ℕ) (P : Plain) (l : m < length E) (p : phase_of E m ≡ f) (h : Stands E f m P) where
    before : P.counts (record_station E m) ≡ counts_before E m
    before = h.counts (record_station E m) ∙ ap (λ (g : ℕ). last_of E (record_station E m) g m) (sym p)

    counted : (k : ℕ) → at₁ P.counts (record_station E m) (timestamp_of E m) k ≡ last_of E k f (suc m)
    unfolding at₁
    counted k = rw (eq-eqb (phase_of E m) f p, h.counts k)

    does : Follows E T m → Does m P
    unfolding at₂
    does (own g e t z) = (
      record { counts = at₁ P.counts (record_station E m) (timestamp_of E m); queue = P.queue },
      rw (e, t)
          (ap (λ (v : List ℕ). gives v [] (record { counts = at₁ P.counts (record_station E m) v; queue = P.queue })) (ap (tick (record_station E m)) before ∙ sym z)),
      record { counts = counted; queues = λ a b. h.queues a b ∙ sym (ap (messages_of f) (stays-under_way E a b m (rw e) (rw e))) },
    )
    does (sent j e t z) =
        let i = record_station E m in
        let after : List ℕ → Plain = λ v.
        record { counts = at₁ P.counts i v; queue = at₂ P.queue i j (P.queue i j ++ (record { counts = v; register = (entry_at E m).entry.register } ∷ [])) } in (
          after (timestamp_of E m),
          rw (e, t) (ap (λ (v : List ℕ). gives v [] (after v)) (ap (tick i) before ∙ sym z)),
          record {
            counts = counted;
            queues = λ a b. by_test (eqb i a && eqb j b)
                (λ c. let k = both (eqb i a) _ c in
                let u = sent-under_way E a b m (rw (e, c)) (rw e) (fewer E T a b m (λ y yl. R.follows y (omega arith))) in
                rw (c, u, eqb-true i a k.0, eqb-true j b k.1, h.queues a b) (sym (messages-append f (under_way E a b m) _ ∙ rw (eq-eqb (phase_of E m) f p))))
                (λ c. rw c (h.queues a b ∙ sym (ap (messages_of f) (stays-under_way E a b m (rw (e, c)) (rw e)))));
          },
        )
    does (received j x e xl g q t z) =
        let i = record_station E m in
        let rest = messages_of f (under_way E j i (suc m)) in
        let after : List ℕ → Plain = λ v. record { counts = at₁ P.counts i v; queue = at₂ P.queue j i rest } in (
          after (timestamp_of E m),
          ap (plain_step P) e ∙ ap (plain_take i j P) first
              ∙ ap (λ (v : List ℕ). gives v (sent_message (entry_at E x) ∷ []) (after v)) (ap (λ (v : List ℕ). raised i v (timestamp_of E x)) before ∙ sym z)
              ∙ ap (λ (r : List Message). gives (timestamp_of E m) r (after (timestamp_of E m))) (sym t),
          record {
            counts = counted;
            queues = λ a b. by_test (eqb j a && eqb i b)
                (λ c. let k = both (eqb j a) _ c in
                rw c (ap (λ (y : ℕ). messages_of f (under_way E y i (suc m))) (eqb-true j a k.0) ∙ ap (λ (y : ℕ). messages_of f (under_way E a y (suc m))) (eqb-true i b k.1)))
                (λ c. rw c (h.queues a b ∙ sym (ap (messages_of f) (stays-under_way E a b m (rw e) (rw (e, c))))));
          },
        )
      where
        taken : (a b : ℕ) → is_recv a b (entry_at E m).step ≡ true → under_way E a b m ≡ entry_at E x ∷ under_way E a b (suc m)
        taken a b r = let k = goes_on E x m a b g r in first_under_way E a b m x r xl k.0 k.1

        first : P.queue j (record_station E m) ≡ sent_message (entry_at E x) ∷ messages_of f (under_way E j (record_station E m) (suc m))
        first =
            h.queues j (record_station E m) ∙ ap (messages_of f) (taken j (record_station E m) (rw (e, eq-eqb j j refl, eq-eqb (record_station E m) (record_station E m) refl)))
            ∙ rw (eq-eqb (phase_of E x) f (q ∙ p))

-- ---- over the whole trace
-- from P on, which stands before the entries X, with the messages U that they took
abbrev Runs : List Accepted → ℕ → Plain → List Accepted → List (List Message) → Type 0
Runs E f P X U = (plain_told P (fed_of f X) ≡ told_of f X U) × Stands E f (length E) (plain_after P (fed_of f X))

module _ (E : List Accepted) (T : List (List Message)) (R : Trace E T) (f : ℕ) where
  one : (m : ℕ) (P : Plain) (X : List Accepted) (U : List (List Message)) → m < length E → Stands E f m P → ((Q : Plain) → Stands E f (suc m) Q → Runs E f Q X U)
      → Runs E f P (entry_at E m ∷ X) (get_or T m [] ∷ U)
  one m P X U l h r =
      by_test (eqb (phase_of E m) f)
      (λ e. let d = does E T R f m P l (eqb-true _ _ e) h (R.follows m l) in
      let n = r d.0 d.2 in
      rw (e, d.1, plain_told, plain_after) (ap {B = List Told} (λ k. told (timestamp_of E m) (get_or T m []) ∷ k) n.0, n.1))
      (λ e. rw e (r P (skip E T R f m P l (eqb-false _ _ e) h)))

  walk : (X : List Accepted) (U : List (List Message)) (m : ℕ) (P : Plain) → drop m E ≡ X → drop m T ≡ U
      → m + length X ≡ length E → length U ≡ length X → Stands E f m P → Runs E f P X U
  walk [] U m P ex eu n k h = (refl, let e : m ≡ length E = omega arith in rw (← e) h)
  walk (x ∷ X) [] m P ex eu n k h = absurd (omega arith)
  walk (x ∷ X) (u ∷ U) m P ex eu n k h =
      let d = drop_head E m x X ex no_entry in
      let t = drop_head T m u U eu [] in
      rw (← d.0, ← t.0) (one m P X U (omega arith) h (λ Q g. walk X U (suc m) Q d.1 t.1 (omega arith) (omega arith) g))

  whole : length T ≡ length E → Runs E f plain_initial E T
  whole k = walk E T 0 plain_initial refl refl (omega arith) k (record { counts = λ i. refl; queues = λ a b. refl })

-- the plain network of each phase gives what the trace says of that phase, and stands as the trace says
module _ (E : List Accepted) (T : List (List Message)) (R : Trace E T) (long : length T ≡ length E) (f : ℕ) where
  pub plain_tells : plain_told plain_initial (fed_of f E) ≡ told_of f E T
  plain_tells = (whole E T R f long).0

  pub plain_stands : Stands E f (length E) (plain_after plain_initial (fed_of f E))
  plain_stands = (whole E T R f long).1
