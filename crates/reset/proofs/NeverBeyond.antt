-- No list of steps from an initial network meets a bound, whichever step comes next. Assumes nothing.
use Prim.Native.Nat.{ℕ, ◌+◌, ◌≤◌, ◌<◌}
use mathlib.Core.Path.{◌≡◌, refl}
use mathlib.Core.List.{List, [], ◌∷◌}
use mathlib.Core.Bool.{true}
use native.Mathlib.Omega.{arith}
use borrow.Author.Tests.{leb-false}
use Rattle.codec.proofs.SumLaws.{sum-zero}
use Rattle.reset.specs.Config.{Config, well_made, network_rules}
use Rattle.reset.proofs.ConfigLaws.{Rules, rules, station-below}
use Rattle.reset.specs.Clock.{vector}
use Rattle.reset.specs.State.{reset_req, reset_done, State, station_at, sent_to}
use Rattle.reset.specs.Steps.{Step, Answer, refused, entry, mode_after, Outcome, guard, bounded, step}
use Rattle.reset.specs.Network.{initial_station, initial, run}
use Rattle.reset.specs.Bounds.{NeverBeyond}
use Rattle.reset.proofs.Views.{zeros_at}
use Rattle.reset.proofs.StepLaws.{of_attempt}
use Rattle.reset.proofs.Invariant.{Invariant}
use Rattle.reset.proofs.Keeps.{begin_keeps, turn_keeps, enter_keeps, send_keeps, receive_keeps, req_keeps, done_keeps, takes_req, takes_done}
use Rattle.reset.proofs.Summary.{step_keeps}
use Rattle.reset.proofs.Initial.{initial_station_lem, initial-link, initial-invariant}
use Rattle.reset.proofs.Books.{Books, books-bounds}
use Rattle.reset.proofs.BooksKept.{begin_books, turn_books, enter-books, send-books, mark_books, receive-books}

-- ---- a step
-- what a step refuses with, where no bound is met: 4 to 8
abbrev pub Known : Answer → Type 0
Known (refused k) = (4 ≤ k) × (k ≤ 8)
Known (entry e) = Unit {0}
Known (mode_after i m p) = Unit {0}

-- an outcome that keeps the books
pub record Safe (c : Config) (o : Outcome vector) : Type 0 where
  pub books : Books c o.after
  pub known : Known o.answer

module _ (c : Config) (u : Rules c) (r : network_rules c ≡ true) (s : State vector) (v : Invariant c s) (w : Books c s) where
  -- is not refused for a bound
  accepted : (o : Outcome vector) → Invariant c o.after → Books c o.after → Known o.answer → Safe c (bounded c s o)
  unfolding bounded guard
  accepted o k b a = rw (books-bounds c u o.after k b) (record { books = b; known = a })

  pub safe_step : (p : Step) → Safe c (step c s p)
  safe_step =
      of_attempt c s (λ p o. Safe c o) (λ p k a b. record { books = w; known = (a, b) })
      (record {
        own = λ i g si l. accepted _ (enter_keeps c u s v i).inv (enter-books c u r i (station-below c i si) s v w l) tt;
        sent = λ i j g si ij m l. accepted _ (send_keeps c u s v i j g ij m) (send-books c u r i (station-below c i si) s v w j ij g m l) tt;
        received = λ i j m g q si ij e. accepted _ (receive_keeps c u s v i j ij q m g e) (receive-books c u r i (station-below c i si) s v w j ij m g q e) tt;
        req = λ i j q si ij e.
            let il = station-below c i si in
            let k = (req_keeps c u s v i j ij q e).inv in
            accepted _ (turn_keeps c u i _ k).inv
            (turn_books c u i il _ k (mark_books c u r i il s v w j ij _ reset_req q _ (takes_req c u s v i j ij q e) refl (λ z. z) refl refl refl refl refl)) tt;
        done = λ i j q si ij e.
            let il = station-below c i si in
            let k = (done_keeps c u s v i j ij q e).inv in
            accepted _ (turn_keeps c u i _ k).inv
            (turn_books c u i il _ k (mark_books c u r i il s v w j ij _ reset_done q _ (takes_done c u s v i j ij q e) refl (λ z. z) refl refl refl refl refl)) tt;
        started = λ i si m l.
            let il = station-below c i si in
            let k = (begin_keeps c u i s m v).inv in
            let f : (station_at s i).phase < _ = leb-false _ _ l in
            accepted _ (turn_keeps c u i _ k).inv (turn_books c u i il _ k (begin_books c u i il s v w m (omega (arith, f)))) tt;
      })

-- ---- lists of steps
run-books : (c : Config) → Rules c → network_rules c ≡ true → (s : State vector) → Invariant c s → Books c s → (ps : List Step)
    → Invariant c (run c s ps) × Books c (run c s ps)
run-books c u r s v w [] = (v, w)
run-books c u r s v w (p ∷ ps) = run-books c u r (step c s p).after (step_keeps c u s v p) (safe_step c u r s v w p).books ps

pub initial-books : (c : Config) → Rules c → Books c (initial vector c)
initial-books c u =
    record {
      targets = λ i l. rw (initial_station_lem vector c i l) (omega arith);
      counts = λ i l k kl. rw (initial_station_lem vector c i l, zeros_at) (omega arith);
      unlinked = λ a b h. initial-link vector c a b;
      books = λ i l.
          record {
            got = λ j. 0;
            station = rw (initial_station_lem vector c i (omega (arith, u.small)))
                (record {
                  own-within = omega arith;
                  sent-within = λ j. rw zeros_at (omega arith);
                  got-within = λ j. omega arith;
                  own-count = omega (arith, zeros_at i, sum-zero 8 (λ (j : ℕ). sent_to (initial_station vector c i) j + 0) (λ j l. rw zeros_at));
                });
            links = λ a h. rw (initial-link vector c a i)
                (record { most = omega arith; one_phase = λ e. omega arith; behind = λ e. omega arith; loads = tt });
          };
    }

-- ---- the theorem
module _ (c : Config) (m : well_made c ≡ true) (r : network_rules c ≡ true) (ps : List Step) where
  reached : Invariant c (run c (initial vector c) ps) × Books c (run c (initial vector c) ps)
  reached = let u = rules c m r in run-books c u r _ (initial-invariant vector c u) (initial-books c u) ps

  -- a step is refused with 4 to 8, or accepted
  pub known_refusals : (p : Step) (k : ℕ) → (step c (run c (initial vector c) ps) p).answer ≡ refused k → (4 ≤ k) × (k ≤ 8)
  known_refusals p k h = rw h at (safe_step c (rules c m r) r _ reached.0 reached.1 p).known

pub never_beyond : NeverBeyond
never_beyond c m r ps p =
    let u = rules c m r in
    let b = reached c m r ps in
    record {
      not_two = λ h. omega (arith, (known_refusals c m r ps p 2 h).0);
      within = books-bounds c u _ (step_keeps c u _ b.0 p) (safe_step c u r _ b.0 b.1 p).books;
    }
