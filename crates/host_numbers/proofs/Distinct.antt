-- No two different answers of one call share a number: an answer is read back from its number. Assumes nothing.
use Prim.Native.Nat.{ℕ, ◌<◌, ◌≤◌, ◌+◌, ◌*◌, ◌-◌, ◌/◌, ◌%◌}
use native.Mathlib.Omega.{arith}
use mathlib.Core.Path.{◌≡◌, refl, sym, ap, ◌∙◌}
use mathlib.Core.List.{List}
use mathlib.Core.Bool.{Bool, true, false, cond, ◌&&◌}
use lib.Dec.{eqb, ltb}
use borrow.Author.Tests.{lt-ltb, le-ltb}
use Rattle.codec.specs.Num.{AreBytes}
use Rattle.clock.proofs.NewsLaws.{news_eight}
use Rattle.clock.specs.declared.Verdict.{Verdict}
use Rattle.clock.specs.declared.Verdict.TheVariants.{Before, After, Same, Unordered}
use Rattle.record.specs.Record.{parse_record, well_made_record}
use Rattle.verdict.specs.Compare.{verdict_on, verdict_of_bytes}
use Rattle.std.specs.Prelude.{Result, Ok, Err}
use Rattle.refusals.specs.declared.Refusal.{Refusal}
use Rattle.refusals.specs.declared.Refusal.TheVariants.{Malformed, IllFormedState, NetworkRule, NoSuchStation, ModeForbids, UsedUp, EmptyLink, NoMorePhases, DifferentPhases, BufferLength, NoSuchRecord, IllKept, SheetTooLong}
use Rattle.clock.specs.Numbers.{order_number}
use Rattle.entries.specs.declared.EntriesRead.{EntriesRead}
use Rattle.entries.specs.Entries.{count_of, stored_number, well_made_entries, read_entries}
use Rattle.entries.proofs.Laws.{well_made-count}
use Rattle.archive.specs.Archive.{archive_test, records, count_records}
use Rattle.concurrent.specs.Unordered.{unordered_count, list_answer, unordered_answer}
use Rattle.well_kept.specs.WellKept.{well_kept}
use Rattle.phase_order.specs.ByNumber.{order_of}
use Rattle.reset.specs.Network.{quiescent}
use Rattle.reset.specs.Receipts.{receipts_to_rest}
use Rattle.reset.specs.Config.{Config}
use Rattle.reset.specs.Clock.{vector}
use Rattle.reset.specs.State.{Mode, normal, mute, stand_by, State}
use Rattle.reset.specs.Steps.{Step, Entry, Answer, refused, entry, mode_after, Outcome, bounded, step}
use Rattle.reset.proofs.Cases.{clash}
use Rattle.reset.proofs.ConfigLaws.{shape}
use Rattle.reset.proofs.NewsLaws.{news_of-others}
use Rattle.reset.proofs.StepLaws.{within, of_attempt}
use Rattle.area.specs.Layout.{config_at, state_at, test}
use Rattle.area_calls.specs.Calls.{AreaStep, imaged, step_on, RestAnswer, yes, no, rest_on, rest_refused, ReceiptsAnswer, receipts_left, receipts_refused, receipts_on}
use Rattle.station.specs.Image.{mode_byte, mode_of}
use Rattle.step_parts.specs.Answers.{mode_code, stepped_of, Told as Answered, Refused as NotDone, Entered, InMode}
use Rattle.step_parts.proofs.Read.{Passed, passed, made}
use Rattle.host_numbers.specs.Numbers.{Alike, entry_made, tells, modes, counts, step_number, rest_number, receipts_number, verdict_number, block_number, counted_number}
use Rattle.host_numbers.proofs.Tests.{by_test}

-- the answer x is read back from its number; so one number is one answer
abbrev Back : {A : Type 0} → (A → ℕ) → (ℕ → A) → A → Type 0
Back number answer x = answer (number x) ≡ x

one : {A : Type 0} (number : A → ℕ) (answer : ℕ → A) (x y : A) → Back number answer x → Back number answer y → number x ≡ number y → x ≡ y
one number answer x y p q e = sym p ∙ (ap answer e ∙ q)

-- the refusal of a number
abbrev refusal_at : ℕ → Refusal
refusal_at k = cond (eqb k 1) Malformed (cond (eqb k 2) IllFormedState (cond (eqb k 3) NetworkRule (cond (eqb k 4) NoSuchStation (cond (eqb k 5) ModeForbids (cond (eqb k 6) UsedUp (cond (eqb k 7) EmptyLink (cond (eqb k 8) NoMorePhases (cond (eqb k 10) DifferentPhases (cond (eqb k 11) BufferLength (cond (eqb k 12) NoSuchRecord (cond (eqb k 13) IllKept SheetTooLong)))))))))))

-- what is told beside 1,000
told-low : (n : ℕ) → ltb (tells + n) tells ≡ false
told-low n = le-ltb (tells + n) tells (omega arith)

told-rest : (n : ℕ) → tells + n - tells ≡ n
told-rest n = omega arith

-- ---- steps
-- a refusal's number is at most 8, and so is news
abbrev pub Low : Answer → Type 0
Low (refused k) = k ≤ 8
Low (entry e) = e.news ≤ 8
Low (mode_after i m p) = Unit {0}

-- an outcome that a bound may still refuse
still_low : (c : Config) (s : State vector) (o : Outcome vector) → Low o.answer → Low (bounded c s o).answer
still_low c s o l = within c s (λ (o : Outcome vector). Low o.answer) o (omega arith) (λ b. l)

stepped : (c : Config) (s : State vector) (p : Step) → Low (step c s p).answer
stepped c s =
    of_attempt c s (λ p o. Low o.answer) (λ p k a b. omega arith)
    (record {
      own = λ i g si l. still_low c s _ (omega arith);
      sent = λ i j g si ij m l. still_low c s _ (omega arith);
      received = λ i j w g q si ij e. still_low c s _ (news_eight i _ _);
      req = λ i j q si ij e. still_low c s _ tt;
      done = λ i j q si ij e. still_low c s _ tt;
      started = λ i si m l. still_low c s _ tt;
    })

-- what a step on an area can answer
pub step_low : (p : Step) (a : List ℕ) → Low (step_on p a).answer
unfolding step_on
step_low p a = by_test (λ (o : AreaStep). Low o.answer) (test a) (stepped (config_at a) (state_at a) p) (omega arith)

abbrev step_at : ℕ → Answered
step_at k = cond (ltb k entry_made) (NotDone k) (cond (ltb k tells) (Entered (k - entry_made)) (InMode (mode_code (mode_of ((k - tells) % modes))) ((k - tells) / modes)))

mode_back : (m : Mode) → mode_of (mode_byte m) ≡ m
mode_back normal = refl
mode_back mute = refl
mode_back stand_by = refl

mode_small : (m : Mode) → mode_byte m < 4
mode_small normal = omega arith
mode_small mute = omega arith
mode_small stand_by = omega arith

step_back : (o : Answer) → Low o → step_at (step_number o) ≡ (stepped_of o).answer
step_back (refused k) l = rw (lt-ltb k entry_made (omega arith))
step_back (entry e) l =
    let f : entry_made + e.news - entry_made ≡ e.news = omega arith in
    rw (le-ltb (entry_made + e.news) entry_made (omega arith), lt-ltb (entry_made + e.news) tells (omega arith), f)
step_back (mode_after i m p) l =
    let b = mode_byte m in
    let h = mode_small m in
    let f : (modes * p + b) % modes ≡ b = omega arith in
    let g : (modes * p + b) / modes ≡ p = omega arith in
    rw (le-ltb (tells + (modes * p + b)) entry_made (omega arith), told-low (modes * p + b), told-rest (modes * p + b), f, g, mode_back m)

-- whatever the steps and the areas, one number is one answer
pub steps_distinct : (p q : Step) (a b : List ℕ) → step_number (step_on p a).answer ≡ step_number (step_on q b).answer → Alike (step_on p a).answer (step_on q b).answer
steps_distinct p q a b e = sym (step_back (step_on p a).answer (step_low p a)) ∙ (ap step_at e ∙ step_back (step_on q b).answer (step_low q b))

-- the number of entry e is 100 or more, and less than 100 + n, where area a has n stations; so it is 107 at most
abbrev pub Told : List ℕ → Entry → Type 0
Told a e = (entry_made ≤ step_number (entry e)) × (step_number (entry e) < entry_made + (config_at a).n) × (step_number (entry e) ≤ 107)

pub entry-number : (p : Step) (a : List ℕ) (e : Entry) → AreBytes a → (step_on p a).answer ≡ entry e → Told a e
unfolding step_on
entry-number p a e b = go (test a) refl
  where
    go : (t : Bool) → test a ≡ t → (cond t (imaged (config_at a) (step (config_at a) (state_at a) p)) (record { answer = refused 2; area = a })).answer ≡ entry e → Told a e
    go true w h =
        let k : Passed a = passed a b w in
        let l : e.news < (config_at a).n = news_of-others (config_at a) (state_at a) k.formed p e h in
        let n : (config_at a).n ≤ 8 = (shape (config_at a) (made k)).small in
        (omega arith, omega arith, omega arith)
    go false w h = clash (cc)

-- no step on an area answers 11, the refusal of a record area
eleven_apart : (o : Answer) → Low o → step_number o ≡ 11 → ⊥
eleven_apart (refused k) l e = omega arith
eleven_apart (entry f) l e = omega arith
eleven_apart (mode_after i m p) l e = omega arith

pub never_eleven : (p : Step) (a : List ℕ) → step_number (step_on p a).answer ≡ 11 → ⊥
never_eleven p a = eleven_apart (step_on p a).answer (step_low p a)

-- ---- rest
abbrev rest_at : ℕ → RestAnswer
rest_at k = cond (eqb k (rest_number yes)) yes (cond (eqb k (rest_number no)) no (rest_refused k))

rest_back : (a : List ℕ) → Back rest_number rest_at (rest_on a)
unfolding rest_on
rest_back a = by_test (Back rest_number rest_at) (test a) (by_test (Back rest_number rest_at) (quiescent (config_at a) (state_at a)) refl refl) refl

pub rests-distinct : (a b : List ℕ) → rest_number (rest_on a) ≡ rest_number (rest_on b) → rest_on a ≡ rest_on b
rests-distinct a b = one rest_number rest_at _ _ (rest_back a) (rest_back b)

-- ---- receipts to rest, which start at 1,000
abbrev receipts_at : ℕ → ReceiptsAnswer
receipts_at k = cond (ltb k tells) (receipts_refused k) (receipts_left (k - tells))

receipts_back : (a : List ℕ) → Back receipts_number receipts_at (receipts_on a)
unfolding receipts_on
receipts_back a =
    let n : ℕ = receipts_to_rest (config_at a) (state_at a) in
    by_test (Back receipts_number receipts_at) (test a) (rw (told-low n, told-rest n)) refl

pub receipts_distinct : (a b : List ℕ) → receipts_number (receipts_on a) ≡ receipts_number (receipts_on b) → receipts_on a ≡ receipts_on b
receipts_distinct a b = one receipts_number receipts_at _ _ (receipts_back a) (receipts_back b)

-- ---- verdicts
abbrev verdict_at : ℕ → Result Verdict Refusal
verdict_at k = cond (eqb k (order_number Before)) (Ok Before) (cond (eqb k (order_number After)) (Ok After) (cond (eqb k (order_number Same)) (Ok Same) (cond (eqb k (order_number Unordered)) (Ok Unordered) (Err (refusal_at k)))))

order_back : (v : Verdict) → verdict_at (order_number v) ≡ Ok v
order_back Before = refl
order_back After = refl
order_back Same = refl
order_back Unordered = refl

verdict_back : (a b : List ℕ) → Back verdict_number verdict_at (verdict_on a b)
unfolding verdict_on verdict_of_bytes
verdict_back a b =
    by_test (Back verdict_number verdict_at) (well_made_record a && well_made_record b)
    (by_test (Back verdict_number verdict_at) (eqb (parse_record a).phase (parse_record b).phase) (order_back _) refl) refl

pub verdicts-distinct : (a b c d : List ℕ) → verdict_number (verdict_on a b) ≡ verdict_number (verdict_on c d) → verdict_on a b ≡ verdict_on c d
verdicts-distinct a b c d = one verdict_number verdict_at _ _ (verdict_back a b) (verdict_back c d)

-- by number, in an archive
order_of_back : (a : List ℕ) (i j : ℕ) → Back verdict_number verdict_at (order_of a i j)
unfolding order_of
order_of_back a i j =
    by_test (Back verdict_number verdict_at) (archive_test a)
    (by_test (Back verdict_number verdict_at) (ltb i (records a) && ltb j (records a)) (by_test (Back verdict_number verdict_at) (well_kept a) (order_back _) refl) refl) refl

pub orders-distinct : (a b : List ℕ) (i j k l : ℕ) → verdict_number (order_of a i j) ≡ verdict_number (order_of b k l) → order_of a i j ≡ order_of b k l
orders-distinct a b i j k l = one verdict_number verdict_at _ _ (order_of_back a i j) (order_of_back b k l)

-- ---- an entries block read, whose count is at most 15
abbrev block_at : ℕ → Result EntriesRead Refusal
block_at k = cond (ltb k tells) (Err (refusal_at k)) (Ok (record { number = (k - tells) / counts; count = (k - tells) % counts }))

block_back : (a : List ℕ) → Back block_number block_at (read_entries a)
unfolding read_entries
block_back a = go (well_made_entries a) refl
  where
    go : (t : Bool) → well_made_entries a ≡ t → Back block_number block_at (cond t (Ok (record { number = stored_number a; count = count_of a })) (Err Malformed))
    go true h =
        let n : ℕ = stored_number a in
        let k : ℕ = count_of a in
        let z : k ≤ 15 = (well_made-count a h).1 in
        let f : (counts * n + k) / counts ≡ n = omega arith in
        let g : (counts * n + k) % counts ≡ k = omega arith in
        rw (told-low (counts * n + k), told-rest (counts * n + k), f, g)
    go false h = refl

pub blocks-distinct : (a b : List ℕ) → block_number (read_entries a) ≡ block_number (read_entries b) → read_entries a ≡ read_entries b
blocks-distinct a b = one block_number block_at _ _ (block_back a) (block_back b)

-- ---- counts, which start at 1,000
abbrev counted_at : ℕ → Result ℕ Refusal
counted_at k = cond (ltb k tells) (Err (refusal_at k)) (Ok (k - tells))

counted_back : (a : List ℕ) → Back counted_number counted_at (count_records a)
unfolding count_records
counted_back a = by_test (Back counted_number counted_at) (archive_test a) (rw (told-low (records a), told-rest (records a))) refl

pub counts-distinct : (a b : List ℕ) → counted_number (count_records a) ≡ counted_number (count_records b) → count_records a ≡ count_records b
counts-distinct a b = one counted_number counted_at _ _ (counted_back a) (counted_back b)

-- ---- unordered lists, whose counts start at 1,000 too
listed_back : (a : List ℕ) (k places : ℕ) → Back counted_number counted_at (unordered_answer a k places)
unfolding unordered_answer list_answer
listed_back a k places =
    by_test (Back counted_number counted_at) (archive_test a)
    (by_test (Back counted_number counted_at) (ltb k (records a))
    (by_test (Back counted_number counted_at) (ltb places (unordered_count a k)) refl (rw (told-low (unordered_count a k), told-rest (unordered_count a k)))) refl) refl

pub lists-distinct : (a b : List ℕ) (j k p q : ℕ) → counted_number (unordered_answer a j p) ≡ counted_number (unordered_answer b k q) → unordered_answer a j p ≡ unordered_answer b k q
lists-distinct a b j k p q = one counted_number counted_at _ _ (listed_back a j p) (listed_back b k q)
