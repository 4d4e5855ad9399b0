-- Laws of a station's image: what is written is read back, and what passes the test of the bytes is what the writer makes. Assumes nothing.
use Prim.Native.Nat.{ℕ, zero, suc, ◌+◌, ◌-◌, ◌<◌, ◌≤◌}
use mathlib.Core.Path.{◌≡◌, refl, ◌∙◌, sym, ap}
use mathlib.Core.List.{List, [], ◌∷◌, ◌++◌}
use mathlib.Core.Bool.{Bool, true, false, not, cond}
use native.Mathlib.Omega.{arith}
use native.Mathlib.Decide.{dec_lt}
use lib.Dec.{eqb, leb}
use lib.ListN.{length, get_or, take, drop, length-append, length-take, length-drop, get_or-eq_default}
use lib.Seq.{get_or-take, get_or-drop, drop-cons}
use borrow.Author.Tests.{eqb-true, leb-true, le-leb}
use Rattle.codec.specs.Num.{AreBytes, bytes_of, nums_of}
use Rattle.codec.specs.Rows.{upto}
use Rattle.codec.proofs.NumLaws.{nums_length, below_of}
use Rattle.codec.proofs.EveryLaws.{both, join, every_at, every_of}
use Rattle.codec.proofs.Stride.{upto-length, upto_at, upto_is}
use Rattle.codec.proofs.Fronts.{front_part, front_nums, front_num, front_none, front_all}
use Rattle.codec.proofs.Has.{Has, has_first, has_last, has_more, has_num, has_nums, has_byte, has_at}
use Rattle.reset.specs.Config.{Config, is_station, limit_at, allowance_at, size_fits, allowance_fits, allowances_fit, well_made}
use Rattle.reset.specs.Reach.{limit}
use Rattle.reset.proofs.ConfigLaws.{shape}
use Rattle.reset.specs.Clock.{vector, of_station, count_fits, timestamp_fits}
use Rattle.reset.specs.State.{Mode, normal, mute, stand_by, Station}
use Rattle.reset.specs.WellFormed.{mode_fits, phase_fits, own_fits, sent_fits_to, sent_fits, marks_fit, station_fits}
use Rattle.station.specs.Image.{mark_byte, sent_of, marks_of, mode_byte, image_station, byte_at, mark_at, mode_of, parse_station, Ranged}
use Rattle.station.specs.Test.{mark_fits, station_bytes_fit, station_test}

pub sent-length : (l : List ℕ) → length (sent_of l) ≡ 8
unfolding sent_of
sent-length l = upto-length 8 _

-- of eight they are the bytes themselves
pub sent_is : (l : List ℕ) → length l ≡ 8 → sent_of l ≡ l
unfolding sent_of
sent_is l e = upto_is 8 _ l 0 e (λ j h. refl)

pub marks-length : (l : List Bool) → length (marks_of l) ≡ 8
unfolding marks_of
marks-length l = upto-length 8 _

pub image-length : (x : Station vector) → length (image_station x) ≡ 47
unfolding image_station
image-length x = simp (length-append, sent-length, marks-length)

-- ---- what is parsed, written again
-- a byte that is at most 1 is that of the mark it is read as; one that is at most 2 that of the mode
mark_back : (b : ℕ) → b ≤ 1 → mark_byte (not (eqb b 0)) ≡ b
mark_back zero h = refl
mark_back (suc zero) h = refl
mark_back (suc (suc b)) h = absurd (omega arith)

mode_back : (b : ℕ) → b ≤ 2 → mode_byte (mode_of b) ≡ b
mode_back zero h = refl
mode_back (suc zero) h = refl
mode_back (suc (suc zero)) h = refl
mode_back (suc (suc (suc b))) h = absurd (omega arith)

-- the test, place by place
pub bytes_fit_parts : (l : List ℕ) → station_bytes_fit l ≡ true → (get_or l 46 0 ≤ 2) × ((j : ℕ) → j < 16 → get_or l (24 + j) 0 ≤ 1)
unfolding station_bytes_fit
bytes_fit_parts l h =
    let p = both (leb (get_or l 46 0) 2) _ h in
    (leb-true _ 2 p.0, λ (j : ℕ) (b : j < 16). leb-true _ 1 (every_at 16 (mark_fits l) j p.1 b))

-- eight bytes from `at`, read and written again
sent-forth : (l : List ℕ) → length l ≡ 47 → take 8 (drop 16 l) ≡ sent_of (upto 8 (byte_at l 16))
unfolding sent_of
sent-forth l n =
    sym (upto_is 8 _ (take 8 (drop 16 l)) 0 (simp (length-take, length-drop) (omega arith))
    (λ (j : ℕ) (h : j < 8). upto_at 8 (byte_at l 16) j 0 h ∙ sym (get_or-take 8 (drop 16 l) j 0 h ∙ get_or-drop 16 l j 0)))

marks-forth : (l : List ℕ) (at : ℕ) → at + 8 ≤ length l → ((j : ℕ) → j < 8 → get_or l (at + j) 0 ≤ 1) → take 8 (drop at l) ≡ marks_of (upto 8 (mark_at l at))
unfolding marks_of
marks-forth l at n s =
    sym (upto_is 8 _ (take 8 (drop at l)) 0 (simp (length-take, length-drop) (omega arith))
    (λ (j : ℕ) (h : j < 8). ap mark_byte (upto_at 8 (mark_at l at) j false h) ∙ mark_back _ (s j h) ∙ sym (get_or-take 8 (drop at l) j 0 h ∙ get_or-drop at l j 0)))

-- bytes that pass the test are those that the writer makes of what the reader gives of them
pub image_parse : (l : List ℕ) → AreBytes l → length l ≡ 47 → station_bytes_fit l ≡ true → image_station (parse_station l) ≡ l
unfolding image_station parse_station
image_parse l b n h =
    let p = bytes_fit_parts l h in
    let f1 = front_nums l b 2 8 0 [] (front_none l b) (omega arith) in
    let f2 = front_part l b 8 16 _ _ f1 (sent-forth l n) in
    let f3 = front_part l b 8 24 _ _ f2 (marks-forth l 24 (omega arith) (λ (j : ℕ) (g : j < 8). p.1 j (omega arith))) in
    let f4 = front_part l b 8 32 _ _ f3 (marks-forth l 32 (omega arith) (λ (j : ℕ) (g : j < 8). (let e : 24 + (8 + j) ≡ 32 + j = omega arith in rw e at (p.1 (8 + j) (omega arith))))) in
    let f5 = front_num l b 4 40 _ f4 (omega arith) in
    let f6 = front_num l b 2 44 _ f5 (omega arith) in
    let f7 = front_part l b 1 46 _ _ f6 (ap (take 1) (drop-cons l 46 0 (omega arith)) ∙ ap (λ (m : ℕ). m ∷ []) (sym (mode_back _ p.0))) in
    front_all l b 47 _ f7 n

-- ---- what is written, read back
mark_forth : (b : Bool) → not (eqb (mark_byte b) 0) ≡ b
mark_forth true = refl
mark_forth false = refl

mark_small : (b : Bool) → mark_byte b ≤ 1
mark_small true = omega arith
mark_small false = omega arith

mode-forth : (m : Mode) → mode_of (mode_byte m) ≡ m
mode-forth normal = refl
mode-forth mute = refl
mode-forth stand_by = refl

mode_small : (m : Mode) → mode_byte m ≤ 2
mode_small normal = omega arith
mode_small mute = omega arith
mode_small stand_by = omega arith

module _ (x : Station vector) where
  -- the places of the pieces
  record Places : Type 0 where
    counts_at : Has (image_station x) 0 (nums_of 2 8 x.time)
    sent_at : Has (image_station x) 16 (sent_of x.sent)
    reqs_at : Has (image_station x) 24 (marks_of x.reqs)
    dones_at : Has (image_station x) 32 (marks_of x.dones)
    phase_at : Has (image_station x) 40 (bytes_of 4 x.phase)
    own_at : Has (image_station x) 44 (bytes_of 2 x.own)
    mode_at : Has (image_station x) 46 (mode_byte x.mode ∷ [])

  places : Places
  unfolding image_station
  places =
      let m : List ℕ = mode_byte x.mode ∷ [] in
      let o : List ℕ = bytes_of 2 x.own in
      let p : List ℕ = bytes_of 4 x.phase in
      let a : List ℕ = nums_of 2 8 x.time in
      let b : List ℕ = a ++ sent_of x.sent in
      let d : List ℕ = b ++ marks_of x.reqs in
      let e : List ℕ = d ++ marks_of x.dones in
      let f : List ℕ = e ++ p in
      let g : List ℕ = f ++ o in
      let na : length a ≡ 16 = nums_length 2 8 x.time in
      let nb : length b ≡ 24 = simp sent-length in
      let nd : length d ≡ 32 = simp (length-append, sent-length, marks-length) in
      let ne : length e ≡ 40 = simp (length-append, sent-length, marks-length) in
      let nf : length f ≡ 44 = simp (length-append, sent-length, marks-length) in
      let ng : length g ≡ 46 = simp (length-append, sent-length, marks-length) in
      record {
        counts_at = has_more m (has_more o (has_more p (has_more (marks_of x.dones) (has_more (marks_of x.reqs) (has_more (sent_of x.sent) (has_first a))))));
        sent_at = has_more m (has_more o (has_more p (has_more (marks_of x.dones) (has_more (marks_of x.reqs) (has_last a (sent_of x.sent) 16 na)))));
        reqs_at = has_more m (has_more o (has_more p (has_more (marks_of x.dones) (has_last b (marks_of x.reqs) 24 nb))));
        dones_at = has_more m (has_more o (has_more p (has_last d (marks_of x.dones) 32 nd)));
        phase_at = has_more m (has_more o (has_last e p 40 ne));
        own_at = has_more m (has_last f o 44 nf);
        mode_at = has_last g m 46 ng;
      }

  mark_place : (l : List Bool) (n j : ℕ) → Has (image_station x) n (marks_of l) → j < 8 → get_or (image_station x) (n + j) 0 ≡ mark_byte (get_or l j false)
  unfolding marks_of
  mark_place l n j h b = has_at (marks_of l) j h (omega (arith, marks-length l)) ∙ upto_at 8 (λ (k : ℕ). mark_byte (get_or l k false)) j 0 b

  sent_place : (j : ℕ) → j < 8 → byte_at (image_station x) 16 j ≡ get_or x.sent j 0
  unfolding sent_of
  sent_place j b = has_at (sent_of x.sent) j places.sent_at (omega (arith, sent-length x.sent)) ∙ upto_at 8 (λ (k : ℕ). get_or x.sent k 0) j 0 b

  marks_back : (l : List Bool) (n : ℕ) → Has (image_station x) n (marks_of l) → length l ≡ 8 → upto 8 (mark_at (image_station x) n) ≡ l
  marks_back l n h e =
      upto_is 8 (mark_at (image_station x) n) l false e
      (λ (j : ℕ) (b : j < 8). ap (λ (y : ℕ). not (eqb y 0)) (mark_place l n j h b) ∙ mark_forth (get_or l j false))

  pub parse_image : Ranged x → parse_station (image_station x) ≡ x
  unfolding parse_station
  parse_image r =
      rw (
        has_nums 2 8 x.time places.counts_at r.time8 (below_of 65536 x.time (λ (k : ℕ) (b : k < length x.time). r.counts-below k)),
        has_num 4 x.phase places.phase_at r.phase-below,
        has_num 2 x.own places.own_at r.own_below,
        has_byte (mode_byte x.mode) places.mode_at,
        mode-forth x.mode,
        upto_is 8 (byte_at (image_station x) 16) x.sent 0 r.sent8 sent_place,
        marks_back x.reqs 24 places.reqs_at r.reqs8,
        marks_back x.dones 32 places.dones_at r.dones8,
      )

  -- every image passes the test of the bytes
  pub image_bytes_fit : station_bytes_fit (image_station x) ≡ true
  unfolding station_bytes_fit
  image_bytes_fit =
      let e : leb (get_or (image_station x) 46 0) 2 ≡ true = rw (has_byte (mode_byte x.mode) places.mode_at) (le-leb _ 2 (mode_small x.mode)) in
      join _ _ e
      (every_of 16 (mark_fits (image_station x)) (λ (j : ℕ) (b : j < 16). le-leb _ 1 (go j b (dec_lt j 8))))
    where
      go : (j : ℕ) → j < 16 → Dec (j < 8) → get_or (image_station x) (24 + j) 0 ≤ 1
      go j b (yes l) = rw (mark_place x.reqs 24 j places.reqs_at l) (mark_small (get_or x.reqs j false))
      go j b (no l) =
          let e : 24 + j ≡ 32 + (j - 8) = omega arith in
          rw (e, mark_place x.dones 32 (j - 8) places.dones_at (omega arith)) (mark_small (get_or x.dones (j - 8) false))

-- ---- what is in range
-- the test of a record, part by part
pub fits_parts : (c : Config) (i : ℕ) (x : Station vector) → station_fits c i x ≡ true
    → (timestamp_fits c (of_station c i c.t) x.time ≡ true) × (leb x.phase (of_station c i 999999) ≡ true) × (leb x.own (allowance_at c x.phase i) ≡ true)
    × (sent_fits c i x ≡ true) × (marks_fit c i x ≡ true)
unfolding station_fits
fits_parts c i x h =
    let a = both (timestamp_fits c (of_station c i c.t) x.time) _ h in
    let b = both (mode_fits c i x) _ a.1 in
    let d = both (phase_fits c i x) _ b.1 in
    let e = both (own_fits c i x) _ d.1 in
    let f = both (sent_fits c i x) _ e.1 in
    (a.0, d.0, e.0, f.0, f.1)

bound_small : (c : Config) (i b : ℕ) → of_station c i b ≤ b
bound_small c i b = go (is_station c i)
  where
    go : (t : Bool) → cond t b 0 ≤ b
    go true = omega arith
    go false = omega arith

-- each place of a list of eight in range: the rest is past the end
eight_below : (l : List ℕ) (m : ℕ) → length l ≡ 8 → 0 < m → ((k : ℕ) → k < 8 → get_or l k 0 < m) → (k : ℕ) → get_or l k 0 < m
eight_below l m n z h k = go (dec_lt k 8)
  where
    go : Dec (k < 8) → get_or l k 0 < m
    go (yes b) = h k b
    go (no b) = omega (arith, get_or-eq_default l 0 {n = k} (omega arith))

-- a record that the network's rules allow has its sizes
module _ (c : Config) (w : well_made c ≡ true) (i : ℕ) (b : i < 8) (x : Station vector) (h : station_fits c i x ≡ true) where
  allowance_small : get_or c.allowances i 0 ≤ 65535
  unfolding well_made allowances_fit
  allowance_small =
      let p = both (size_fits c.n c.t) _ w in
      let q = both (allowances_fit c.allowances) _ p.1 in
      leb-true _ 65535 (every_at 8 (allowance_fits c.allowances) i (both (eqb (length c.allowances) 8) _ q.0).1 b)

  pub fits_ranged : Ranged x
  unfolding timestamp_fits sent_fits marks_fit allowance_at limit_at
  fits_ranged =
      let s = shape c w in
      let p = fits_parts c i x h in
      let counts = both (eqb (length x.time) 8) _ p.0 in
      let sent = both (eqb (length x.sent) 8) _ p.3 in
      let reqs = both (eqb (length x.reqs) 8) _ p.4 in
      let dones = both (eqb (length x.dones) 8) _ reqs.1 in
      let n : length x.time ≡ 8 = eqb-true _ 8 counts.0 in
      let m : length x.sent ≡ 8 = eqb-true _ 8 sent.0 in
      record {
        time8 = n;
        sent8 = m;
        reqs8 = eqb-true _ 8 reqs.0;
        dones8 = eqb-true _ 8 dones.0;
        counts-below = eight_below x.time 65536 n (omega arith) (λ (k : ℕ) (l : k < 8).
            omega (arith, leb-true (get_or x.time k 0) (of_station c k (of_station c i c.t)) (every_at 8 (count_fits c (of_station c i c.t) x.time) k counts.1 l), bound_small c k (of_station c i c.t), bound_small c i c.t, s.ceiling));
        sent-below = eight_below x.sent 256 m (omega arith) (λ (j : ℕ) (l : j < 8).
            omega (arith, leb-true (get_or x.sent j 0) (limit c.limits i j) (every_at 8 (sent_fits_to c i x) j sent.1 l), s.limit32 i j b l));
        phase-below = omega (arith, leb-true x.phase (of_station c i 999999) p.1, bound_small c i 999999);
        own_below = omega (arith, leb-true x.own (get_or c.allowances i 0) p.2, allowance_small);
      }

-- ---- the test of the bytes
pub test_parts : (c : Config) (i : ℕ) (l : List ℕ) → station_test c i l ≡ true → (station_bytes_fit l ≡ true) × (station_fits c i (parse_station l) ≡ true)
unfolding station_test
test_parts c i l h = both (station_bytes_fit l) _ h

-- accepted bytes are those that the writer makes of what the reader gives of them
pub accepted_is_image : (c : Config) (i : ℕ) (l : List ℕ) → AreBytes l → length l ≡ 47 → station_test c i l ≡ true → image_station (parse_station l) ≡ l
accepted_is_image c i l b n h = image_parse l b n (test_parts c i l h).0

-- the image of a record in range is accepted
pub image-accepted : (c : Config) → well_made c ≡ true → (i : ℕ) → i < 8 → (x : Station vector) → station_fits c i x ≡ true → station_test c i (image_station x) ≡ true
unfolding station_test
image-accepted c w i b x h = rw (image_bytes_fit x, parse_image x (fits_ranged c w i b x h)) h
