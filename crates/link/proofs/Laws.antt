-- A link's bytes: what is written is read back, and what is accepted is the image of a queue in range. Assumes nothing.
use Prim.Native.Nat.{ℕ, ◌+◌, ◌*◌, ◌-◌, ◌≤◌, ◌<◌}
use mathlib.Core.Path.{◌≡◌, refl, ◌∙◌, sym, ap}
use mathlib.Core.List.{List, [], ◌∷◌, ◌++◌}
use mathlib.Core.Bool.{Bool, true, false, cond, ◌&&◌, ◌||◌, true≢false}
use native.Mathlib.Omega.{arith}
use native.Mathlib.Decide.{dec_lt}
use lib.Dec.{eqb, leb}
use lib.ListN.{length, get_or, drop, replicate, length-take, length-drop, get_or-eq_default}
use lib.Seq.{drop-cons}
use borrow.Author.Tests.{eqb-true, leb-true, le-leb}
use Rattle.codec.specs.Num.{AreBytes, bytes_of, num_at, nums_of, nums_at}
use Rattle.codec.specs.Every.{blank, every, total, all_zero}
use Rattle.codec.proofs.NumLaws.{below_of, of_below}
use Rattle.codec.proofs.Has.{has_last, has_more, has_num, has_nums, num_below, nums_below}
use Rattle.codec.proofs.Fronts.{front_nums, front_num, front_byte, front_none, front_all, bytes_take, bytes_drop}
use Rattle.codec.proofs.EveryLaws.{both, join, every_none, every_at, every_of, total-zero, zeros-blank}
use Rattle.codec.proofs.BlankLaws.{blank-length}
use Rattle.queue.specs.Queue.{image_queue, place_at, items_pass}
use Rattle.queue.proofs.Laws as queue
use Rattle.queue.proofs.Laws.{queue-length, queue-count, queue-empty, queue-behind, queue_place, parse_image, image_parse}
use Rattle.reset.specs.Reach.{limit, linked}
use Rattle.reset.specs.Config.{Config, is_station, neighbours, places, well_made}
use Rattle.reset.proofs.ConfigLaws.{shape, linked-small}
use Rattle.reset.specs.Clock.{vector, count_fits, timestamp_fits}
use Rattle.reset.specs.State.{Item, message, reset_req, reset_done}
use Rattle.reset.specs.WellFormed.{item_fits, item_fits_at, link_fits}
use Rattle.link.specs.declared.Control.{Control}
use Rattle.link.specs.declared.Control.TheVariants.{ResetReq, ResetDone}
use Rattle.link.specs.Image.{Queue, control_number, control_view, item_of, image_item, parse_item, item_test, image_link, item_at, parse_link, items_test, link_test, sized, RangedItem, RangedLink}

-- ---- an item
pub item-length : (x : Item vector) → length (image_item x) ≡ 21
unfolding image_item
item-length (message v g) = refl
item-length reset_req = omega (arith, blank-length 20)
item-length reset_done = omega (arith, blank-length 20)

-- bytes that pass the test, by their kind
data Passed (c : Config) (l : List ℕ) : Type 0 where
  a_message : get_or l 0 0 ≡ 1 → timestamp_fits c c.t (nums_at 2 8 l 5) ≡ true → Passed c l
  a_req : get_or l 0 0 ≡ 2 → all_zero (drop 1 l) ≡ true → Passed c l
  a_done : get_or l 0 0 ≡ 3 → all_zero (drop 1 l) ≡ true → Passed c l

passed : (c : Config) (l : List ℕ) → item_test c l ≡ true → Passed c l
unfolding item_test
passed c l h = go (eqb (get_or l 0 0) 1) refl (eqb (get_or l 0 0) 2) refl (eqb (get_or l 0 0) 3) refl h
  where
    go : (p : Bool) → eqb (get_or l 0 0) 1 ≡ p → (q : Bool) → eqb (get_or l 0 0) 2 ≡ q → (r : Bool) → eqb (get_or l 0 0) 3 ≡ r
        → cond p (timestamp_fits c c.t (nums_at 2 8 l 5)) ((q || r) && all_zero (drop 1 l)) ≡ true → Passed c l
    go true e q f r g h = a_message (eqb-true _ _ e) h
    go false e true f r g h = a_req (eqb-true _ _ f) h
    go false e false f true g h = a_done (eqb-true _ _ g) h
    go false e false f false g h = absurd (true≢false (sym h))

parse_message : (l : List ℕ) → get_or l 0 0 ≡ 1 → parse_item l ≡ message (nums_at 2 8 l 5) (num_at 4 l 1)
unfolding parse_item item_of
parse_message l e = rw e

parse_req : (l : List ℕ) → get_or l 0 0 ≡ 2 → parse_item l ≡ reset_req
unfolding parse_item item_of
parse_req l e = rw e

parse_done : (l : List ℕ) → get_or l 0 0 ≡ 3 → parse_item l ≡ reset_done
unfolding parse_item item_of
parse_done l e = rw e

-- a kind with zeros behind it
control : (l : List ℕ) (k : ℕ) → length l ≡ 21 → get_or l 0 0 ≡ k → all_zero (drop 1 l) ≡ true → k ∷ blank 20 ≡ l
control l k n e z =
    let m : length (drop 1 l) ≡ 20 = rw length-drop (omega arith) in
    let y : drop 1 l ≡ blank 20 = total-zero (drop 1 l) (eqb-true _ 0 z) ∙ ap blank m in
    rw (← e, ← y) (sym (drop-cons l 0 0 (omega arith)))

pub item-image_parse : (c : Config) (l : List ℕ) → AreBytes l → length l ≡ 21 → item_test c l ≡ true → image_item (parse_item l) ≡ l
unfolding image_item
item-image_parse c l b n h = go (passed c l h)
  where
    go : Passed c l → image_item (parse_item l) ≡ l
    go (a_message e f) =
        let f1 = front_byte l b 0 [] (front_none l b) (omega arith) in
        let f2 = front_num l b 4 1 _ f1 (omega arith) in
        let f3 = front_nums l b 2 8 5 _ f2 (omega arith) in
        rw (parse_message l e) (rw e at (front_all l b 21 _ f3 n))
    go (a_req e z) = rw (parse_req l e) (control l 2 n e z)
    go (a_done e z) = rw (parse_done l e) (control l 3 n e z)

-- the counts and the register number of a message's bytes
message-counts : (v : List ℕ) (g : ℕ) → RangedItem (message v g) → nums_at 2 8 (image_item (message v g)) 5 ≡ v
unfolding image_item
message-counts v g r = has_nums 2 8 v (has_last ((1 ∷ []) ++ bytes_of 4 g) (nums_of 2 8 v) 5 refl) r.0 (below_of 65536 v (λ (k : ℕ) (b : k < length v). r.1 k))

message-register : (v : List ℕ) (g : ℕ) → RangedItem (message v g) → num_at 4 (image_item (message v g)) 1 ≡ g
unfolding image_item
message-register v g r = has_num 4 g (has_more (nums_of 2 8 v) (has_last (1 ∷ []) (bytes_of 4 g) 1 refl)) r.2

pub item_parse_image : (x : Item vector) → RangedItem x → parse_item (image_item x) ≡ x
item_parse_image (message v g) r =
    rw (parse_message (image_item (message v g)) (unfold image_item in refl), message-counts v g r, message-register v g r)
item_parse_image reset_req r = parse_req (image_item reset_req) (unfold image_item in refl)
item_parse_image reset_done r = parse_done (image_item reset_done) (unfold image_item in refl)

-- what a writer must write of a control item
pub control-image : (x : Control) → image_item (control_view x) ≡ (control_number x ∷ []) ++ bytes_of 4 0 ++ nums_of 2 8 (replicate 8 0)
unfolding image_item blank
control-image ResetReq = refl
control-image ResetDone = refl

-- what is read of bytes fits them
pub item_ranged : (l : List ℕ) → AreBytes l → RangedItem (parse_item l)
unfolding parse_item item_of
item_ranged l b = go (eqb (get_or l 0 0) 2) (eqb (get_or l 0 0) 3)
  where
    go : (p q : Bool) → RangedItem (cond p reset_req (cond q reset_done (message (nums_at 2 8 l 5) (num_at 4 l 1))))
    go true q = tt
    go false true = tt
    go false false = (refl, of_below 65536 (nums_at 2 8 l 5) (omega arith) (nums_below 2 8 l 5 b), num_below 4 l 1 b)

-- what passes the test is in range, and what is in range passes
pub item_fits_lem : (c : Config) (l : List ℕ) → AreBytes l → item_test c l ≡ true → item_fits c (parse_item l) ≡ true
item_fits_lem c l b h = go (passed c l h)
  where
    go : Passed c l → item_fits c (parse_item l) ≡ true
    go (a_message e f) = rw (parse_message l e) (join _ _ f (le-leb (num_at 4 l 1) 4294967295 (let m = num_below 4 l 1 b in omega arith)))
    go (a_req e z) = rw (parse_req l e)
    go (a_done e z) = rw (parse_done l e)

pub item-passes : (c : Config) (x : Item vector) → RangedItem x → item_fits c x ≡ true → item_test c (image_item x) ≡ true
unfolding item_test
item-passes c (message v g) r h =
    rw (message-counts v g r) (unfold image_item in (both (timestamp_fits c c.t v) _ h).0)
item-passes c reset_req r h = unfold image_item in zeros-blank 20
item-passes c reset_done r h = unfold image_item in zeros-blank 20

-- ---- a queue
pub link-length : (q : Queue) → length (image_link q) ≡ 715
unfolding image_link
link-length = queue-length image_item 21 item-length 714

pub link-count : (q : Queue) → get_or (image_link q) 0 0 ≡ length q
unfolding image_link
link-count = queue-count image_item 21 item-length 714

-- an empty link is all zeros
pub link_empty_lem : image_link [] ≡ blank 715
unfolding image_link
link_empty_lem = queue-empty image_item 21 item-length 714

-- a queue read back as written
pub link_parse_image : (q : Queue) → RangedLink q → parse_link (image_link q) ≡ q
unfolding parse_link image_link
link_parse_image q r =
    let m = r.most in
    parse_image image_item 21 item-length 714 parse_item q reset_req (omega arith) (λ k h. item_parse_image (get_or q k reset_req) (r.items k h))

pub parse_count : (l : List ℕ) → length (parse_link l) ≡ get_or l 0 0
unfolding parse_link
parse_count = queue.parse_count 21 parse_item

pub parse_item_lem : (l : List ℕ) (k : ℕ) → k < get_or l 0 0 → get_or (parse_link l) k reset_req ≡ item_at l k
unfolding parse_link item_at
parse_item_lem l k = queue.parse_item_lem 21 parse_item l k reset_req

-- ---- what passes the test
-- the items, of a configuration by n and t alone, and the zeros behind them
pub link_parts : (c : Config) (i j m : ℕ) (l : List ℕ) → m ≡ places c i j → link_test c i j l ≡ (items_test m (sized c.n c.t) l && all_zero (drop (1 + get_or l 0 0 * 21) l))
unfolding link_test items_test items_pass item_test timestamp_fits is_station
link_parts c i j m l e = rw e

-- at most m items
pub items-few : (m : ℕ) (c : Config) (l : List ℕ) → items_test m c l ≡ true → get_or l 0 0 ≤ m
unfolding items_test items_pass
items-few m c l h = leb-true _ _ (both (leb (get_or l 0 0) m) _ h).0

-- of no item all is zero, the count too
pub link-idle : (c : Config) (i j : ℕ) (l : List ℕ) → 0 < length l → get_or l 0 0 ≡ 0 → link_test c i j l ≡ all_zero l
unfolding link_test items_test items_pass total
link-idle c i j l h e =
    let f : total l ≡ get_or l 0 0 + total (drop 1 l) = ap total (drop-cons l 0 0 h) in
    let g : total l ≡ total (drop 1 l) = omega arith in
    rw (e, le-leb 0 (places c i j) (omega arith), every_none, g)

-- of a link in a well_made_lem configuration
pub places_most : (c : Config) → well_made c ≡ true → (i j : ℕ) → places c i j ≤ 34
unfolding places neighbours
places_most c h i j = go (linked c.limits i j) refl
  where
    go : (p : Bool) → linked c.limits i j ≡ p → cond p (limit c.limits i j + 2) 0 ≤ 34
    go true e = let s = linked-small c h i j e in omega (arith, (shape c h).limit32 i j s.0 s.1)
    go false e = omega arith

module _ (c : Config) (i j : ℕ) (l : List ℕ) (b : AreBytes l) (w : link_test c i j l ≡ true) where
  -- the test, part by part
  few : get_or l 0 0 ≤ places c i j
  unfolding link_test
  few = items-few (places c i j) c l (both (items_test (places c i j) c l) _ w).0

  passes : (k : ℕ) → k < get_or l 0 0 → item_test c (place_at 21 l k) ≡ true
  unfolding link_test items_test items_pass
  passes k h = every_at (get_or l 0 0) _ k (both (leb (get_or l 0 0) (places c i j)) _ (both (items_test (places c i j) c l) _ w).0).1 h

  bytes_place : (k : ℕ) → AreBytes (place_at 21 l k)
  bytes_place k = bytes_take 21 (drop (1 + k * 21) l) (bytes_drop (1 + k * 21) l b)

  -- what is accepted is the image of the queue that it stands for
  pub link_image_parse : length l ≡ 715 → places c i j ≤ 34 → image_link (parse_link l) ≡ l
  unfolding image_link parse_link link_test
  link_image_parse e most =
      let h = few in
      image_parse image_item 21 item-length 714 parse_item l e (omega arith)
      (λ k g. item-image_parse c (place_at 21 l k) (bytes_place k) (simp (length-take, length-drop) (omega arith)) (passes k g))
      (both (items_test (places c i j) c l) _ w).1

  pub link_ranged : places c i j ≤ 34 → RangedLink (parse_link l)
  unfolding item_at
  link_ranged most =
      record {
        most = omega (arith, parse_count l, few);
        items = λ (k : ℕ) (g : k < length (parse_link l)). rw (parse_item_lem l k (omega (arith, parse_count l))) (item_ranged (place_at 21 l k) (bytes_place k));
      }

  -- and that queue is in range
  pub test_fits : link_fits c i j (parse_link l) ≡ true
  unfolding link_fits item_at
  test_fits =
      rw (parse_count l)
      (join (leb (get_or l 0 0) (places c i j)) _ (le-leb _ _ few)
      (every_of (get_or l 0 0) (item_fits_at c (parse_link l)) (λ k h. rw (parse_item_lem l k h) (item_fits_lem c (place_at 21 l k) (bytes_place k) (passes k h)))))

-- ---- what is in range passes
counts_ranged : (c : Config) → well_made c ≡ true → (v : List ℕ) → timestamp_fits c c.t v ≡ true → (length v ≡ 8) × ((k : ℕ) → get_or v k 0 < 65536)
unfolding timestamp_fits
counts_ranged c h v f =
    let p = both (eqb (length v) 8) _ f in
    (eqb-true _ _ p.0, λ (k : ℕ). go k (eqb-true _ _ p.0) p.1 (dec_lt k 8))
  where
    under : (p : Bool) → cond p c.t 0 ≤ 65535
    under true = (shape c h).ceiling
    under false = omega arith

    go : (k : ℕ) → length v ≡ 8 → every 8 (count_fits c c.t v) ≡ true → Dec (k < 8) → get_or v k 0 < 65536
    go k n e (yes s) = omega (arith, under (is_station c k), leb-true (get_or v k 0) _ (every_at 8 (count_fits c c.t v) k e s))
    go k n e (no s) = let z : get_or v k 0 ≡ 0 = get_or-eq_default v 0 (omega arith) in omega arith

item_in_range : (c : Config) → well_made c ≡ true → (x : Item vector) → item_fits c x ≡ true → RangedItem x
item_in_range c h (message v g) f =
    let p = both (timestamp_fits c c.t v) _ f in
    let r = counts_ranged c h v p.0 in
    (r.0, r.1, omega (arith, leb-true g 4294967295 p.1))
item_in_range c h reset_req f = tt
item_in_range c h reset_done f = tt

module _ (c : Config) (h : well_made c ≡ true) (i j : ℕ) (q : Queue) (f : link_fits c i j q ≡ true) where
  fit : (length q ≤ places c i j) × (every (length q) (item_fits_at c q) ≡ true)
  unfolding link_fits
  fit = let p = both (leb (length q) (places c i j)) _ f in (leb-true _ _ p.0, p.1)

  pub fits_ranged : RangedLink q
  fits_ranged =
      record {
        most = omega (arith, fit.0, places_most c h i j);
        items = λ (k : ℕ) (s : k < length q). item_in_range c h (get_or q k reset_req) (every_at (length q) (item_fits_at c q) k fit.1 s);
      }

  -- the image of a queue in range is accepted
  pub fits_test : link_test c i j (image_link q) ≡ true
  unfolding link_test items_test items_pass image_link image_queue
  fits_test =
      let n : ℕ = length q in
      let m : n ≤ 34 = fits_ranged.most in
      join (leb n (places c i j) && every n (λ (k : ℕ). item_test c (place_at 21 (image_link q) k))) _
      (join (leb n (places c i j)) _ (le-leb _ _ fit.0)
      (every_of n _
      (λ (k : ℕ) (g : k < n). rw (queue_place image_item 21 item-length 714 q k reset_req (omega arith) g) (item-passes c (get_or q k reset_req) (fits_ranged.items k g) (every_at n (item_fits_at c q) k fit.1 g)))))
      (rw (queue-behind image_item 21 item-length 714 q (omega arith)) (zeros-blank (714 - n * 21)))
