-- A queue's bytes, over the width of an item and the size of the places: their form, an item more or less, what is read back. Assumes nothing.
use Prim.Native.Nat.{ℕ, ◌+◌, ◌*◌, ◌-◌, ◌≤◌, ◌<◌}
use mathlib.Core.Path.{◌≡◌, refl, ◌∙◌, sym, ap}
use mathlib.Core.List.{List, [], ◌∷◌, ◌++◌, append_assoc, append-nil}
use mathlib.Core.Bool.{true}
use native.Mathlib.Omega.{arith}
use native.Mathlib.Nat.{zero-mul, suc-mul, add-mul, one-mul, sub-zero}
use lib.ListN.{length, get_or, take, drop, length-append, length-take, length-drop, take-append-drop}
use lib.Seq.{take_at, drop_at, drop-cons, drop-drop}
use borrow.Author.Tests.{eqb-true}
use Rattle.codec.specs.Rows.{rows, upto}
use Rattle.codec.specs.Every.{blank, all_zero}
use Rattle.codec.proofs.SpliceLaws.{drop_past}
use Rattle.codec.proofs.Stride.{rows-length, rows_append, row_at, rows_made, upto-length, upto_at, upto_is}
use Rattle.codec.proofs.EveryLaws.{total-zero}
use Rattle.codec.proofs.BlankLaws.{blank-length, blank-append, blank-drop}
use Rattle.queue.specs.Queue.{image_queue, place_at, parse_queue, behind, pushed, popped}

module _ {A : Type 0} (f : A → List ℕ) (w : ℕ) (sized : (a : A) → length (f a) ≡ w) (s : ℕ) where
  pub queue-length : (q : List A) → length (image_queue f s q) ≡ 1 + s
  unfolding image_queue
  queue-length q = simp (length-take, length-append, blank-length) (omega arith)

  pub queue-count : (q : List A) → get_or (image_queue f s q) 0 0 ≡ length q
  unfolding image_queue
  queue-count q = refl

  -- the form in which a queue that fits is changed
  pub queue_form : (q : List A) → length q * w ≤ s → image_queue f s q ≡ length q ∷ (rows f q ++ blank (s - length q * w))
  unfolding image_queue
  queue_form q h =
      let n : ℕ = length q * w in
      let e : length (rows f q) ≡ n = rows-length f w sized q in
      let m : s - n + n ≡ s = omega arith in
      let z : blank s ≡ blank (s - n) ++ blank n = sym (blank-append (s - n) n ∙ ap blank m) in
      let p : List ℕ = rows f q ++ blank (s - n) in
      let lp : length p ≡ s = simp (length-append, blank-length) (omega arith) in
      ap (λ (l : List ℕ). length q ∷ take s l) (ap (λ (l : List ℕ). rows f q ++ l) z ∙ sym (append_assoc (rows f q) _ _))
      ∙ ap (λ (l : List ℕ). length q ∷ l) (take_at p (blank n) s lp)

  -- an empty queue is all zeros
  pub queue-empty : image_queue f s [] ≡ blank (1 + s)
  queue-empty =
      let one : blank 1 ≡ 0 ∷ [] = unfold blank in refl in
      let z : 0 * w ≡ 0 = zero-mul w in
      queue_form [] (omega arith) ∙ rw (z, sub-zero) (rw one at (blank-append 1 s))

  -- zeros stand behind the items
  pub queue-behind : (q : List A) → length q * w ≤ s → behind w (image_queue f s q) ≡ blank (s - length q * w)
  queue-behind q h =
      let e : length (rows f q) ≡ length q * w = rows-length f w sized q in
      rw (queue_form q h) (drop_at (length q ∷ rows f q) (blank (s - length q * w)) (1 + length q * w) (omega arith))

  -- an item written behind the others
  pub push_image : (q : List A) (x : A) → (length q + 1) * w ≤ s → pushed w (image_queue f s q) (f x) ≡ image_queue f s (q ++ (x ∷ []))
  push_image q x h =
      let n : ℕ = length q * w in
      let p : List ℕ = length q ∷ rows f q in
      let z : List ℕ = blank (s - n) in
      let r : length (rows f q) ≡ n = rows-length f w sized q in
      let m : (length q + 1) * w ≡ n + w = add-mul (length q) 1 w ∙ rw one-mul in
      let a : take (1 + n) (p ++ z) ≡ p = take_at p z (1 + n) (omega arith) in
      let b : drop (1 + n + length (f x)) (p ++ z) ≡ drop (length (f x)) z = drop_past p z (1 + n) (length (f x)) (omega arith) in
      let k : s - n - w ≡ s - (n + w) = omega arith in
      let long : length (q ++ (x ∷ [])) ≡ length q + 1 = length-append q (x ∷ []) in
      rw (queue_form q (omega arith), queue_form (q ++ (x ∷ [])) (rw long h))
      (rw (a, b, sized x, blank-drop, long, rows_append f w sized, m, k, append-nil, append_assoc))

  -- the first item taken off
  pub pop_image : (x : A) (q : List A) → length (x ∷ q) * w ≤ s → popped w (image_queue f s (x ∷ q)) ≡ image_queue f s q
  pop_image x q h =
      let n : ℕ = length (x ∷ q) * w in
      let m : n ≡ length q * w + w = suc-mul (length q) w in
      let e : length (rows f (x ∷ q)) ≡ n = rows-length f w sized (x ∷ q) in
      let r : length (rows f q) ≡ length q * w = rows-length f w sized q in
      let z : List ℕ = blank (s - n) in
      let t : take n (rows f (x ∷ q) ++ z) ≡ rows f (x ∷ q) = take_at (rows f (x ∷ q)) z n e in
      let d : drop w (f x ++ rows f q) ≡ rows f q = drop_at (f x) (rows f q) w (sized x) in
      let y : length (rows f q ++ blank w) ≡ n = simp (length-append, blank-length) (omega arith) in
      let g : drop (1 + n) (length (x ∷ q) ∷ (rows f (x ∷ q) ++ z)) ≡ z = drop_at (length (x ∷ q) ∷ rows f (x ∷ q)) z (1 + n) (omega arith) in
      let k : w + (s - n) ≡ s - length q * w = omega arith in
      let less : length (x ∷ q) - 1 ≡ length q = omega arith in
      rw (queue_form (x ∷ q) h, queue_form q (omega arith)) (rw (t, d, y, g, append_assoc, blank-append, k, less))

  -- place k
  pub queue_place : (q : List A) (k : ℕ) (d : A) → length q * w ≤ s → k < length q → place_at w (image_queue f s q) k ≡ f (get_or q k d)
  queue_place q k d m h = rw (queue_form q m) (row_at f w sized (length q ∷ []) (blank (s - length q * w)) q k d 1 refl h)

  module _ (p : List ℕ → A) where
    -- a queue read back as written
    pub parse_image : (q : List A) (d : A) → length q * w ≤ s → ((k : ℕ) → k < length q → p (f (get_or q k d)) ≡ get_or q k d) → parse_queue w p (image_queue f s q) ≡ q
    unfolding parse_queue
    parse_image q d m law =
        rw (queue-count q) (upto_is (length q) _ q d refl (λ (k : ℕ) (h : k < length q). ap p (queue_place q k d m h) ∙ law k h))

    -- and bytes written as read, where each place is, with zeros behind
    pub image_parse : (l : List ℕ) → length l ≡ 1 + s → get_or l 0 0 * w ≤ s → ((k : ℕ) → k < get_or l 0 0 → f (p (place_at w l k)) ≡ place_at w l k)
        → all_zero (behind w l) ≡ true → image_queue f s (parse_queue w p l) ≡ l
    unfolding parse_queue
    image_parse l e m law zeros =
        let c : ℕ = get_or l 0 0 in
        let n : ℕ = c * w in
        let z : drop (1 + n) l ≡ blank (length (drop (1 + n) l)) = total-zero (drop (1 + n) l) (eqb-true _ _ zeros) in
        let k : length (drop (1 + n) l) ≡ s - n = simp length-drop (omega arith) in
        let r : rows f (upto c (λ (i : ℕ). p (place_at w l i))) ≡ take n (drop 1 l) = rows_made f w sized (λ (i : ℕ). p (place_at w l i)) c 1 l law (omega arith) in
        let u : length (upto c (λ (i : ℕ). p (place_at w l i))) ≡ c = upto-length c _ in
        let y : drop (1 + n) l ≡ blank (s - n) = z ∙ ap blank k in
        queue_form (upto c (λ (i : ℕ). p (place_at w l i))) (rw u m)
        ∙ rw (u, r, ← y, ← drop-drop n 1 l, take-append-drop) (sym (drop-cons l 0 0 (omega arith)))

-- what is read
pub parse_count : {A : Type 0} (w : ℕ) (p : List ℕ → A) (l : List ℕ) → length (parse_queue w p l) ≡ get_or l 0 0
unfolding parse_queue
parse_count w p l = upto-length (get_or l 0 0) _

pub parse_item_lem : {A : Type 0} (w : ℕ) (p : List ℕ → A) (l : List ℕ) (k : ℕ) (d : A) → k < get_or l 0 0 → get_or (parse_queue w p l) k d ≡ p (place_at w l k)
unfolding parse_queue
parse_item_lem w p l k d h = upto_at (get_or l 0 0) _ k d h
