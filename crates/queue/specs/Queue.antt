-- A queue of items of one width in bytes, whatever an item is: the count of its items, the items packed from the front, zeros after the last. Assumes nothing.
use Rattle.std.specs.Prelude.{ℕ, ◌+◌, ◌*◌, ◌-◌, List, ◌∷◌, ◌++◌, Bool, ◌&&◌, leb, length, get_or, take, drop, set}
use Rattle.codec.specs.Rows.{rows, upto}
use Rattle.codec.specs.Splice.{splice}
use Rattle.codec.specs.Every.{blank, every}

-- its bytes, however long it is: f gives those of an item, and the places of all items are s bytes
unfoldable pub image_queue : {A : Type 0} → (A → List ℕ) → ℕ → List A → List ℕ
image_queue f s q = length q ∷ take s (rows f q ++ blank s)

-- the w bytes of place k
abbrev pub place_at : ℕ → List ℕ → ℕ → List ℕ
place_at w l k = take w (drop (1 + k * w) l)

-- the queue that bytes stand for, its items read by p
unfoldable pub parse_queue : {A : Type 0} → ℕ → (List ℕ → A) → List ℕ → List A
parse_queue w p l = upto (get_or l 0 0) (λ (k : ℕ). p (place_at w l k))

-- at most m items, each of which passes a test
unfoldable pub items_pass : ℕ → (List ℕ → Bool) → ℕ → List ℕ → Bool
items_pass w p m l = leb (get_or l 0 0) m && every (get_or l 0 0) (λ (k : ℕ). p (place_at w l k))

-- what stands behind the items
abbrev pub behind : ℕ → List ℕ → List ℕ
behind w l = drop (1 + get_or l 0 0 * w) l

-- an item behind the others, and counted
abbrev pub pushed : ℕ → List ℕ → List ℕ → List ℕ
pushed w l v = set (splice l (1 + get_or l 0 0 * w) v) 0 (get_or l 0 0 + 1)

-- the first item taken off: the places in use move by one, and zeros follow them
abbrev pub popped : ℕ → List ℕ → List ℕ
popped w l = set (splice l 1 (drop w (take (get_or l 0 0 * w) (drop 1 l)) ++ blank w)) 0 (get_or l 0 0 - 1)
