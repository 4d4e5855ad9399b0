-- A link's queue as 715 bytes: 34 places of 21 bytes. Assumes nothing.
use Rattle.std.specs.Prelude.{ℕ, ◌≤◌, ◌<◌, ◌≡◌, List, [], ◌∷◌, ◌++◌, Bool, cond, ◌&&◌, ◌||◌, eqb, length, get_or, drop}
use Rattle.codec.specs.Num.{bytes_of, num_at, nums_of, nums_at}
use Rattle.codec.specs.Every.{blank, all_zero}
use Rattle.queue.specs.Queue.{image_queue, place_at, parse_queue, items_pass, behind}
use Rattle.reset.specs.Config.{Config, places}
use Rattle.reset.specs.Clock.{vector, timestamp_fits}
use Rattle.reset.specs.State.{Item, message, reset_req, reset_done}
use Rattle.link.specs.declared.Control.{Control}
use Rattle.link.specs.declared.Control.TheVariants.{ResetReq, ResetDone}
use Rattle.link.specs.declared.Item.{Item as CodeItem}
use Rattle.link.specs.declared.Item.TheVariants.{Message, Control as AControl}

-- ---- sizes in bytes: of an item, of all places of a link, and of a link, whose first byte is the count of its items
abbrev pub item_size : ℕ
item_size = 21

abbrev pub most_items : ℕ
most_items = 34

abbrev pub places_size : ℕ
places_size = 714

abbrev pub link_size : ℕ
link_size = 715

-- ---- an item
-- by its kind, its register number and its counts: kind 2 is reset_req, 3 reset_done, any other a message
unfoldable pub item_of : ℕ → ℕ → List ℕ → Item vector
item_of k g v = cond (eqb k 2) reset_req (cond (eqb k 3) reset_done (message v g))

-- what the code's enums stand for
abbrev pub control_view : Control → Item vector
control_view ResetReq = reset_req
control_view ResetDone = reset_done

abbrev pub item_view : CodeItem → Item vector
item_view (Message register counts) = message counts register
item_view (AControl control) = control_view control

-- the kind of a control item in bytes
abbrev pub control_number : Control → ℕ
control_number ResetReq = 2
control_number ResetDone = 3

-- its 21 bytes: kind, register number, eight counts; of a control item all but the kind is 0
unfoldable pub image_item : Item vector → List ℕ
image_item (message v g) = (1 ∷ []) ++ bytes_of 4 g ++ nums_of 2 8 v
image_item reset_req = (2 ∷ []) ++ blank 20
image_item reset_done = (3 ∷ []) ++ blank 20

-- the item that 21 bytes stand for
unfoldable pub parse_item : List ℕ → Item vector
parse_item l = item_of (get_or l 0 0) (num_at 4 l 1) (nums_at 2 8 l 5)

-- 21 bytes are an item in range: kind 1 and counts that fit, or kind 2 or 3 and zeros
unfoldable pub item_test : Config → List ℕ → Bool
item_test c l =
    cond (eqb (get_or l 0 0) 1)
    (timestamp_fits c c.t (nums_at 2 8 l 5))
    ((eqb (get_or l 0 0) 2 || eqb (get_or l 0 0) 3) && all_zero (drop 1 l))

-- ---- a queue
-- what a link holds, its first item first
abbrev pub Queue : Type 0
Queue = List (Item vector)

-- its 715 bytes, however long it is
unfoldable pub image_link : Queue → List ℕ
image_link q = image_queue image_item places_size q

-- the item at place k
unfoldable pub item_at : List ℕ → ℕ → Item vector
item_at l k = parse_item (place_at item_size l k)

-- the queue that 715 bytes stand for
unfoldable pub parse_link : List ℕ → Queue
parse_link l = parse_queue item_size parse_item l

-- 715 bytes hold at most m items, each in range
unfoldable pub items_test : ℕ → Config → List ℕ → Bool
items_test m c l = items_pass item_size (item_test c) m l

-- 715 bytes are a queue in range for the link from i to j: its items, and zeros after the last
unfoldable pub link_test : Config → ℕ → ℕ → List ℕ → Bool
link_test c i j l = items_test (places c i j) c l && all_zero (behind item_size l)

-- n and t alone, all that the test of a queue reads of a configuration
abbrev pub sized : ℕ → ℕ → Config
sized n t = record { n = n; t = t; allowances = []; limits = [] }

-- ---- what the bytes can hold
-- an item whose fields fit their bytes
abbrev pub RangedItem : Item vector → Type 0
RangedItem (message v g) = (length v ≡ 8) × ((k : ℕ) → get_or v k 0 < 65536) × (g < 4294967296)
RangedItem reset_req = Unit
RangedItem reset_done = Unit

-- a queue that fits the places, of such items
pub record RangedLink (q : Queue) : Type 0 where
  pub most : length q ≤ most_items
  pub items : (k : ℕ) → k < length q → RangedItem (get_or q k reset_req)
