-- The calls of a header block, both ways: what a block holds is written as that block, and what is written is read. Assumes nothing.
use Prim.Native.Nat.{ℕ, ◌+◌, ◌≤◌, ◌<◌}
use mathlib.Core.Path.{◌≡◌, refl}
use mathlib.Core.List.{List}
use mathlib.Core.Bool.{Bool, true, false, cond}
use native.Mathlib.Omega.{arith}
use lib.Dec.{ltb}
use lib.ListN.{length, take, drop}
use lib.Seq.{take_at}
use borrow.Author.Tests.{ltb-false, le-ltb}
use Rattle.std.specs.Prelude.{Ok, Err, replicate}
use Rattle.refusals.specs.declared.Refusal.TheVariants.{Malformed}
use Rattle.codec.specs.Num.{AreBytes}
use Rattle.codec.specs.Splice.{splice}
use Rattle.codec.specs.Written.{refused, wrote}
use Rattle.codec.proofs.Has.{num_below, nums_below}
use Rattle.header.specs.Header.{header_fits, table_at, parse_header, image_header, well_made_header, write_header, read_header, read_limits}
use Rattle.header.specs.declared.Header.{Header}
use Rattle.header.proofs.Laws.{image-length, well_made_parts, accepted_is_image, table-rows, table-row, Typed, Table, parse_image, table-image, image-accepted}

-- ---- from the block
-- what an accepted block holds is what the writer takes
pub accepted_fits : (l : List ℕ) → well_made_header l ≡ true → header_fits (parse_header l) (table_at 8 l 32) ≡ true
accepted_fits l h = (well_made_parts l h).5

-- and it is of the types that the writer takes
pub accepted-typed : (l : List ℕ) → AreBytes l → Typed (parse_header l)
accepted-typed l b = record { n = b 1; t = num_below 2 l 2 b; eight = refl; allowances = nums_below 2 8 l 16 b }

pub accepted-table : (l : List ℕ) → Table (table_at 8 l 32)
accepted-table l = record { rows = table-rows 8 l 32; cells = λ (i : ℕ) (h : i < 8). table-row 8 l 32 i h }

-- each accepted block is the one that the writer makes from what it holds
pub accepted_is_written : (l d : List ℕ) → AreBytes l → well_made_header l ≡ true → 512 ≤ length d → write_header (parse_header l) (table_at 8 l 32) d ≡ wrote (splice d 0 l)
unfolding write_header
accepted_is_written l d b h s = rw (accepted_fits l h, le-ltb (length d) 512 s, accepted_is_image l b h)

-- the same by the calls alone: what the readers give of a block is written as that block
pub read_is_written : (l d : List ℕ) (h : Header) → AreBytes l → read_header l ≡ Ok h → 512 ≤ length d → write_header h (read_limits l) d ≡ wrote (splice d 0 l)
unfolding read_header read_limits
read_is_written l d h b z s = go (well_made_header l) refl z
  where
    go : (t : Bool) → well_made_header l ≡ t → cond t (Ok (parse_header l)) (Err Malformed) ≡ Ok h → write_header h (cond t (table_at 8 l 32) (replicate 8 (replicate 8 0))) d ≡ wrote (splice d 0 l)
    go true e q = let p : parse_header l ≡ h = cc in rw (← p) (accepted_is_written l d b e s)
    go false e q = absurd (cc)

-- ---- from the writer
module _ (h : Header) (m : List (List ℕ)) (d : List ℕ) (done : (write_header h m d).answer ≡ 0) where
  -- fields in range, and room for the block
  taken : (header_fits h m ≡ true) × (512 ≤ length d)
  unfolding write_header
  taken = go (header_fits h m) (ltb (length d) 512) refl refl done
    where
      go : (u v : Bool) → header_fits h m ≡ u → ltb (length d) 512 ≡ v → (cond u (cond v (refused 11 d) (wrote (splice d 0 (image_header h m)))) (refused 1 d)).answer ≡ 0
          → (header_fits h m ≡ true) × (512 ≤ length d)
      go false v a b z = absurd (omega arith)
      go true true a b z = absurd (omega arith)
      go true false a b z = (a, ltb-false _ _ b)

  -- the block stands in the first 512 bytes of the buffer
  pub written-block : take 512 (write_header h m d).buffer ≡ image_header h m
  unfolding write_header
  written-block =
      let p = taken in
      rw (p.0, le-ltb (length d) 512 p.1) (take_at (image_header h m) (drop (0 + length (image_header h m)) d) 512 (image-length h m))

  module _ (typed : Typed h) (table : Table m) where
    -- what is written is read: n, t and the allowances
    pub written_is_read : read_header (take 512 (write_header h m d).buffer) ≡ Ok h
    unfolding read_header
    written_is_read = rw (written-block, image-accepted h m typed table taken.0, parse_image h m typed)

    -- and the limits
    pub written-limits-are_read : read_limits (take 512 (write_header h m d).buffer) ≡ m
    unfolding read_limits
    written-limits-are_read = rw (written-block, image-accepted h m typed table taken.0) (table-image h m table)
