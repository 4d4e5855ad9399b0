-- Text written into a lent buffer. Assumes nothing.
use Rattle.std.specs.Prelude.{ℕ, ◌+◌, ◌≤◌, ◌≡◌, List, length}
use Rattle.codec.specs.Splice.{splice}

-- the buffer `old` has become `new`: the text stands in it from `at` on, the rest is left, and `end` is the place behind the text, not past the buffer
pub record TextAt (old : List ℕ) (at : ℕ) (text : List ℕ) (end : ℕ) (new : List ℕ) : Type 0 where
  pub next : end ≡ at + length text
  pub fits : end ≤ length old
  pub is : new ≡ splice old at text
