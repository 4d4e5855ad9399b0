-- Where the records of an entries block start (document 02, CR 3). Assumes nothing.
use Rattle.std.specs.Prelude.{ℕ, ◌+◌, ◌*◌, ◌≡◌, refl, [], ◌∷◌}
use Rattle.codec.specs.Rows.{upto}

-- record k, from 0 to 14, starts here; the last of `count` records ends where the next would start
abbrev pub record_start : ℕ → ℕ
record_start k = 16 + 32 * k

-- the fifteen starts are those of the drawing
pub starts_as_drawn : upto 15 record_start ≡ 16 ∷ 48 ∷ 80 ∷ 112 ∷ 144 ∷ 176 ∷ 208 ∷ 240 ∷ 272 ∷ 304 ∷ 336 ∷ 368 ∷ 400 ∷ 432 ∷ 464 ∷ []
unfolding upto
starts_as_drawn = refl
