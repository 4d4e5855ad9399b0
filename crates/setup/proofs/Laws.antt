-- The image of the initial network, piece by piece. Assumes nothing.
use Prim.Native.Nat.{ℕ, zero, suc, ◌+◌, ◌*◌, ◌/◌, ◌%◌, ◌-◌, ◌<◌}
use mathlib.Core.Path.{◌≡◌, refl, ◌∙◌, sym, ap}
use mathlib.Core.List.{List, [], ◌++◌, append_assoc, append-nil}
use mathlib.Core.Bool.{Bool, true, false, cond}
use Rattle.std.specs.Prelude.{Result, Ok, Err}
use Rattle.refusals.specs.declared.Refusal.{Refusal}
use Rattle.refusals.specs.declared.Refusal.TheVariants.{Malformed}
use Rattle.header.specs.declared.Header.{Header}
use native.Mathlib.Omega.{arith}
use native.Mathlib.Nat.{suc-mul}
use native.Mathlib.Numerals.{add-one}
use lib.ListN.{length, take, drop}
use Rattle.codec.specs.Num.{AreBytes}
use Rattle.codec.specs.Rows.{rows, upto}
use Rattle.codec.specs.Splice.{splice}
use Rattle.codec.specs.Every.{blank}
use Rattle.codec.proofs.BlankLaws.{blank-append, blank-length, blank_none}
use Rattle.codec.proofs.SpliceLaws.{lent, splice_more, first, next, written}
use Rattle.codec.proofs.Stride.{rows_append, rows-length, upto-length, upto_same}
use Rattle.header.specs.Header.{table_at, image_header, parse_header, read_header, well_made_header}
use Rattle.header.proofs.Laws as header
use Rattle.reset.specs.Config.{Config, neighbours}
use Rattle.reset.specs.Clock.{vector}
use Rattle.reset.specs.State.{station_at}
use Rattle.reset.specs.Network.{initial, initial_station}
use Rattle.reset.proofs.Initial.{initial_station_lem, initial-link}
use Rattle.rules.specs.Setup.{block_config, header_of}
use Rattle.station.specs.Image.{image_station}
use Rattle.station.proofs.Laws as station
use Rattle.link.specs.Image.{Queue, image_link}
use Rattle.link.proofs.Laws as link
use Rattle.area.specs.Layout.{link_number, image}
use Rattle.setup.specs.Limits.{initial_of, initial_bytes}

-- ---- the pieces
-- empty links are zeros
pub links-blank : (n : ℕ) (g : ℕ → Queue) → ((k : ℕ) → g k ≡ []) → rows image_link (upto n g) ≡ blank (n * 715)
unfolding upto
links-blank zero g e = sym blank_none
links-blank (suc n) g e =
    rw (rows_append image_link 715 link.link-length, links-blank n g e, append-nil, e n, link.link_empty_lem, suc-mul) (blank-append (n * 715) 715)

-- a station's initial record reads the limits alone
pub fresh_is : (c : Config) (i : ℕ) → initial_of c.limits i ≡ initial_station vector c i
unfolding initial_of neighbours
fresh_is c i = refl

pub fresh-length : (m : List (List ℕ)) (k : ℕ) → length (initial_bytes m k) ≡ k * 47
unfolding initial_bytes
fresh-length m k = rw (rows-length image_station 47 station.image-length (upto k (initial_of m)), upto-length k (initial_of m))

pub fresh_none : (m : List (List ℕ)) → initial_bytes m 0 ≡ []
unfolding initial_bytes upto
fresh_none m = refl

pub fresh_more : (m : List (List ℕ)) (k : ℕ) → initial_bytes m (k + 1) ≡ initial_bytes m k ++ image_station (initial_of m k)
unfolding initial_bytes upto
fresh_more m k = rw (add-one, rows_append image_station 47 station.image-length, append-nil)

-- the image of the initial network of a header block
pub initial-image : (l : List ℕ) → AreBytes l → well_made_header l ≡ true
    → image (block_config l) (initial vector (block_config l)) ≡ (l ++ initial_bytes (table_at 8 l 32) 8) ++ blank 64648
unfolding image initial_bytes
initial-image l b h =
    let c = block_config l in
    let s = initial vector c in
    let p : image_header (header_of c) c.limits ≡ l = header.accepted_is_image l b h in
    let q : upto 8 (station_at s) ≡ upto 8 (initial_of (table_at 8 l 32)) = upto_same 8 _ _ (λ i k. initial_station_lem vector c i k ∙ sym (fresh_is c i)) in
    let r : rows image_link (upto 64 (link_number s)) ≡ blank 45760 = links-blank 64 (link_number s) (λ k. initial-link vector c (k / 8) (k % 8)) in
    rw (p, q, r, blank-append 45760 18888) (sym (append_assoc l _ (blank 64648)))

-- ---- the writing
-- a turn of the loop over the stations
pub station_turn : (d₀ d ys : List ℕ) (m : List (List ℕ)) (i e : ℕ) → i < 8 → length d₀ ≡ 65536 → d ≡ splice d₀ 512 (initial_bytes m i)
    → e - (512 + i * 47) ≡ 47 → ys ≡ image_station (initial_of m i)
    → take (512 + i * 47) d ++ (ys ++ drop (e - (512 + i * 47)) (drop (512 + i * 47) d)) ≡ splice d₀ 512 (initial_bytes m (i + 1))
station_turn d₀ d ys m i e l n p h y =
    let s = fresh-length m i in
    lent d ys (image_station (initial_of m i)) (512 + i * 47) e y (h ∙ sym (station.image-length (initial_of m i)))
    ∙ ap (λ (x : List ℕ). splice x (512 + i * 47) (image_station (initial_of m i))) p
    ∙ splice_more d₀ 512 (initial_bytes m i) (omega arith) (512 + i * 47) (image_station (initial_of m i)) (omega arith)
    ∙ ap (splice d₀ 512) (sym (fresh_more m i))

-- the three writes of setup
pub all_written : (l a d e f : List ℕ) (m : List (List ℕ)) → AreBytes l → well_made_header l ≡ true → length a ≡ 65536 → m ≡ table_at 8 l 32
    → d ≡ splice a 0 l → e ≡ splice d 512 (initial_bytes m 8) → f ≡ splice e 888 (blank 64648)
    → f ≡ image (block_config l) (initial vector (block_config l))
all_written l a d e f m b h n t p q r =
    let w1 = first a l d 512 (header.well_made-length l h) p in
    let w2 = next (initial_bytes m 8) e 376 w1 (omega arith) (fresh-length m 8) q in
    let w3 = next (blank 64648) f 64648 w2 (omega arith) (blank-length 64648) r in
    written w3 n ∙ ap (λ (x : List (List ℕ)). (l ++ initial_bytes x 8) ++ blank 64648) t ∙ sym (initial-image l b h)

-- ---- the block read
pub read_parts : (l : List ℕ) (h : Header) → Ok h ≡ read_header l → (well_made_header l ≡ true) × (h ≡ parse_header l)
unfolding read_header
read_parts l h = go (well_made_header l)
  where
    go : (t : Bool) → ◌≡◌ {A = Result Header Refusal} (Ok h) (cond t (Ok (parse_header l)) (Err Malformed)) → (t ≡ true) × (h ≡ parse_header l)
    go true e = (refl, cc)
    go false e = absurd (cc)

pub read_none : (l : List ℕ) (x : Refusal) → Err x ≡ read_header l → (well_made_header l ≡ false) × (x ≡ Malformed)
unfolding read_header
read_none l x = go (well_made_header l)
  where
    go : (t : Bool) → ◌≡◌ {A = Result Header Refusal} (Err x) (cond t (Ok (parse_header l)) (Err Malformed)) → (t ≡ false) × (x ≡ Malformed)
    go true e = absurd (cc)
    go false e = (refl, cc)
