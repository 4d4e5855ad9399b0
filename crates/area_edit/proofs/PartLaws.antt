-- Parts of an area that are lent and come back. Assumes nothing.
use Prim.Native.Nat.{ℕ, ◌+◌, ◌*◌, ◌-◌, ◌/◌, ◌%◌, ◌<◌}
use mathlib.Core.Path.{◌≡◌, ◌∙◌}
use mathlib.Core.List.{List, ◌++◌}
use native.Mathlib.Omega.{arith}
use native.Mathlib.Nat.{add-zero}
use lib.ListN.{length, take, drop, get_or}
use lib.Seq.{get_or-drop, get_or-take}
use Rattle.codec.proofs.SpliceLaws.{lent}
use Rattle.reset.specs.Config.{Config}
use Rattle.reset.specs.Clock.{vector}
use Rattle.reset.specs.State.{Station, State, link_at, set_station, set_link}
use Rattle.station.specs.Image.{image_station}
use Rattle.station.proofs.Laws as station
use Rattle.link.specs.Image.{Queue, image_link}
use Rattle.link.proofs.Laws as link
use Rattle.area.specs.Layout.{image, station_bytes, link_bytes}
use Rattle.area.proofs.Parts.{read_link, wrote-station, wrote-link}

-- ---- parts as they are lent, from their start on
pub station_part : {o : ℕ} (a : List ℕ) (i : ℕ) → o ≡ 512 + i * 47 → take (o + 47 - o) (drop o a) ≡ station_bytes a i
unfolding station_bytes
station_part {o} a i h = let w : o + 47 - o ≡ 47 = omega arith in rw (w, h)

module _ {o : ℕ} (a : List ℕ) (k : ℕ) (h : o ≡ 888 + k * 715) where
  pub link_part : take (o + 715 - o) (drop o a) ≡ link_bytes a k
  unfolding link_bytes
  link_part = let w : o + 715 - o ≡ 715 = omega arith in rw (w, h)

  -- the count stands first
  pub count_byte : get_or a o 0 ≡ get_or (link_bytes a k) 0 0
  unfolding link_bytes
  count_byte = rw (get_or-take 715 (drop (888 + k * 715) a) 0 0 (omega arith), get_or-drop, add-zero, h)

-- ---- parts that come back
module _ (c : Config) (s : State vector) (i : ℕ) (il : i < 8) {a : List ℕ} (p : a ≡ image c s) where
  pub station_back : {o : ℕ} {ys : List ℕ} (x : Station vector) → o ≡ 512 + i * 47 → ys ≡ image_station x
      → take o a ++ (ys ++ drop (o + 47 - o) (drop o a)) ≡ image c (set_station s i x)
  station_back {o} {ys} x h y =
      lent a ys (image_station x) o (o + 47) y (omega (arith, station.image-length x)) ∙ rw (h, p) (wrote-station c s i x il)

  module _ (j : ℕ) (jl : j < 8) where
    link_image : link_bytes a (i * 8 + j) ≡ image_link (link_at s i j)
    link_image =
        let q : (i * 8 + j) / 8 ≡ i = omega arith in
        let r : (i * 8 + j) % 8 ≡ j = omega arith in
        rw p (read_link c s (i * 8 + j) (omega arith) ∙ rw (q, r))

    -- the count that an image has for a link
    pub link-held : get_or (link_bytes a (i * 8 + j)) 0 0 ≡ length (link_at s i j)
    link-held = rw link_image (link.link-count (link_at s i j))

    -- the area when a link's part is back, holding q
    pub link_back : {o : ℕ} {ys : List ℕ} (q : Queue) → o ≡ 888 + (i * 8 + j) * 715 → (take (o + 715 - o) (drop o a) ≡ image_link (link_at s i j) → ys ≡ image_link q)
        → take o a ++ (ys ++ drop (o + 715 - o) (drop o a)) ≡ image c (set_link s i j q)
    link_back {o} {ys} q h y =
        lent a ys (image_link q) o (o + 715) (y (link_part a (i * 8 + j) h ∙ link_image)) (omega (arith, link.link-length q)) ∙ rw (h, p) (wrote-link c s i j q il jl)
