-- The parts of an image: where they stand, and what replacing one does. Assumes nothing.
use Prim.Native.Nat.{ℕ, ◌+◌, ◌*◌, ◌/◌, ◌%◌, ◌<◌}
use mathlib.Core.Path.{◌≡◌, refl, ◌∙◌, sym, ap}
use mathlib.Core.Logic.{◌≢◌}
use mathlib.Core.List.{List, [], ◌++◌, append_assoc}
use native.Mathlib.Omega.{arith}
use native.Mathlib.Decide.{ℕ_discrete}
use lib.ListN.{length, take, drop, set, length-append, length-take, length-drop}
use lib.Seq.{take_at, drop_at}
use Rattle.codec.specs.Rows.{rows, upto}
use Rattle.codec.specs.Splice.{splice}
use Rattle.codec.specs.Every.{blank}
use Rattle.codec.proofs.BlankLaws.{blank-length}
use Rattle.codec.proofs.Stride.{rows-length, row_at, row-set, upto-length, upto_at, upto_same, upto-set}
use Rattle.header.specs.Header.{image_header}
use Rattle.header.proofs.Laws as header
use Rattle.reset.specs.Config.{Config}
use Rattle.reset.specs.Clock.{vector}
use Rattle.reset.specs.State.{Station, State, blank_station, station_at, set_station, set_link}
use Rattle.reset.proofs.Views.{station-set, station-set-other, link_set-station, station-set_link, link_set_lem, link_set-row, link_set_col}
use Rattle.rules.specs.Setup.{header_of}
use Rattle.station.specs.Image.{image_station}
use Rattle.station.proofs.Laws as station
use Rattle.link.specs.Image.{Queue, image_link}
use Rattle.link.proofs.Laws as link
use Rattle.area.specs.Layout.{link_number, image, station_bytes, link_bytes}

-- a link's bytes in an area of any state
pub link-long : (a : List ℕ) → length a ≡ 65536 → (k : ℕ) → k < 64 → length (link_bytes a k) ≡ 715
unfolding link_bytes
link-long a n k l = simp (length-take, length-drop) (omega arith)

module _ (c : Config) (s : State vector) where
  head : List ℕ
  head = image_header (header_of c) c.limits

  head-length : length head ≡ 512
  unfolding head
  head-length = header.image-length (header_of c) c.limits

  stations_part : List ℕ
  stations_part = rows image_station (upto 8 (station_at s))

  stations-length : length stations_part ≡ 376
  unfolding stations_part
  stations-length = rw (rows-length image_station 47 station.image-length (upto 8 (station_at s)), upto-length 8 (station_at s))

  links_part : List ℕ
  links_part = rows image_link (upto 64 (link_number s))

  links-length : length links_part ≡ 45760
  unfolding links_part
  links-length = rw (rows-length image_link 715 link.link-length (upto 64 (link_number s)), upto-length 64 (link_number s))

  pieces : image c s ≡ head ++ (stations_part ++ (links_part ++ blank 18888))
  unfolding image head stations_part links_part
  pieces = refl

  -- the bytes before the links
  front : List ℕ
  front = head ++ stations_part

  front_length : length front ≡ 888
  unfolding front
  front_length = let a = head-length in let b = stations-length in simp length-append (omega arith)

  by_front : image c s ≡ front ++ (links_part ++ blank 18888)
  unfolding front
  by_front = pieces ∙ sym (append_assoc head stations_part (links_part ++ blank 18888))

  -- every image has 65,536 bytes
  pub image-length : length (image c s) ≡ 65536
  image-length =
      let a = front_length in
      let b = links-length in
      let d = blank-length 18888 in
      rw by_front (simp length-append (omega arith))

  pub read_header_lem : take 512 (image c s) ≡ image_header (header_of c) c.limits
  unfolding head
  read_header_lem = rw pieces (take_at head _ 512 head-length)

  pub read_station : (i : ℕ) → i < 8 → station_bytes (image c s) i ≡ image_station (station_at s i)
  unfolding station_bytes stations_part
  read_station i l =
      let m : length (upto 8 (station_at s)) ≡ 8 = upto-length 8 (station_at s) in
      rw pieces (row_at image_station 47 station.image-length head (links_part ++ blank 18888) (upto 8 (station_at s)) i blank_station 512 head-length (omega arith))
      ∙ ap image_station (upto_at 8 (station_at s) i blank_station l)

  pub read_link : (k : ℕ) → k < 64 → link_bytes (image c s) k ≡ image_link (link_number s k)
  unfolding link_bytes links_part
  read_link k l =
      let m : length (upto 64 (link_number s)) ≡ 64 = upto-length 64 (link_number s) in
      rw by_front (row_at image_link 715 link.link-length front (blank 18888) (upto 64 (link_number s)) k [] 888 front_length (omega arith))
      ∙ ap image_link (upto_at 64 (link_number s) k [] l)

  pub read_rest : drop 46648 (image c s) ≡ blank 18888
  read_rest =
      let a = front_length in
      let b = links-length in
      let m : length (front ++ links_part) ≡ 46648 = simp length-append (omega arith) in
      rw (by_front, ← append_assoc front links_part (blank 18888)) (drop_at (front ++ links_part) (blank 18888) 46648 m)

  -- a station's bytes replaced
  pub wrote-station : (i : ℕ) (x : Station vector) → i < 8 → splice (image c s) (512 + i * 47) (image_station x) ≡ image c (set_station s i x)
  unfolding image
  wrote-station i x l =
      let m : length (upto 8 (station_at s)) ≡ 8 = upto-length 8 (station_at s) in
      let e : set (upto 8 (station_at s)) i x ≡ upto 8 (station_at (set_station s i x)) =
      upto-set 8 (station_at s) (station_at (set_station s i x)) i x blank_station l (station-set s i x) (λ k b n. station-set-other s i x k n) in
      let f : upto 64 (link_number s) ≡ upto 64 (link_number (set_station s i x)) = upto_same 64 _ _ (λ k b. sym (link_set-station s i x (k / 8) (k % 8))) in
      row-set image_station 47 station.image-length (image_header (header_of c) c.limits) (rows image_link (upto 64 (link_number s)) ++ blank 18888) (upto 8 (station_at s)) i x 512
      (header.image-length (header_of c) c.limits) (omega arith)
      ∙ rw (e, f)

  -- a link's bytes replaced
  module _ (i j : ℕ) (q : Queue) (il : i < 8) (jl : j < 8) where
    quotient : (i * 8 + j) / 8 ≡ i
    quotient = omega arith

    remainder : (i * 8 + j) % 8 ≡ j
    remainder = omega arith

    here : link_number (set_link s i j q) (i * 8 + j) ≡ q
    here = rw (quotient, remainder) (link_set_lem s i j q)

    other : (k : ℕ) → k < 64 → k ≢ i * 8 + j → link_number (set_link s i j q) k ≡ link_number s k
    other k b n = go (ℕ_discrete (k / 8) i)
      where
        go : Dec (k / 8 ≡ i) → link_number (set_link s i j q) k ≡ link_number s k
        go (yes p) = rw p (link_set_col s i j q (k % 8) (omega arith))
        go (no p) = link_set-row s i j q (k / 8) (k % 8) p

    opened : splice (front ++ (links_part ++ blank 18888)) (888 + (i * 8 + j) * 715) (image_link q) ≡ front ++ (rows image_link (set (upto 64 (link_number s)) (i * 8 + j) q) ++ blank 18888)
    unfolding links_part
    opened =
        let m : length (upto 64 (link_number s)) ≡ 64 = upto-length 64 (link_number s) in
        row-set image_link 715 link.link-length front (blank 18888) (upto 64 (link_number s)) (i * 8 + j) q 888 front_length (omega arith)

    closed : front ++ (rows image_link (upto 64 (link_number (set_link s i j q))) ++ blank 18888) ≡ image c (set_link s i j q)
    unfolding front head stations_part image
    closed =
        append_assoc (image_header (header_of c) c.limits) (rows image_station (upto 8 (station_at s))) _
        ∙ ap (λ (l : List (Station vector)). image_header (header_of c) c.limits ++ (rows image_station l ++ (rows image_link (upto 64 (link_number (set_link s i j q))) ++ blank 18888)))
        (upto_same 8 (station_at s) (station_at (set_link s i j q)) (λ k b. sym (station-set_link s i j q k)))

    pub wrote-link : splice (image c s) (888 + (i * 8 + j) * 715) (image_link q) ≡ image c (set_link s i j q)
    wrote-link =
        let e : set (upto 64 (link_number s)) (i * 8 + j) q ≡ upto 64 (link_number (set_link s i j q)) =
        upto-set 64 (link_number s) (link_number (set_link s i j q)) (i * 8 + j) q [] (omega arith) here other in
        rw by_front (opened ∙ ap (λ (l : List Queue). front ++ (rows image_link l ++ blank 18888)) e ∙ closed)
