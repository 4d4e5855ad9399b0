-- The test of an area holds exactly of the images of well-formed states, and an image determines its state. Assumes nothing.
use Prim.Native.Nat.{ℕ, ◌+◌, ◌*◌, ◌/◌, ◌%◌, ◌<◌}
use mathlib.Core.Path.{◌≡◌, ◌∙◌, sym, ap}
use mathlib.Core.Logic.{◌↔◌}
use mathlib.Core.List.{List, []}
use mathlib.Core.Bool.{true}
use native.Mathlib.Omega.{arith}
use lib.Dec.{eqb}
use lib.ListN.{length, take, drop, get_or, length-take, length-drop, take-append-drop}
use lib.Seq.{drop-drop}
use borrow.Author.Tests.{eqb-true, eq-eqb}
use Rattle.codec.specs.Num.{AreBytes}
use Rattle.codec.specs.Rows.{rows, upto}
use Rattle.codec.specs.Every.{every, all_zero, blank}
use Rattle.codec.proofs.EveryLaws.{both, join, every_at, every_of, zeros-blank, total-zero}
use Rattle.codec.proofs.Fronts.{bytes_take, bytes_drop}
use Rattle.codec.proofs.Stride.{rows_made, upto-length, upto_at, upto_is}
use Rattle.header.specs.Header.{image_header, well_made_header}
use Rattle.header.proofs.Laws as header
use Rattle.reset.specs.Config.{Config, well_made, network_rules}
use Rattle.reset.specs.Clock.{vector}
use Rattle.reset.specs.State.{State, blank_station, station_at, link_at}
use Rattle.reset.specs.WellFormed.{shape_fits, row_long, station_fits, link_fits, well_formed}
use Rattle.reset.proofs.Formed.{Formed, formed_of, formed_back}
use Rattle.rules.specs.Setup.{block_config, header_of}
use Rattle.rules.proofs.Laws.{accepted-well_made, block_back, well_made-accepted}
use Rattle.station.specs.Image.{image_station, parse_station}
use Rattle.station.specs.Test.{station_bytes_fit, station_test}
use Rattle.station.proofs.Laws as station
use Rattle.link.specs.Image.{Queue, image_link, parse_link, link_test}
use Rattle.link.proofs.Laws as link
use Rattle.area.specs.Layout.{link_number, image, station_bytes, link_bytes, config_at, state_at, station_test_at, stations_test, link_test_at, links_test, parts_test, test, Imaged}
use Rattle.area.proofs.Parts.{link-long, image-length, read_header_lem, read_station, read_link, read_rest}

-- ---- the test, part by part
pub record Tested (a : List ℕ) : Type 0 where
  pub long : length a ≡ 65536
  pub head : well_made_header (take 512 a) ≡ true
  pub rules : network_rules (config_at a) ≡ true
  pub station : (i : ℕ) → i < 8 → station_test (config_at a) i (station_bytes a i) ≡ true
  pub link : (k : ℕ) → k < 64 → link_test (config_at a) (k / 8) (k % 8) (link_bytes a k) ≡ true
  pub rest : all_zero (drop 46648 a) ≡ true

pub tested : (a : List ℕ) → test a ≡ true → Tested a
unfolding test parts_test stations_test links_test
tested a h =
    let c = config_at a in
    let p = both (eqb (length a) 65536) _ h in
    let q = both (well_made_header (take 512 a)) _ p.1 in
    let r = both (network_rules c) _ q.1 in
    let s = both (every 8 (station_test_at c a)) _ r.1 in
    let t = both (every 64 (link_test_at c a)) _ s.1 in
    record {
      long = eqb-true _ _ p.0;
      head = q.0;
      rules = r.0;
      station = λ i l. every_at 8 (station_test_at c a) i s.0 l;
      link = λ k l. every_at 64 (link_test_at c a) k t.0 l;
      rest = t.1;
    }

-- ---- what is read of an area
pub station_read : (a : List ℕ) (i : ℕ) → i < 8 → station_at (state_at a) i ≡ parse_station (station_bytes a i)
unfolding station_at state_at
station_read a i l = upto_at 8 (λ (i : ℕ). parse_station (station_bytes a i)) i blank_station l

pub link_read : (a : List ℕ) (i j : ℕ) → i < 8 → j < 8 → link_at (state_at a) i j ≡ parse_link (link_bytes a (i * 8 + j))
unfolding link_at state_at
link_read a i j il jl =
    ap (λ (r : List Queue). get_or r j []) (upto_at 8 (λ (i : ℕ). upto 8 (λ (j : ℕ). parse_link (link_bytes a (i * 8 + j)))) i [] il)
    ∙ upto_at 8 (λ (j : ℕ). parse_link (link_bytes a (i * 8 + j))) j [] jl

pub shape_read : (a : List ℕ) → shape_fits (state_at a) ≡ true
unfolding shape_fits state_at
shape_read a =
    join (eqb (length (upto 8 (λ (i : ℕ). parse_station (station_bytes a i)))) 8) _ (eq-eqb _ 8 (upto-length 8 _))
    (join (eqb (length (upto 8 (λ (i : ℕ). upto 8 (λ (j : ℕ). parse_link (link_bytes a (i * 8 + j)))))) 8) _ (eq-eqb _ 8 (upto-length 8 _))
    (every_of 8 _ (λ i l. eq-eqb _ 8 (ap length (upto_at 8 (λ (i : ℕ). upto 8 (λ (j : ℕ). parse_link (link_bytes a (i * 8 + j)))) i [] l) ∙ upto-length 8 _))))

-- ---- an area of bytes that passes
module _ (a : List ℕ) (b : AreBytes a) (w : test a ≡ true) where
  long : length a ≡ 65536
  long = (tested a w).long

  pub config-made : well_made (config_at a) ≡ true
  unfolding config_at
  config-made = accepted-well_made (take 512 a) (bytes_take 512 a b) (tested a w).head

  station_bytes_lem : (i : ℕ) → AreBytes (station_bytes a i)
  unfolding station_bytes
  station_bytes_lem i = bytes_take 47 (drop (512 + i * 47) a) (bytes_drop (512 + i * 47) a b)

  station-long : (i : ℕ) → i < 8 → length (station_bytes a i) ≡ 47
  unfolding station_bytes
  station-long i l = let n = long in simp (length-take, length-drop) (omega arith)

  link_bytes_lem : (k : ℕ) → AreBytes (link_bytes a k)
  unfolding link_bytes
  link_bytes_lem k = bytes_take 715 (drop (888 + k * 715) a) (bytes_drop (888 + k * 715) a b)

  station_parts : (i : ℕ) → i < 8 → (station_bytes_fit (station_bytes a i) ≡ true) × (station_fits (config_at a) i (parse_station (station_bytes a i)) ≡ true)
  unfolding station_test
  station_parts i l = both (station_bytes_fit (station_bytes a i)) _ ((tested a w).station i l)

  -- the area is the image of the state that it stands for
  station-image : (i : ℕ) → i < 8 → image_station (station_at (state_at a) i) ≡ take 47 (drop (512 + i * 47) a)
  unfolding station_bytes
  station-image i l = rw (station_read a i l) (station.image_parse (station_bytes a i) (station_bytes_lem i) (station-long i l) (station_parts i l).0)

  number : (k : ℕ) → k / 8 * 8 + k % 8 ≡ k
  number k = omega arith

  link_image : (k : ℕ) → k < 64 → image_link (link_number (state_at a) k) ≡ take 715 (drop (888 + k * 715) a)
  unfolding link_bytes
  link_image k l =
      rw (link_read a (k / 8) (k % 8) (omega arith) (omega arith), number k)
      (link.link_image_parse (config_at a) (k / 8) (k % 8) (link_bytes a k) (link_bytes_lem k) ((tested a w).link k l) (link-long a long k l) (link.places_most (config_at a) config-made (k / 8) (k % 8)))

  pub formed : image (config_at a) (state_at a) ≡ a
  unfolding image config_at
  formed =
      let n = long in
      let e : length (drop 46648 a) ≡ 18888 = simp length-drop (omega arith) in
      let z : drop 46648 a ≡ blank 18888 = total-zero (drop 46648 a) (eqb-true _ _ (tested a w).rest) ∙ ap blank e in
      let h : image_header (header_of (block_config (take 512 a))) (block_config (take 512 a)).limits ≡ take 512 a = header.accepted_is_image (take 512 a) (bytes_take 512 a b) (tested a w).head in
      let r : rows image_station (upto 8 (station_at (state_at a))) ≡ take 376 (drop 512 a) = rows_made image_station 47 station.image-length (station_at (state_at a)) 8 512 a station-image (omega arith) in
      let q : rows image_link (upto 64 (link_number (state_at a))) ≡ take 45760 (drop 888 a) = rows_made image_link 715 link.link-length (link_number (state_at a)) 64 888 a link_image (omega arith) in
      rw (h, r, q, ← z, ← drop-drop 45760 888 a, take-append-drop, ← drop-drop 376 512 a, take-append-drop, take-append-drop)

  -- and that state is well formed
  pub formed_fits : well_formed (config_at a) (state_at a) ≡ true
  formed_fits =
      formed_back (config_at a) (state_at a)
      (record {
        accepted = join (well_made (config_at a)) _ config-made (tested a w).rules;
        shape = shape_read a;
        station = λ i l. rw (station_read a i l) (station_parts i l).1;
        link = λ i j il jl. rw (link_read a i j il jl) (fits i j il jl (omega arith) (omega arith));
      })
    where
      fits : (i j : ℕ) → i < 8 → j < 8 → (i * 8 + j) / 8 ≡ i → (i * 8 + j) % 8 ≡ j → link_fits (config_at a) i j (parse_link (link_bytes a (i * 8 + j))) ≡ true
      fits i j il jl p r =
          let t : link_test (config_at a) i j (link_bytes a (i * 8 + j)) ≡ true = rw (p, r) at ((tested a w).link (i * 8 + j) (omega arith)) in
          link.test_fits (config_at a) i j (link_bytes a (i * 8 + j)) (link_bytes_lem (i * 8 + j)) t

-- ---- a state with an image of its own
module _ (c : Config) (s : State vector) (v : Imaged c s) where
  pub config_back : config_at (image c s) ≡ c
  unfolding config_at
  config_back = ap block_config (read_header_lem c s) ∙ block_back c v.made

  station_back : (i : ℕ) → i < 8 → parse_station (station_bytes (image c s) i) ≡ station_at s i
  station_back i l = ap parse_station (read_station c s i l) ∙ station.parse_image (station_at s i) (v.stations i l)

  link_back : (i j : ℕ) → i < 8 → j < 8 → parse_link (link_bytes (image c s) (i * 8 + j)) ≡ link_at s i j
  link_back i j il jl =
      let p : (i * 8 + j) / 8 ≡ i = omega arith in
      let r : (i * 8 + j) % 8 ≡ j = omega arith in
      ap parse_link (rw (p, r) at (read_link c s (i * 8 + j) (omega arith))) ∙ link.link_parse_image (link_at s i j) (v.links i j il jl)

  lengths : (length s.stations ≡ 8) × (length s.links ≡ 8) × ((i : ℕ) → i < 8 → length (get_or s.links i []) ≡ 8)
  unfolding shape_fits
  lengths =
      let p = both (eqb (length s.stations) 8) _ v.shape in
      let q = both (eqb (length s.links) 8) _ p.1 in
      (eqb-true _ _ p.0, eqb-true _ _ q.0, λ i l. eqb-true _ _ (every_at 8 (row_long s) i q.1 l))

  pub state_back : state_at (image c s) ≡ s
  unfolding state_at station_at link_at
  state_back =
      rw (
        upto_is 8 (λ (i : ℕ). parse_station (station_bytes (image c s) i)) s.stations blank_station lengths.0 station_back,
        upto_is 8 (λ (i : ℕ). upto 8 (λ (j : ℕ). parse_link (link_bytes (image c s) (i * 8 + j)))) s.links [] lengths.1
            (λ i l. upto_is 8 (λ (j : ℕ). parse_link (link_bytes (image c s) (i * 8 + j))) (get_or s.links i []) [] (lengths.2 i l) (λ j m. link_back i j l m)),
      )

-- ---- well-formed states
pub formed-imaged : (c : Config) (s : State vector) → well_formed c s ≡ true → Imaged c s
formed-imaged c s h =
    let f = formed_of c s h in
    let m = (both (well_made c) _ f.accepted).0 in
    record {
      made = m;
      shape = f.shape;
      stations = λ i l. station.fits_ranged c m i l (station_at s i) (f.station i l);
      links = λ i j il jl. link.fits_ranged c m i j (link_at s i j) (f.link i j il jl);
    }

-- the image of a well-formed state passes the test
module _ (c : Config) (s : State vector) (h : well_formed c s ≡ true) where
  facts : Formed c s
  facts = formed_of c s h

  made : well_made c ≡ true
  made = (both (well_made c) _ facts.accepted).0

  same : config_at (image c s) ≡ c
  same = config_back c s (formed-imaged c s h)

  station-passes : (i : ℕ) → i < 8 → station_test c i (image_station (station_at s i)) ≡ true
  unfolding station_test
  station-passes i l =
      join (station_bytes_fit (image_station (station_at s i))) _ (station.image_bytes_fit (station_at s i))
      (rw (station.parse_image (station_at s i) ((formed-imaged c s h).stations i l)) (facts.station i l))

  link-passes : (k : ℕ) → k < 64 → link_test c (k / 8) (k % 8) (image_link (link_number s k)) ≡ true
  link-passes k l = link.fits_test c made (k / 8) (k % 8) (link_number s k) (facts.link (k / 8) (k % 8) (omega arith) (omega arith))

  pub image-passes : test (image c s) ≡ true
  unfolding test parts_test stations_test links_test
  image-passes =
      join (eqb (length (image c s)) 65536) _ (eq-eqb _ _ (image-length c s))
      (join (well_made_header (take 512 (image c s))) _ (rw (read_header_lem c s) (well_made-accepted c made))
      (rw same
      (join (network_rules c) _ (both (well_made c) _ facts.accepted).1
      (join (every 8 (station_test_at c (image c s))) _ (every_of 8 (station_test_at c (image c s)) (λ i l. rw (read_station c s i l) (station-passes i l)))
      (join (every 64 (link_test_at c (image c s))) _ (every_of 64 (link_test_at c (image c s)) (λ k l. rw (read_link c s k l) (link-passes k l)))
      (rw (read_rest c s) (zeros-blank 18888)))))))

-- one image for each state: two well-formed states with the same image are the same
pub image_determines : (c d : Config) (s t : State vector) → well_formed c s ≡ true → well_formed d t ≡ true → image c s ≡ image d t → (c ≡ d) × (s ≡ t)
image_determines c d s t h g e =
    (sym (config_back c s (formed-imaged c s h)) ∙ ap config_at e ∙ config_back d t (formed-imaged d t g), sym (state_back c s (formed-imaged c s h)) ∙ ap state_at e ∙ state_back d t (formed-imaged d t g))

-- an area passes just when it is the image of a well-formed state
pub test_exactly : (a : List ℕ) → AreBytes a → (test a ≡ true) ↔ ((c : Config) × (s : State vector) × (well_formed c s ≡ true) × (a ≡ image c s))
test_exactly a b = (λ w. (config_at a, state_at a, formed_fits a b w, sym (formed a b w)), λ q. let (c, s, f, e) = q in ap test e ∙ image-passes c s f)
