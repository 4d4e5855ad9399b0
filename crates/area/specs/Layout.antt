-- The state area: 65,536 bytes, one image for each state. The header block first, stations of 47 bytes from 512, links of 715 bytes from 888, the link
-- from i to j being number i * 8 + j, and zeros from 46,648 on. Assumes nothing.
use Rattle.std.specs.Prelude.{ℕ, ◌+◌, ◌*◌, ◌/◌, ◌%◌, ◌<◌, ◌≡◌, List, ◌++◌, Bool, true, ◌&&◌, eqb, length, take, drop}
use Rattle.codec.specs.Rows.{rows, upto}
use Rattle.codec.specs.Every.{every, all_zero, blank}
use Rattle.header.specs.Header.{image_header, well_made_header}
use Rattle.reset.specs.Config.{Config, well_made, network_rules}
use Rattle.reset.specs.Clock.{vector}
use Rattle.reset.specs.State.{State, station_at, link_at}
use Rattle.reset.specs.WellFormed.{shape_fits}
use Rattle.rules.specs.Setup.{block_config, header_of}
use Rattle.station.specs.Image.{station_size, image_station, parse_station, Ranged}
use Rattle.station.specs.Test.{station_test}
use Rattle.link.specs.Image.{link_size, Queue, image_link, parse_link, link_test, RangedLink}

-- ---- where the parts begin: the stations behind the header block, the links behind them, and the zeros behind those
abbrev pub stations_from : ℕ
stations_from = 512

abbrev pub links_from : ℕ
links_from = 888

abbrev pub zeros_from : ℕ
zeros_from = 46648

abbrev pub area_size : ℕ
area_size = 65536

-- ---- the image of a state
-- link number k
abbrev pub link_number : State vector → ℕ → Queue
link_number s k = link_at s (k / 8) (k % 8)

unfoldable pub image : Config → State vector → List ℕ
image c s = image_header (header_of c) c.limits ++ (rows image_station (upto 8 (station_at s)) ++ (rows image_link (upto 64 (link_number s)) ++ blank 18888))

-- ---- the state that an area stands for
unfoldable pub station_bytes : List ℕ → ℕ → List ℕ
station_bytes a i = take station_size (drop (stations_from + i * station_size) a)

unfoldable pub link_bytes : List ℕ → ℕ → List ℕ
link_bytes a k = take link_size (drop (links_from + k * link_size) a)

unfoldable pub config_at : List ℕ → Config
config_at a = block_config (take stations_from a)

unfoldable pub state_at : List ℕ → State vector
state_at a =
    record {
      stations = upto 8 (λ (i : ℕ). parse_station (station_bytes a i));
      links = upto 8 (λ (i : ℕ). upto 8 (λ (j : ℕ). parse_link (link_bytes a (i * 8 + j))));
    }

-- ---- the test of an area: its length, a header that setup accepts, each part in range, and zeros behind
abbrev pub station_test_at : Config → List ℕ → ℕ → Bool
station_test_at c a i = station_test c i (station_bytes a i)

unfoldable pub stations_test : Config → List ℕ → Bool
stations_test c a = every 8 (station_test_at c a)

abbrev pub link_test_at : Config → List ℕ → ℕ → Bool
link_test_at c a k = link_test c (k / 8) (k % 8) (link_bytes a k)

unfoldable pub links_test : Config → List ℕ → Bool
links_test c a = every 64 (link_test_at c a)

unfoldable pub parts_test : Config → List ℕ → Bool
parts_test c a = network_rules c && (stations_test c a && (links_test c a && all_zero (drop zeros_from a)))

unfoldable pub test : List ℕ → Bool
test a = eqb (length a) area_size && (well_made_header (take stations_from a) && parts_test (config_at a) a)

-- ---- states that have an image of their own: every list has its length and every number fits its bytes
pub record Imaged (c : Config) (s : State vector) : Type 0 where
  pub made : well_made c ≡ true
  pub shape : shape_fits s ≡ true
  pub stations : (i : ℕ) → i < 8 → Ranged (station_at s i)
  pub links : (i j : ℕ) → i < 8 → j < 8 → RangedLink (link_at s i j)
