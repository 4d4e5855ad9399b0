-- The configuration that a header's fields make. Assumes nothing.
use Rattle.std.specs.Prelude.{ℕ, List}
use Rattle.header.specs.Header.{parse_header, table_at}
use Rattle.header.specs.declared.Header.{Header}
use Rattle.reset.specs.Config.{Config}

-- of n, t, the allowances and the limits
abbrev pub config_of : ℕ → ℕ → List ℕ → List (List ℕ) → Config
config_of n t a m = record { n = n; t = t; allowances = a; limits = m }

-- of a header and the limits beside it
abbrev pub header_config : Header → List (List ℕ) → Config
header_config h m = config_of h.n h.t h.allowances m

-- of the bytes of a header block
abbrev pub block_config : List ℕ → Config
block_config l = header_config (parse_header l) (table_at 8 l 32)

-- the header of a configuration, its limits left out
abbrev pub header_of : Config → Header
header_of c = record { n = c.n; t = c.t; allowances = c.allowances }
