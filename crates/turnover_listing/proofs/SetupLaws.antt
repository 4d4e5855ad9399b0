-- Setup by the settings of a network, for any well_made_lem network. Assumes nothing.
use Prim.Native.Nat.{ℕ}
use mathlib.Core.Path.{◌≡◌, sym, ap, ◌∙◌}
use mathlib.Core.List.{List}
use mathlib.Core.Bool.{true, cond}
use lib.ListN.{length}
use borrow.Author.Tests.{eq-eqb}
use Rattle.codec.specs.Every.{blank}
use Rattle.codec.specs.Written.{wrote, refused}
use Rattle.codec.proofs.BlankLaws.{blank-length}
use Rattle.codec.proofs.SpliceLaws.{splice_all}
use Rattle.header.specs.Header.{table_at, image_header, write_header}
use Rattle.header.proofs.Laws.{image-length}
use Rattle.reset.specs.Config.{Config, well_made, network_rules}
use Rattle.reset.specs.Clock.{vector}
use Rattle.reset.specs.Network.{initial}
use Rattle.rules.specs.Setup.{header_of}
use Rattle.rules.proofs.Laws.{block_back, well_made-accepted, well_made_fits}
use Rattle.area.specs.Layout.{image}
use Rattle.area_calls.specs.Calls.{setup_on}
use Rattle.turnover_settings.specs.declared.Run.{Run}
use Rattle.turnover_settings.specs.declared.Stage.TheVariants.{Setting}
use Rattle.turnover_settings.specs.Settings.{settings_block, set_up}

-- the header block of a network
abbrev pub head_block : Config → List ℕ
head_block c = image_header (header_of c) c.limits

-- a run that has met a network's settings and no step
abbrev pub setting_run : Config → Run
setting_run c = record { stage = Setting; n = c.n; t = c.t; allowances = c.allowances; number = 0 }

-- a well_made_lem network, whose limits stand in the block in the making
module _ (c : Config) (block : List ℕ) (table : table_at 8 block 32 ≡ c.limits) (long : length block ≡ 512) (w : well_made c ≡ true) where
  pub made : settings_block block (setting_run c) ≡ wrote (head_block c)
  unfolding settings_block write_header
  made = rw (table, well_made_fits c w, long) (ap wrote (splice_all block (head_block c) (image-length (header_of c) c.limits ∙ sym long)))

  pub set_up_lem : set_up block (blank 65536) (setting_run c) ≡ cond (network_rules c) (wrote (image c (initial vector c))) (refused 3 (blank 65536))
  unfolding set_up setup_on
  set_up_lem = rw (made, eq-eqb (length (blank 65536)) 65536 (blank-length 65536), well_made-accepted c w, block_back c w)
