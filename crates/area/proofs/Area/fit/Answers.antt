use mathlib.Core.Path.{◌≡◌, ◌∙◌, sym}
use Rattle.reset.specs.Config.{network_rules}
use Rattle.rules.specs.Setup.{block_config}
use Rattle.area.specs.Layout.{parts_test}
use Rattle.area.proofs.Area.fit.Goals as goal
use Rattle.area.proofs.Area.fit.Goals.{After-setup_fits}

-- the rules are tested on the header block's fields
ruled : (c : goal.After-setup_fits) → network_rules (block_config c.args.self.head.now) ≡ c.setup_fits.result
ruled c = sym (rw (c.load.ensures, c.load_limits.ensures) at c.setup_fits.ensures)

pub returns-then-not-setup_fits : goal.returns-then-not-setup_fits
unfolding parts_test
returns-then-not-setup_fits c = rw (ruled (goal.at.returns-then-not-setup_fits c).After-setup_fits ∙ c.if-not-setup_fits.true)

pub returns-then-not-stations_fit : goal.returns-then-not-stations_fit
unfolding parts_test
returns-then-not-stations_fit c = rw (ruled (goal.at.returns-then-not-stations_fit c).After-setup_fits ∙ c.if-not-setup_fits.false, sym c.stations_fit.ensures ∙ c.if-not-stations_fit.true)

pub returns : goal.returns
unfolding parts_test
returns c =
    rw (ruled (goal.at.returns c).After-setup_fits ∙ c.if-not-setup_fits.false, sym c.stations_fit.ensures ∙ c.if-not-stations_fit.false) c.links_fit.ensures
