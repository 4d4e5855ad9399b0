use Prim.Native.Nat.{◌+◌, ◌*◌, ◌-◌}
use mathlib.Core.Path.{◌≡◌, ◌∙◌, sym}
use native.Mathlib.Omega.{arith}
use Rattle.codec.proofs.EveryLaws.{every_none, every_more, every_fails}
use lib.ListN.{length-take, length-drop}
use Rattle.rules.specs.Setup.{block_config}
use Rattle.station.specs.Test.{station_test}
use Rattle.area.specs.Layout.{station_bytes, station_test_at, stations_test}
use Rattle.area.proofs.Area.stations_fit.Goals as goal

pub test-requires : goal.test-requires
test-requires c = (omega arith, omega arith, simp (length-take, length-drop) (omega arith))

pub returns-then-not-test : goal.returns-then-not-test
unfolding stations_test station_bytes
returns-then-not-test c =
    let i = c.loop-i.i in
    let g = c.args in
    let e : 512 + i * 47 + 47 - (512 + i * 47) ≡ 47 = omega arith in
    let q : station_test (block_config g.self.head.now) i (station_bytes g.self.area.now i) ≡ c.test.result = sym (rw e at c.test.ensures) in
    sym (every_fails 8 (station_test_at (block_config g.self.head.now) g.self.area.now) i (omega arith) (q ∙ c.if-not-test.true))

pub loop-i-preserved : goal.loop-i-preserved
unfolding station_bytes
loop-i-preserved c =
    let i = c.loop-i.i in
    let g = c.args in
    let e : 512 + i * 47 + 47 - (512 + i * 47) ≡ 47 = omega arith in
    let q : station_test (block_config g.self.head.now) i (station_bytes g.self.area.now i) ≡ c.test.result = sym (rw e at c.test.ensures) in
    (omega arith, every_more i (station_test_at (block_config g.self.head.now) g.self.area.now) c.loop-i.invariant.1 (q ∙ c.if-not-test.false))

pub returns : goal.returns
unfolding stations_test
returns c = let e : c.loop-i.i ≡ 8 = omega arith in sym (rw e at c.loop-i.invariant.1)

pub loop-i-init : goal.loop-i-init
loop-i-init c = (omega arith, every_none _)
