use Prim.Native.Nat.{◌+◌, ◌*◌, ◌-◌}
use mathlib.Core.Path.{◌≡◌, refl, ◌∙◌, sym, ap}
use native.Mathlib.Omega.{arith}
use lib.ListN.{length, length-take, length-drop}
use Rattle.codec.specs.Splice.{splice}
use Rattle.codec.proofs.SpliceLaws.{splice_none, splice-length}
use Rattle.setup.specs.Limits.{initial_bytes}
use Rattle.setup.proofs.Laws.{fresh_none, fresh-length, station_turn}
use Rattle.station.specs.Image.{image_station}
use Rattle.setup.proofs.put_stations.Goals as goal

pub loop-i-init : goal.loop-i-init
loop-i-init c =
    let a = c.args in
    (omega arith, refl, sym (ap (splice a.area.now 512) (fresh_none a.limits) ∙ splice_none a.area.now 512))

pub loop-i-preserved : goal.loop-i-preserved
loop-i-preserved c =
    let l = c.loop-i in
    let a = c.args in
    let e : 512 + l.i * 47 + 47 - (512 + l.i * 47) ≡ 47 = omega arith in
    let t = station_turn a.area.now l.area _ a.limits l.i (512 + l.i * 47 + 47) (omega arith) c.requires l.invariant.2 e
    (c.store.ensures ∙ ap image_station c.initial_station.ensures) in
    let s = fresh-length a.limits (l.i + 1) in
    (omega arith, ap length t ∙ splice-length a.area.now 512 (initial_bytes a.limits (l.i + 1)) (omega arith), t)

pub returns : goal.returns
returns c = let e : c.loop-i.i ≡ 8 = omega arith in rw e at c.loop-i.invariant.2

pub store-requires : goal.store-requires
store-requires c = simp (length-take, length-drop) (omega arith)
