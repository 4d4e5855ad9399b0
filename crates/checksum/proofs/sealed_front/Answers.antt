use mathlib.Core.Path.{◌≡◌, ◌∙◌, sym}
use native.Mathlib.Omega.{arith}
use lib.ListN.{take}
use Rattle.checksum.specs.Check.{weighted, check_of, sealed}
use Rattle.checksum.proofs.CheckLaws.{zeros-behind}
use Rattle.checksum.proofs.ColumnLaws.{columns_are}
use Rattle.checksum.proofs.sealed_front.Goals as goal

pub returns : goal.returns
unfolding sealed check_of
returns c =
    let l = c.args.s.now in
    let e : c.weigh_front.result ≡ weighted 1 (take 510 l) =
    c.weigh_front.ensures.0 ∙ columns_are 3 l (omega arith) ∙ sym (zeros-behind l 96 414 (omega arith) c.requires.1) in
    rw (c.get.ensures, e)
