use native.Mathlib.Omega.{arith}
use Rattle.codec.specs.Num.{AreBytes}
use Rattle.host_numbers.proofs.Headers.{fields_put}
use Rattle.host_numbers.proofs.put_fields.Goals as goal

pub returns : goal.returns
returns c =
    let g = c.args in
    let bytes : AreBytes g.block.now = λ i. omega (arith, c.type_inv.block i) in
    fields_put g.block.now g.fields.now c.put_bytes.new.d c.put_bytes-2.new.d c.put_bytes-3.new.d bytes c.requires.0 c.requires.1 c.put_bytes.ensures c.put_bytes-2.ensures c.put_bytes-3.ensures
