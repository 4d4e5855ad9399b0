use lib.ListN.{get_or}
use Rattle.front_table.proofs.TableLaws.{xor_zero}
use Rattle.front_table.proofs.differ.Goals as goal

pub returns : goal.returns
returns c = rw (xor_zero (get_or c.args.known.now c.place_of.result 0) c.args.x, c.place_of.ensures.0)
