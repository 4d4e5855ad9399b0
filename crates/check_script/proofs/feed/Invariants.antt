use lib.ListN.{length}
use Rattle.check_script.proofs.feed.Given as goal

abbrev pub decreases-loop-rest : goal.decreases-loop-rest
decreases-loop-rest l = length l.rest
