use Rattle.root_rewriting.specs.Nodes.{trees_in}
use Rattle.root_rewriting.proofs.Growth as growth
use Rattle.root_rewriting.proofs.unfold.walk.reach.Goals as goal

pub returns-in-Ok-clause-walks : goal.returns-in-Ok-clause-walks
returns-in-Ok-clause-walks c = λ t e. growth.turns_reached c.args.source.now.sexps.now c.args.source.now.top.now (trees_in c.args.unfolded.now.trees) (trees_in c.enter.new.trees) t _ c.in-Ok.next e.is (c.in-Ok.ensures.walks e.names e.knows)
