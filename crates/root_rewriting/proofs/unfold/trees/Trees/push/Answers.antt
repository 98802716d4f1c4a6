use Rattle.root_rewriting.proofs.Arena.{trees_pushed}
use Rattle.root_rewriting.proofs.unfold.trees.Trees.push.Goals as goal

pub returns-clause-added : goal.returns-clause-added
returns-clause-added c = trees_pushed c.self.inside.entries.items c.push.new.self.items c.args.self.now (record { node = c.args.node; facts = c.args.facts }) c.in_ok-push.ensures.items c.self.view_is
