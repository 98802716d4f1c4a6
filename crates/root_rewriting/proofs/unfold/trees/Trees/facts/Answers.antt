use Rattle.std.proofs.Common.{List, subst}
use Rattle.root_rewriting.specs.Nodes.{AreFacts, tree_at, trees_in}
use Rattle.root_rewriting.specs.declared.unfold.trees.Node.{Node}
use Rattle.root_rewriting.proofs.Arena.{entry_there}
use Rattle.root_rewriting.proofs.unfold.trees.Trees.facts.Goals as goal

pub returns : goal.returns
returns c =
    let es = c.self.inside.entries.items in
    let e = c.index.result.now in
    subst (λ (ns : List Node). AreFacts e.facts (tree_at (trees_in ns) c.args.at)) c.self.view_is (c.self.invariant.known c.args.at e (entry_there es c.args.self.now c.args.at e c.self.view_is c.requires c.index.ensures))
