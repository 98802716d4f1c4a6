use Rattle.std.proofs.Common.{subst}
use Rattle.root_rewriting.specs.Nodes.{ShowsNode, trees_in}
use Rattle.root_rewriting.specs.declared.unfold.trees.Node.{Node}
use Rattle.std.proofs.Common.{List}
use Rattle.root_rewriting.proofs.Arena.{entry_there, shows_node}
use Rattle.root_rewriting.proofs.unfold.trees.Trees.look.Goals as goal

pub returns : goal.returns
returns c =
    let es = c.self.inside.entries.items in
    let e = c.index.result.now in
    subst (λ (ns : List Node). ShowsNode (trees_in ns) c.args.at e.node) c.self.view_is (shows_node es c.args.at e c.self.invariant (entry_there es c.args.self.now c.args.at e c.self.view_is c.requires c.index.ensures))
