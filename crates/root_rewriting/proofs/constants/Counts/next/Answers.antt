use Rattle.std.proofs.Common.{◌∙◌, ap, refl, arith}
use Rattle.root_rewriting.specs.Nodes.{node_tree, trees_in}
use Rattle.root_rewriting.proofs.Alike.{shown}
use Rattle.root_rewriting.proofs.Tables.{next_quotient, next_root}
use Rattle.root_rewriting.proofs.constants.Counts.next.Goals as goal

pub returns-in-Root-clause-named : goal.returns-in-Root-clause-named
returns-in-Root-clause-named c = next_root (trees_in c.args.trees.now) c.args.at c.args.self.now.roots c.args.self.now.quotients _ _ (shown (trees_in c.args.trees.now) c.args.at c.look.result.now c.look.ensures ∙ ap (node_tree (trees_in c.args.trees.now)) c.in-Root.is)

pub returns-in_default : goal.returns-in_default
returns-in_default c = record {
  named = next_quotient (trees_in c.args.trees.now) c.args.at c.args.self.now.roots c.args.self.now.quotients c.look.result.now (shown (trees_in c.args.trees.now) c.args.at c.look.result.now c.look.ensures) c.in_default.not-Root;
  count = omega arith;
  at = refl;
}
