use Rattle.std.proofs.Common.{◌<◌, ◌∙◌, ap, subst, sym, arith}
use Rattle.root_rewriting.specs.Nodes.{IsBelow, node_tree, trees_in}
use Rattle.root_rewriting.specs.declared.unfold.trees.Node.{Node}
use Rattle.root_rewriting.specs.Found.{is_own}
use Rattle.root_rewriting.proofs.Alike.{shown}
use Rattle.root_rewriting.proofs.Tables.{not_own}
use Rattle.root_rewriting.proofs.constants.is_own.Goals as goal

pub stands_alone-requires-clause-dividend : goal.stands_alone-requires-clause-dividend
stands_alone-requires-clause-dividend c = let h : (c.in-Quotient.dividend < c.args.at) × (c.in-Quotient.divisor < c.args.at) = subst (λ (x : Node). IsBelow c.args.at x) c.in-Quotient.is c.look.ensures.1 in omega (arith, h.0, c.requires.at)

pub stands_alone-requires-clause-divisor : goal.stands_alone-requires-clause-divisor
stands_alone-requires-clause-divisor c = let h : (c.in-Quotient.dividend < c.args.at) × (c.in-Quotient.divisor < c.args.at) = subst (λ (x : Node). IsBelow c.args.at x) c.in-Quotient.is c.look.ensures.1 in omega (arith, h.1, c.requires.at)

pub returns-in-Root : goal.returns-in-Root
returns-in-Root c = λ names e. sym (ap (is_own names) (shown (trees_in c.args.trees.now) c.args.at c.look.result.now c.look.ensures ∙ ap (node_tree (trees_in c.args.trees.now)) c.in-Root.is))

pub returns-in-Quotient : goal.returns-in-Quotient
returns-in-Quotient c = λ names e. c.stands_alone.ensures names e ∙ sym (ap (is_own names) (shown (trees_in c.args.trees.now) c.args.at c.look.result.now c.look.ensures ∙ ap (node_tree (trees_in c.args.trees.now)) c.in-Quotient.is))

pub returns-in_default : goal.returns-in_default
returns-in_default c = λ names e. not_own names (trees_in c.args.trees.now) c.look.result.now c.in_default.not-Root c.in_default.not-Quotient ∙ sym (ap (is_own names) (shown (trees_in c.args.trees.now) c.args.at c.look.result.now c.look.ensures))
