use Rattle.clause_search.proofs.Order.{all_within, any_within, all_children, any_children}
use Rattle.clause_search.proofs.build.add_node.Goals as goal

pub add_pairs-requires : goal.add_pairs-requires
add_pairs-requires c = all_within c.args.problem.now.forms c.args.k c.deref.result.now c.requires.ordered
    (all_children c.args.problem.now.forms c.forms.result.now c.args.k c.node.result.now c.in-And.children c.deref.result.now c.forms.ensures.forms c.node.ensures c.in-And.is c.deref.ensures.value)

pub add_all-requires : goal.add_all-requires
add_all-requires c = all_within c.args.problem.now.forms c.args.k c.deref-in-And.result.now c.requires.ordered
    (all_children c.args.problem.now.forms c.forms.result.now c.args.k c.node.result.now c.in-And.children c.deref-in-And.result.now c.forms.ensures.forms c.node.ensures c.in-And.is c.deref-in-And.ensures.value)

pub add_pairs-requires-in-Or : goal.add_pairs-requires-in-Or
add_pairs-requires-in-Or c = any_within c.args.problem.now.forms c.args.k c.deref-in-Or.result.now c.requires.ordered
    (any_children c.args.problem.now.forms c.forms.result.now c.args.k c.node.result.now c.in-Or.children c.deref-in-Or.result.now c.forms.ensures.forms c.node.ensures c.in-Or.is c.deref-in-Or.ensures.value)

pub add_all-requires-in-Or : goal.add_all-requires-in-Or
add_all-requires-in-Or c = any_within c.args.problem.now.forms c.args.k c.deref-in-Or-2.result.now c.requires.ordered
    (any_children c.args.problem.now.forms c.forms.result.now c.args.k c.node.result.now c.in-Or.children c.deref-in-Or-2.result.now c.forms.ensures.forms c.node.ensures c.in-Or.is c.deref-in-Or-2.ensures.value)
