use Rattle.std.proofs.Common.{ap}
use Rattle.script_roots.specs.Tree.{tree_of}
use Rattle.smt_sexp.specs.Arena.{first_of, expression_at, rest_of}
use Rattle.root_rewriting.specs.Nodes.{trees_in}
use Rattle.root_rewriting.proofs.Growth as growth
use Rattle.root_rewriting.proofs.Reckoned as reckoned
use Rattle.root_rewriting.specs.Ahead.{scope_bodies}
use Rattle.smt_sexp.specs.Views.{leaf_of}
use Rattle.script_roots.specs.Reached.{group_reached, leaf_reached, reached_in}
use Rattle.root_rewriting.proofs.unfold.expressions.enter.Goals as goal

pub returns-in-End-clause-walks : goal.returns-in-End-clause-walks
returns-in-End-clause-walks c = λ names knows.
    let s = c.args.source.now.sexps.now in
    let top = c.args.source.now.top.now in
    growth.turns_same s top (trees_in c.args.trees.now) (trees_in c.formless.new.trees) _ _ c.formless.result (ap (λ r. tree_of names (first_of r)) c.in-End.ensures) (c.formless.ensures.walks s top)

pub returns-in-Leaf-clause-walks : goal.returns-in-Leaf-clause-walks
returns-in-Leaf-clause-walks c = λ names knows.
    growth.turns_same c.args.source.now.sexps.now c.args.source.now.top.now (trees_in c.args.trees.now) (trees_in c.enter_leaf.new.trees) _ _ c.enter_leaf.result
    (ap (λ r. tree_of names (first_of r)) c.in-Leaf.ensures.0) (c.enter_leaf.ensures.walks names knows)

pub returns-clause-walks : goal.returns-clause-walks
returns-clause-walks c = λ names knows.
    growth.turns_same c.args.source.now.sexps.now c.args.source.now.top.now (trees_in c.args.trees.now) (trees_in c.enter_group.new.trees) _ _ c.enter_group.result
    (ap (λ r. tree_of names (first_of r)) c.in-Group.ensures.0) (c.enter_group.ensures.walks names knows)

pub returns-in-End-clause-counts : goal.returns-in-End-clause-counts
returns-in-End-clause-counts c = reckoned.opens_goes c.args.source.now c.args.scope (λ bs. reached_in bs (expression_at c.args.source.now.sexps.now c.args.at)) 0 c.formless.result (ap (λ r. reached_in (scope_bodies c.args.source.now.sexps.now c.args.source.now.top.now c.args.scope) (first_of r)) c.in-End.ensures) (c.formless.ensures.counts c.args.source.now.sexps.now c.args.source.now.top.now)

pub returns-in-Leaf-clause-counts : goal.returns-in-Leaf-clause-counts
returns-in-Leaf-clause-counts c = reckoned.opens_same c.args.source.now c.args.scope (λ bs. reached_in bs (expression_at c.args.source.now.sexps.now c.args.at)) (λ bs. leaf_reached bs (leaf_of c.in-Leaf.leaf.now)) c.enter_leaf.result (ap (λ r. reached_in (scope_bodies c.args.source.now.sexps.now c.args.source.now.top.now c.args.scope) (first_of r)) c.in-Leaf.ensures.0) c.enter_leaf.ensures.counts

pub returns-clause-counts : goal.returns-clause-counts
returns-clause-counts c = reckoned.opens_same c.args.source.now c.args.scope (λ bs. reached_in bs (expression_at c.args.source.now.sexps.now c.args.at)) (λ bs. group_reached bs (rest_of c.args.source.now.sexps.now c.in-Group.inside)) c.enter_group.result (ap (λ r. reached_in (scope_bodies c.args.source.now.sexps.now c.args.source.now.top.now c.args.scope) (first_of r)) c.in-Group.ensures.0) c.enter_group.ensures.counts
