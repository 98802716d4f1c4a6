use Rattle.std.proofs.Common.{ap}
use Rattle.script_roots.specs.Tree.{group_tree}
use Rattle.smt_sexp.specs.Views.{place_of, leaf_of}
use Rattle.root_rewriting.specs.Nodes.{trees_in}
use Rattle.root_rewriting.proofs.Growth as growth
use Rattle.root_rewriting.proofs.Reckoned as reckoned
use Rattle.root_rewriting.specs.Ahead.{scope_bodies}
use Rattle.script_model.specs.Sexp.{more, leaf}
use Rattle.smt_sexp.specs.Arena.{rest_of}
use Rattle.script_roots.specs.Reached.{group_reached}
use Rattle.root_rewriting.proofs.unfold.expressions.enter_group.Goals as goal

pub returns-in-End-clause-walks : goal.returns-in-End-clause-walks
returns-in-End-clause-walks c = λ names knows.
    growth.turns_same c.args.source.now.sexps.now c.args.source.now.top.now (trees_in c.args.trees.now) (trees_in c.formless.new.trees) _ _ c.formless.result
    (ap (group_tree names (place_of c.args.place)) c.in-End.ensures) (c.formless.ensures.walks c.args.source.now.sexps.now c.args.source.now.top.now)

pub returns-in-Leaf-clause-walks : goal.returns-in-Leaf-clause-walks
returns-in-Leaf-clause-walks c = λ names knows.
    growth.turns_same c.args.source.now.sexps.now c.args.source.now.top.now (trees_in c.args.trees.now) (trees_in c.headed.new.trees) _ _ c.headed.result
    (ap (group_tree names (place_of c.args.place)) c.in-Leaf.ensures.0) (c.headed.ensures.walks (place_of c.in-Leaf.field-0) names knows)

pub returns-clause-walks : goal.returns-clause-walks
returns-clause-walks c = λ names knows.
    growth.turns_same c.args.source.now.sexps.now c.args.source.now.top.now (trees_in c.args.trees.now) (trees_in c.formless-in-Group.new.trees) _ _ c.formless-in-Group.result
    (ap (group_tree names (place_of c.args.place)) c.in-Group.ensures.0) (c.formless-in-Group.ensures.walks c.args.source.now.sexps.now c.args.source.now.top.now)

pub returns-in-End-clause-counts : goal.returns-in-End-clause-counts
returns-in-End-clause-counts c = reckoned.opens_goes c.args.source.now c.args.scope (λ bs. group_reached bs (rest_of c.args.source.now.sexps.now c.args.inside)) 0 c.formless.result (ap (group_reached (scope_bodies c.args.source.now.sexps.now c.args.source.now.top.now c.args.scope)) c.in-End.ensures) (c.formless.ensures.counts c.args.source.now.sexps.now c.args.source.now.top.now)

pub returns-in-Leaf-clause-counts : goal.returns-in-Leaf-clause-counts
returns-in-Leaf-clause-counts c = reckoned.opens_same c.args.source.now c.args.scope (λ bs. group_reached bs (rest_of c.args.source.now.sexps.now c.args.inside)) (λ bs. group_reached bs (more (leaf (place_of c.in-Leaf.field-0) (leaf_of c.in-Leaf.leaf.now)) (rest_of c.args.source.now.sexps.now c.in-Leaf.after))) c.headed.result (ap (group_reached (scope_bodies c.args.source.now.sexps.now c.args.source.now.top.now c.args.scope)) c.in-Leaf.ensures.0) (c.headed.ensures.counts (place_of c.in-Leaf.field-0))

pub returns-clause-counts : goal.returns-clause-counts
returns-clause-counts c = reckoned.opens_goes c.args.source.now c.args.scope (λ bs. group_reached bs (rest_of c.args.source.now.sexps.now c.args.inside)) 0 c.formless-in-Group.result (ap (group_reached (scope_bodies c.args.source.now.sexps.now c.args.source.now.top.now c.args.scope)) c.in-Group.ensures.0) (c.formless-in-Group.ensures.counts c.args.source.now.sexps.now c.args.source.now.top.now)
