use Rattle.std.proofs.Common.{ap}
use Rattle.script_model.specs.Sexp.{more, leaf, reserved}
use Rattle.script_roots.specs.Tree.{group_tree}
use Rattle.smt_sexp.specs.Arena.{rest_of}
use Rattle.smt_sexp.specs.Views.{leaf_of, place_of, reserved_of}
use Rattle.root_rewriting.specs.Nodes.{trees_in}
use Rattle.root_rewriting.proofs.Growth as growth
use Rattle.root_rewriting.proofs.Reckoned as reckoned
use Rattle.root_rewriting.specs.Ahead.{scope_bodies}
use Rattle.script_model.specs.Reading.{found, operators}
use Rattle.script_roots.specs.Reached.{all_reached, application_reached, group_reached}
use Rattle.root_rewriting.proofs.unfold.expressions.headed.Goals as goal

pub returns-in-Symbol-clause-walks : goal.returns-in-Symbol-clause-walks
returns-in-Symbol-clause-walks c = λ first names knows.
    growth.turns_same c.args.source.now.sexps.now c.args.source.now.top.now (trees_in c.args.trees.now) (trees_in c.applied.new.trees) _ _ c.applied.result
    (ap (λ l. group_tree names (place_of c.args.place) (more (leaf first (leaf_of l)) (rest_of c.args.source.now.sexps.now c.args.after))) c.in-Symbol.is) (c.applied.ensures.walks names knows)

pub returns-in-Reserved-clause-walks : goal.returns-in-Reserved-clause-walks
returns-in-Reserved-clause-walks c = λ first names knows.
    growth.turns_same c.args.source.now.sexps.now c.args.source.now.top.now (trees_in c.args.trees.now) (trees_in c.with_word.new.trees) _ _ c.with_word.result
    (ap (λ l. group_tree names (place_of c.args.place) (more (leaf first (leaf_of l)) (rest_of c.args.source.now.sexps.now c.args.after))) c.in-Reserved.is) (c.with_word.ensures.walks first names knows)

pub returns-in-Numeral-clause-walks : goal.returns-in-Numeral-clause-walks
returns-in-Numeral-clause-walks c = λ first names knows.
    growth.turns_same c.args.source.now.sexps.now c.args.source.now.top.now (trees_in c.args.trees.now) (trees_in c.formless.new.trees) _ _ c.formless.result
    (ap (λ l. group_tree names (place_of c.args.place) (more (leaf first (leaf_of l)) (rest_of c.args.source.now.sexps.now c.args.after))) c.in-Numeral.is)
    (c.formless.ensures.walks c.args.source.now.sexps.now c.args.source.now.top.now)

pub returns-in-Decimal-clause-walks : goal.returns-in-Decimal-clause-walks
returns-in-Decimal-clause-walks c = λ first names knows.
    growth.turns_same c.args.source.now.sexps.now c.args.source.now.top.now (trees_in c.args.trees.now) (trees_in c.formless-in-Decimal.new.trees) _ _ c.formless-in-Decimal.result
    (ap (λ l. group_tree names (place_of c.args.place) (more (leaf first (leaf_of l)) (rest_of c.args.source.now.sexps.now c.args.after))) c.in-Decimal.is)
    (c.formless-in-Decimal.ensures.walks c.args.source.now.sexps.now c.args.source.now.top.now)

pub returns-in-String-clause-walks : goal.returns-in-String-clause-walks
returns-in-String-clause-walks c = λ first names knows.
    growth.turns_same c.args.source.now.sexps.now c.args.source.now.top.now (trees_in c.args.trees.now) (trees_in c.formless-in-String.new.trees) _ _ c.formless-in-String.result
    (ap (λ l. group_tree names (place_of c.args.place) (more (leaf first (leaf_of l)) (rest_of c.args.source.now.sexps.now c.args.after))) c.in-String.is)
    (c.formless-in-String.ensures.walks c.args.source.now.sexps.now c.args.source.now.top.now)

pub returns-clause-walks : goal.returns-clause-walks
returns-clause-walks c = λ first names knows.
    growth.turns_same c.args.source.now.sexps.now c.args.source.now.top.now (trees_in c.args.trees.now) (trees_in c.formless-in-Keyword.new.trees) _ _ c.formless-in-Keyword.result
    (ap (λ l. group_tree names (place_of c.args.place) (more (leaf first (leaf_of l)) (rest_of c.args.source.now.sexps.now c.args.after))) c.in-Keyword.is)
    (c.formless-in-Keyword.ensures.walks c.args.source.now.sexps.now c.args.source.now.top.now)

pub returns-in-Symbol-clause-counts : goal.returns-in-Symbol-clause-counts
returns-in-Symbol-clause-counts c = λ first. reckoned.opens_same c.args.source.now c.args.scope (λ bs. group_reached bs (more (leaf first (leaf_of c.args.leaf.now)) (rest_of c.args.source.now.sexps.now c.args.after))) (λ bs. application_reached bs c.in-Symbol.name (found c.in-Symbol.name operators) (all_reached bs (rest_of c.args.source.now.sexps.now c.args.after))) c.applied.result (ap (λ l. group_reached (scope_bodies c.args.source.now.sexps.now c.args.source.now.top.now c.args.scope) (more (leaf first (leaf_of l)) (rest_of c.args.source.now.sexps.now c.args.after))) c.in-Symbol.is) c.applied.ensures.counts

pub returns-in-Reserved-clause-counts : goal.returns-in-Reserved-clause-counts
returns-in-Reserved-clause-counts c = λ first. reckoned.opens_same c.args.source.now c.args.scope (λ bs. group_reached bs (more (leaf first (leaf_of c.args.leaf.now)) (rest_of c.args.source.now.sexps.now c.args.after))) (λ bs. group_reached bs (more (leaf first (reserved (reserved_of c.in-Reserved.word))) (rest_of c.args.source.now.sexps.now c.args.after))) c.with_word.result (ap (λ l. group_reached (scope_bodies c.args.source.now.sexps.now c.args.source.now.top.now c.args.scope) (more (leaf first (leaf_of l)) (rest_of c.args.source.now.sexps.now c.args.after))) c.in-Reserved.is) (c.with_word.ensures.counts first)

pub returns-in-Numeral-clause-counts : goal.returns-in-Numeral-clause-counts
returns-in-Numeral-clause-counts c = λ first. reckoned.opens_goes c.args.source.now c.args.scope (λ bs. group_reached bs (more (leaf first (leaf_of c.args.leaf.now)) (rest_of c.args.source.now.sexps.now c.args.after))) 0 c.formless.result (ap (λ l. group_reached (scope_bodies c.args.source.now.sexps.now c.args.source.now.top.now c.args.scope) (more (leaf first (leaf_of l)) (rest_of c.args.source.now.sexps.now c.args.after))) c.in-Numeral.is) (c.formless.ensures.counts c.args.source.now.sexps.now c.args.source.now.top.now)

pub returns-in-Decimal-clause-counts : goal.returns-in-Decimal-clause-counts
returns-in-Decimal-clause-counts c = λ first. reckoned.opens_goes c.args.source.now c.args.scope (λ bs. group_reached bs (more (leaf first (leaf_of c.args.leaf.now)) (rest_of c.args.source.now.sexps.now c.args.after))) 0 c.formless-in-Decimal.result (ap (λ l. group_reached (scope_bodies c.args.source.now.sexps.now c.args.source.now.top.now c.args.scope) (more (leaf first (leaf_of l)) (rest_of c.args.source.now.sexps.now c.args.after))) c.in-Decimal.is) (c.formless-in-Decimal.ensures.counts c.args.source.now.sexps.now c.args.source.now.top.now)

pub returns-in-String-clause-counts : goal.returns-in-String-clause-counts
returns-in-String-clause-counts c = λ first. reckoned.opens_goes c.args.source.now c.args.scope (λ bs. group_reached bs (more (leaf first (leaf_of c.args.leaf.now)) (rest_of c.args.source.now.sexps.now c.args.after))) 0 c.formless-in-String.result (ap (λ l. group_reached (scope_bodies c.args.source.now.sexps.now c.args.source.now.top.now c.args.scope) (more (leaf first (leaf_of l)) (rest_of c.args.source.now.sexps.now c.args.after))) c.in-String.is) (c.formless-in-String.ensures.counts c.args.source.now.sexps.now c.args.source.now.top.now)

pub returns-clause-counts : goal.returns-clause-counts
returns-clause-counts c = λ first. reckoned.opens_goes c.args.source.now c.args.scope (λ bs. group_reached bs (more (leaf first (leaf_of c.args.leaf.now)) (rest_of c.args.source.now.sexps.now c.args.after))) 0 c.formless-in-Keyword.result (ap (λ l. group_reached (scope_bodies c.args.source.now.sexps.now c.args.source.now.top.now c.args.scope) (more (leaf first (leaf_of l)) (rest_of c.args.source.now.sexps.now c.args.after))) c.in-Keyword.is) (c.formless-in-Keyword.ensures.counts c.args.source.now.sexps.now c.args.source.now.top.now)
