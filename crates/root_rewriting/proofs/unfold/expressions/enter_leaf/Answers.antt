use Rattle.std.proofs.Common.{ap}
use Rattle.script_roots.specs.Tree.{leaf_tree}
use Rattle.smt_sexp.specs.Views.{leaf_of, place_of}
use Rattle.root_rewriting.specs.Nodes.{trees_in}
use Rattle.root_rewriting.proofs.Growth as growth
use Rattle.root_rewriting.proofs.Reckoned as reckoned
use Rattle.root_rewriting.specs.Ahead.{scope_bodies}
use Rattle.script_model.specs.Reading.{found, operators}
use Rattle.script_roots.specs.Reached.{leaf_reached, symbol_reached}
use Rattle.root_rewriting.proofs.unfold.expressions.enter_leaf.Goals as goal

pub returns-in-Symbol-clause-walks : goal.returns-in-Symbol-clause-walks
returns-in-Symbol-clause-walks c = λ names knows.
    growth.turns_same c.args.source.now.sexps.now c.args.source.now.top.now (trees_in c.args.trees.now) (trees_in c.alone.new.trees) _ _ c.alone.result
    (ap (λ l. leaf_tree names (place_of c.args.place) (leaf_of l)) c.in-Symbol.is) (c.alone.ensures.walks names knows)

pub returns-in-Numeral-clause-walks : goal.returns-in-Numeral-clause-walks
returns-in-Numeral-clause-walks c = λ names knows.
    growth.turns_added c.args.source.now.sexps.now c.args.source.now.top.now c.args.trees.now c.atomic.new.self _ _ c.atomic.result c.back.result c.back.ensures
    c.atomic.ensures.added c.atomic.ensures.last (ap (λ l. leaf_tree names (place_of c.args.place) (leaf_of l)) c.in-Numeral.is)

pub returns-in-Decimal-clause-walks : goal.returns-in-Decimal-clause-walks
returns-in-Decimal-clause-walks c = λ names knows.
    growth.turns_added c.args.source.now.sexps.now c.args.source.now.top.now c.args.trees.now c.atomic-in-Decimal.new.self _ _ c.atomic-in-Decimal.result c.back-in-Decimal.result c.back-in-Decimal.ensures
    c.atomic-in-Decimal.ensures.added c.atomic-in-Decimal.ensures.last (ap (λ l. leaf_tree names (place_of c.args.place) (leaf_of l)) c.in-Decimal.is)

pub returns-in-Reserved-clause-walks : goal.returns-in-Reserved-clause-walks
returns-in-Reserved-clause-walks c = λ names knows.
    growth.turns_same c.args.source.now.sexps.now c.args.source.now.top.now (trees_in c.args.trees.now) (trees_in c.formless.new.trees) _ _ c.formless.result
    (ap (λ l. leaf_tree names (place_of c.args.place) (leaf_of l)) c.in-Reserved.is) (c.formless.ensures.walks c.args.source.now.sexps.now c.args.source.now.top.now)

pub returns-in-String-clause-walks : goal.returns-in-String-clause-walks
returns-in-String-clause-walks c = λ names knows.
    growth.turns_same c.args.source.now.sexps.now c.args.source.now.top.now (trees_in c.args.trees.now) (trees_in c.formless-in-String.new.trees) _ _ c.formless-in-String.result
    (ap (λ l. leaf_tree names (place_of c.args.place) (leaf_of l)) c.in-String.is) (c.formless-in-String.ensures.walks c.args.source.now.sexps.now c.args.source.now.top.now)

pub returns-clause-walks : goal.returns-clause-walks
returns-clause-walks c = λ names knows.
    growth.turns_same c.args.source.now.sexps.now c.args.source.now.top.now (trees_in c.args.trees.now) (trees_in c.formless-in-Keyword.new.trees) _ _ c.formless-in-Keyword.result
    (ap (λ l. leaf_tree names (place_of c.args.place) (leaf_of l)) c.in-Keyword.is) (c.formless-in-Keyword.ensures.walks c.args.source.now.sexps.now c.args.source.now.top.now)

pub returns-in-Symbol-clause-counts : goal.returns-in-Symbol-clause-counts
returns-in-Symbol-clause-counts c = reckoned.opens_same c.args.source.now c.args.scope (λ bs. leaf_reached bs (leaf_of c.args.leaf.now)) (λ bs. symbol_reached bs c.in-Symbol.name (found c.in-Symbol.name operators)) c.alone.result (ap (λ l. leaf_reached (scope_bodies c.args.source.now.sexps.now c.args.source.now.top.now c.args.scope) (leaf_of l)) c.in-Symbol.is) c.alone.ensures.counts

pub returns-in-Numeral-clause-counts : goal.returns-in-Numeral-clause-counts
returns-in-Numeral-clause-counts c = reckoned.opens_goes c.args.source.now c.args.scope (λ bs. leaf_reached bs (leaf_of c.args.leaf.now)) 0 c.back.result (ap (λ l. leaf_reached (scope_bodies c.args.source.now.sexps.now c.args.source.now.top.now c.args.scope) (leaf_of l)) c.in-Numeral.is) (reckoned.goes_back c.args.source.now.sexps.now c.args.source.now.top.now _ c.back.result c.back.ensures)

pub returns-in-Decimal-clause-counts : goal.returns-in-Decimal-clause-counts
returns-in-Decimal-clause-counts c = reckoned.opens_goes c.args.source.now c.args.scope (λ bs. leaf_reached bs (leaf_of c.args.leaf.now)) 0 c.back-in-Decimal.result (ap (λ l. leaf_reached (scope_bodies c.args.source.now.sexps.now c.args.source.now.top.now c.args.scope) (leaf_of l)) c.in-Decimal.is) (reckoned.goes_back c.args.source.now.sexps.now c.args.source.now.top.now _ c.back-in-Decimal.result c.back-in-Decimal.ensures)

pub returns-in-Reserved-clause-counts : goal.returns-in-Reserved-clause-counts
returns-in-Reserved-clause-counts c = reckoned.opens_goes c.args.source.now c.args.scope (λ bs. leaf_reached bs (leaf_of c.args.leaf.now)) 0 c.formless.result (ap (λ l. leaf_reached (scope_bodies c.args.source.now.sexps.now c.args.source.now.top.now c.args.scope) (leaf_of l)) c.in-Reserved.is) (c.formless.ensures.counts c.args.source.now.sexps.now c.args.source.now.top.now)

pub returns-in-String-clause-counts : goal.returns-in-String-clause-counts
returns-in-String-clause-counts c = reckoned.opens_goes c.args.source.now c.args.scope (λ bs. leaf_reached bs (leaf_of c.args.leaf.now)) 0 c.formless-in-String.result (ap (λ l. leaf_reached (scope_bodies c.args.source.now.sexps.now c.args.source.now.top.now c.args.scope) (leaf_of l)) c.in-String.is) (c.formless-in-String.ensures.counts c.args.source.now.sexps.now c.args.source.now.top.now)

pub returns-clause-counts : goal.returns-clause-counts
returns-clause-counts c = reckoned.opens_goes c.args.source.now c.args.scope (λ bs. leaf_reached bs (leaf_of c.args.leaf.now)) 0 c.formless-in-Keyword.result (ap (λ l. leaf_reached (scope_bodies c.args.source.now.sexps.now c.args.source.now.top.now c.args.scope) (leaf_of l)) c.in-Keyword.is) (c.formless-in-Keyword.ensures.counts c.args.source.now.sexps.now c.args.source.now.top.now)
