use Rattle.std.proofs.Common.{ap, sym, ◌∙◌}
use Rattle.script_model.specs.Sexp.{more, leaf}
use Rattle.script_model.specs.Reading.{group_meaning}
use Rattle.script_model.specs.Declared.{bounding}
use Rattle.script_forms.specs.Work.{as_work}
use Rattle.smt_sexp.specs.Arena.{rest_of}
use Rattle.smt_sexp.specs.Views.{place_of, leaf_of}
use Rattle.smt_sexp.specs.declared.leaf.Leaf.TheVariants as leaves
use Rattle.problem_build.proofs.ByForm as forms
use Rattle.problem_build.proofs.Turns as turns
use Rattle.problem_build.proofs.expressions.group.Goals as goal

pub returns-in-Leaf-default-Symbol-default-clause-walks : goal.returns-in-Leaf-default-Symbol-default-clause-walks
returns-in-Leaf-default-Symbol-default-clause-walks c = λ names bnames knows.
    let d = c.in-Leaf-default-Symbol-default in
    let is = d.ensures.0 ∙ ap (λ l. more (leaf (place_of d.field-0) (leaf_of l)) (rest_of c.args.sexps.now d.args)) d.field-1-is in
    turns.reaches_same c.args.sexps.now c.args.top.now c.args.maker.now c.applied.new.maker _ _ _ _ c.applied.result
    (ap (group_meaning as_work names (place_of c.args.place)) is) (ap (group_meaning bounding bnames (place_of c.args.place)) is) (c.applied.ensures.walks names bnames knows)

pub returns-in-Leaf-default-Reserved-Let-default-clause-walks : goal.returns-in-Leaf-default-Reserved-Let-default-clause-walks
returns-in-Leaf-default-Reserved-Let-default-clause-walks c = λ names bnames knows.
    let d = c.in-Leaf-default-Reserved-Let-default in
    let items = rest_of c.args.sexps.now c.args.inside in
    let rest = rest_of c.args.sexps.now d.at in
    let is = d.ensures.0 ∙ ap (λ l. more (leaf (place_of d.field-0) (leaf_of l)) rest) (d.field-1-is ∙ ap leaves.Reserved d.field-1-0-is) in
    turns.reaches_same c.args.sexps.now c.args.top.now c.args.maker.now c.let_value.new.maker _ _ _ _ c.let_value.result
    (forms.group_let_at as_work names (place_of c.args.place) (place_of d.field-0) items rest is)
    (forms.group_let_at bounding bnames (place_of c.args.place) (place_of d.field-0) items rest is)
    (c.let_value.ensures.walks c.args.top.now names bnames knows)

pub returns-in-Leaf-default-Reserved-Bang-default-clause-walks : goal.returns-in-Leaf-default-Reserved-Bang-default-clause-walks
returns-in-Leaf-default-Reserved-Bang-default-clause-walks c = λ names bnames knows.
    let d = c.in-Leaf-default-Reserved-Bang-default in
    let items = rest_of c.args.sexps.now c.args.inside in
    let rest = rest_of c.args.sexps.now d.at in
    let is = d.ensures.0 ∙ ap (λ l. more (leaf (place_of d.field-0) (leaf_of l)) rest) (d.field-1-is ∙ ap leaves.Reserved d.field-1-0-is) in
    let there = sym c.ends.ensures ∙ c.if-ends.false in
    turns.reaches_same c.args.sexps.now c.args.top.now c.args.maker.now c.annotated.new.maker _ _ _ _ c.annotated.result
    (forms.group_bang_at as_work names (place_of c.args.place) (place_of d.field-0) items rest is there)
    (forms.group_bang_at bounding bnames (place_of c.args.place) (place_of d.field-0) items rest is there)
    (c.annotated.ensures.walks c.args.sexps.now c.args.top.now (place_of c.args.place) names bnames knows)
