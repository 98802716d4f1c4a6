use Rattle.std.proofs.Common.{ap, ap₂, sym, ◌∙◌, []}
use Rattle.script_model.specs.Sexp.{more, leaf}
use Rattle.script_model.specs.Reading.{meaning, literal_value}
use Rattle.script_model.specs.Declared.{bounding}
use Rattle.script_forms.specs.Work.{as_work}
use Rattle.smt_sexp.specs.Arena.{rest_of, first_of}
use Rattle.smt_sexp.specs.Views.{place_of, leaf_of}
use Rattle.problem_build.proofs.Turns as turns
use Rattle.problem_build.proofs.expressions.enter.Goals as goal

pub returns-in-Leaf-default-Symbol-default-clause-walks : goal.returns-in-Leaf-default-Symbol-default-clause-walks
returns-in-Leaf-default-Symbol-default-clause-walks c = λ names bnames knows.
    let d = c.in-Leaf-default-Symbol-default in
    let is = ap first_of (d.ensures.0 ∙ ap (λ l. more (leaf (place_of d.place) (leaf_of l)) (rest_of c.args.sexps.now d.field-2)) d.field-1-is) in
    turns.reaches_same c.args.sexps.now c.args.top.now c.args.maker.now c.alone.new.maker _ _ _ _ c.alone.result (ap (meaning as_work names) is) (ap (meaning bounding bnames) is)
    (c.alone.ensures.walks c.args.sexps.now names bnames knows)

pub returns-in-Leaf-default-Numeral-default-clause-walks : goal.returns-in-Leaf-default-Numeral-default-clause-walks
returns-in-Leaf-default-Numeral-default-clause-walks c = λ names bnames knows.
    let d = c.in-Leaf-default-Numeral-default in
    let at = place_of d.field-0 in
    let is = ap first_of (d.ensures.0 ∙ ap (λ l. more (leaf at (leaf_of l)) (rest_of c.args.sexps.now d.field-2)) d.field-1-is) in
    turns.reaches_same c.args.sexps.now c.args.top.now c.args.maker.now c.literal.new.maker _ _ _ _ c.literal.result
    (ap (meaning as_work names) is ∙ ap (λ x. as_work.literal at (literal_value x [])) (sym c.as_slice.ensures))
    (ap (meaning bounding bnames) is ∙ ap (λ x. bounding.literal at (literal_value x [])) (sym c.as_slice.ensures)) (c.literal.ensures.walks c.args.sexps.now c.args.top.now at)

pub returns-in-Leaf-default-Decimal-default-clause-walks : goal.returns-in-Leaf-default-Decimal-default-clause-walks
returns-in-Leaf-default-Decimal-default-clause-walks c = λ names bnames knows.
    let d = c.in-Leaf-default-Decimal-default in
    let at = place_of d.field-0 in
    let is = ap first_of (d.ensures.0 ∙ ap (λ l. more (leaf at (leaf_of l)) (rest_of c.args.sexps.now d.field-2)) d.field-1-is) in
    turns.reaches_same c.args.sexps.now c.args.top.now c.args.maker.now c.literal-in-Leaf-default-Decimal-default.new.maker _ _ _ _ c.literal-in-Leaf-default-Decimal-default.result
    (ap (meaning as_work names) is ∙ ap₂ (λ x f. as_work.literal at (literal_value x f)) (sym c.as_slice-in-Leaf-default-Decimal-default.ensures) (sym c.as_slice-in-Leaf-default-Decimal-default-2.ensures))
    (ap (meaning bounding bnames) is ∙ ap₂ (λ x f. bounding.literal at (literal_value x f)) (sym c.as_slice-in-Leaf-default-Decimal-default.ensures) (sym c.as_slice-in-Leaf-default-Decimal-default-2.ensures))
    (c.literal-in-Leaf-default-Decimal-default.ensures.walks c.args.sexps.now c.args.top.now at)

pub returns-clause-walks : goal.returns-clause-walks
returns-clause-walks c = λ names bnames knows.
    let is = ap first_of c.in-Group.ensures.0 in
    turns.reaches_same c.args.sexps.now c.args.top.now c.args.maker.now c.group.new.maker _ _ _ _ c.group.result (ap (meaning as_work names) is) (ap (meaning bounding bnames) is) (c.group.ensures.walks names bnames knows)
