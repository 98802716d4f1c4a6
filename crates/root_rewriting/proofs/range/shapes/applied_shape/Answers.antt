use Rattle.std.proofs.Common.{◌<◌, arith, ap, length, ◌∙◌, sym}
use Rattle.std.specs.Prelude.{option_map}
use Rattle.script_model.specs.Reading.{found, operators}
use Rattle.sort_check.specs.Views.{operator_of}
use Rattle.root_rewriting.specs.Shapes.{shape_at, without_ends}
use Rattle.root_rewriting.proofs.Answered.{ok_more}
use Rattle.root_rewriting.proofs.Shaped.{applied_is}
use Rattle.root_rewriting.proofs.range.shapes.applied_shape.Goals as goal

pub returns-in-Some : goal.returns-in-Some
returns-in-Some c =
    let e = sym (ap (λ x. found x operators) c.as_slice.ensures) ∙ sym c.operator_named.ensures ∙ ap (option_map operator_of) c.in-Some.is in
    let some : 0 < length c.args.parts.now = grind (arith, c.is_empty.ensures, c.if-is_empty.false) in
    ok_more _ _ (λ s h. h ∙ ap without_ends (sym (applied_is (found c.args.name.now operators) (operator_of c.in-Some.operator) (shape_at c.args.shapes.now) c.args.parts.now e some))) c.operation.result c.operation.ensures
