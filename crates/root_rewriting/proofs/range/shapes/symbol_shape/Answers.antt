use Rattle.std.proofs.Common.{ap, ◌∙◌, sym}
use Rattle.std.specs.Prelude.{option_map}
use Rattle.std.specs.HashMap.{get_by}
use Rattle.std.specs.Str.{bytes_eq}
use Rattle.script_model.specs.Reading.{found, operators}
use Rattle.sort_check.specs.Views.{operator_of}
use Rattle.root_rewriting.specs.Shapes.{shape_of}
use Rattle.root_rewriting.proofs.RangeNames.{shape_known, shape_plain}
use Rattle.root_rewriting.proofs.range.shapes.symbol_shape.Goals as goal

pub returns-in-Some-copied : goal.returns-in-Some-copied
returns-in-Some-copied c = λ A knows.
    let none = sym (c.operator_named.ensures ∙ ap (λ x. found x operators) c.as_slice.ensures) ∙ ap (option_map operator_of) c.in_default.is in
    sym (shape_plain c.in-Some-copied.shape) ∙
    shape_known (found c.args.name.now operators) (shape_of c.in-Some-copied.shape) (found c.args.name.now A) none
    (ap (option_map shape_of) (sym c.in-Some-copied.is ∙ c.copied.ensures ∙ c.get.ensures.value ∙ ap (λ x. get_by (λ k. bytes_eq x k.now) c.args.axes.now) c.as_slice-2.ensures) ∙ knows c.args.name.now)
