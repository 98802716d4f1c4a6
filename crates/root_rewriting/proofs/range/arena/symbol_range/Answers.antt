use Rattle.std.proofs.Common.{ap, ◌∙◌, sym}
use Rattle.std.specs.Prelude.{option_map}
use Rattle.std.specs.HashMap.{get_by}
use Rattle.std.specs.Str.{bytes_eq}
use Rattle.ival.specs.Views.{interval_of}
use Rattle.script_model.specs.Reading.{found, operators}
use Rattle.root_rewriting.proofs.RangeNames.{no_operator, symbol_known}
use Rattle.root_rewriting.proofs.range.arena.symbol_range.Goals as goal

pub returns-in-Some : goal.returns-in-Some
returns-in-Some c = λ R knows.
    let none = no_operator c.operator_named.result (found c.args.name.now operators) (c.operator_named.ensures ∙ ap (λ x. found x operators) c.as_slice.ensures) (sym c.is_some.ensures ∙ c.if-is_some.false) in
    symbol_known (found c.args.name.now operators) (interval_of c.in-Some.range) (found c.args.name.now R) none
    (ap (option_map interval_of) (sym c.in-Some.is ∙ c.copied.ensures ∙ c.get.ensures.value ∙ ap (λ x. get_by (λ k. bytes_eq x k.now) c.args.ranges.now) c.as_slice-2.ensures) ∙ knows c.args.name.now)
