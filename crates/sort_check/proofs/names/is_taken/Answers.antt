use Rattle.std.proofs.Common.{ap, ◌∙◌, sym, map, []}
use Rattle.std.specs.Prelude.{◌||◌}
use Rattle.smt_script.specs.Views.{parameter_of}
use Rattle.sort_check.specs.Sorts.{name_in}
use Rattle.sort_check.specs.Views.{names_back}
use Rattle.sort_check.proofs.Lists.{name_in_all}
use Rattle.sort_check.proofs.names.is_taken.Goals as goal

pub returns-else-operator : goal.returns-else-operator
returns-else-operator c =
    c.is_among-among.ensures ∙ sym (name_in_all c.args.name.now (map parameter_of c.args.before.now)) ∙
    ap (λ b. b || name_in c.args.name.now (names_back (map parameter_of c.args.before.now) [])) (sym c.if-operator.false ∙ c.is_operator-operator.ensures)
