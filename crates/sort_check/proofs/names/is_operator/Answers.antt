use Rattle.std.proofs.Common.{ap, ◌∙◌}
use Rattle.script_model.specs.Reading.{found, operators}
use Rattle.sort_check.specs.Sorts.{is_operator}
use Rattle.sort_check.proofs.Lists.{operator_is}
use Rattle.sort_check.proofs.names.is_operator.Goals as goal

pub returns : goal.returns
returns c = c.is_some.ensures ∙ operator_is _ _ c.operator_named.ensures ∙ ap (λ x. is_operator (found x operators)) c.as_slice.ensures
