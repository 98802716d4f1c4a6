use Rattle.std.proofs.Common.{ap, ◌∙◌, sym}
use Rattle.std.specs.Prelude.{◌||◌, is_some}
use Rattle.std.specs.Str.{bytes_eq}
use Rattle.std.specs.HashMap.{get_by}
use Rattle.sort_check.proofs.Known.{known_in}
use Rattle.sort_check.proofs.commands.is_known.Goals as goal

pub returns-then-operator : goal.returns-then-operator
returns-then-operator c = λ names knows.
    c.if-operator.true ∙ ap (λ b. b || is_some (get_by (λ k. bytes_eq c.args.name.now k.now) c.args.top.now)) (sym c.if-operator.true ∙ c.is_operator-operator.ensures) ∙
    sym (known_in c.args.top.now names c.args.name.now knows)

pub returns-else-operator : goal.returns-else-operator
returns-else-operator c = λ names knows.
    c.contains_key-stands.ensures ∙ ap (λ n. is_some (get_by (λ k. bytes_eq n k.now) c.args.top.now)) c.as_slice.ensures ∙
    ap (λ b. b || is_some (get_by (λ k. bytes_eq c.args.name.now k.now) c.args.top.now)) (sym c.if-operator.false ∙ c.is_operator-operator.ensures) ∙
    sym (known_in c.args.top.now names c.args.name.now knows)
