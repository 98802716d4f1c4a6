use Rattle.std.proofs.Common.{ap, ◌∙◌, sym}
use Rattle.std.specs.Prelude.{option_map}
use Rattle.std.specs.Str.{bytes_eq}
use Rattle.std.specs.HashMap.{get_by}
use Rattle.sort_check.specs.Views.{named_of}
use Rattle.sort_check.proofs.Nearest.{found_local, found_beyond}
use Rattle.sort_check.proofs.names.lookup.Goals as goal

pub returns-in-Some : goal.returns-in-Some
returns-in-Some c = λ names knows. sym (found_local c.args.name.now c.args.locals.now names c.in-Some.sort (sym c.in-Some.ensures))

pub returns : goal.returns
returns c = λ names knows.
    ap (option_map named_of) (c.copied.ensures ∙ c.get.ensures.value ∙ ap (λ x. get_by (λ k. bytes_eq x k.now) c.args.top.now) c.as_slice.ensures) ∙
    knows c.args.name.now ∙ sym (found_beyond c.args.name.now c.args.locals.now names (sym c.in_default.ensures))
