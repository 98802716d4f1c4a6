use Rattle.std.proofs.Common.{rules, ap, sym, subst, ◌∙◌, [], ◌∷◌}
use Rattle.script_model.specs.Reading.{found}
use Rattle.sort_check.specs.Sorts.{square_root}
use Rattle.sort_check.specs.Views.{Knows, theory_names}
use Rattle.sort_check.specs.declared.names.Known.TheVariants as known
use Rattle.sort_check.proofs.Known.{knows_more}
use Rattle.sort_check.proofs.scope.theory_top.Goals as goal

pub returns-in_ok-insert-in-Roots : goal.returns-in_ok-insert-in-Roots
returns-in_ok-insert-in-Roots c = λ x.
    let name = c.as_slice.result.now in
    let none : Knows c.new-top.result [] = λ y. search (rules, c.new-top.ensures.empty) in
    let here = knows_more c.new-top.result c.insert.new.self [] name known.Root none c.in_ok-insert-in-Roots.ensures.updates in
    subst (λ y. Knows c.insert.new.self ((y, square_root) ∷ [])) c.as_slice.ensures here x ∙ ap (λ t. found x (theory_names t)) (sym c.in-Roots.is)
