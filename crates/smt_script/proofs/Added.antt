-- Steps that are added behind others.
use Rattle.std.proofs.Common.{◌≡◌, List, [], ◌∷◌, ◌++◌, map, ap, sym, subst, ◌∙◌}
use Rattle.std.proofs.lemmas.List.{map-append}
use Rattle.smt_sexp.specs.declared.sexps.Sexps.{Sexps}
use Rattle.script_fault.specs.declared.place.Place.{Place}
use Rattle.smt_script.specs.Calls.{Appends}
use Rattle.smt_script.specs.Views.{step_of}
use Rattle.smt_script.specs.declared.command.Step.{Step}
use Rattle.smt_script.specs.declared.found.Found.{Found}
use Rattle.smt_script.specs.declared.found.Found.TheVariants.{One}

pub one_added : (s : Sexps) (at : Place) (f : Found) (x : Step) (old new : List Step) → f ≡ One x → new ≡ old ++ (x ∷ []) → Appends s at f old new
one_added s at f x old new is added =
    subst (λ (g : Found). Appends s at g old new) (sym is) (ap (map (step_of s)) added ∙ map-append (step_of s) old (x ∷ []))
