-- A fault of a term is that of all.
use Rattle.std.proofs.Common.{◌≡◌, List, ◌∷◌, ◌++◌, Some, ap, ◌∙◌, Global}
use Rattle.std.specs.Prelude.{Err}
use Rattle.script_model.specs.Sexp.{Sexp, Sexps}
use Rattle.script_model.specs.Reading.{Names, meaning, meanings}
use Rattle.smt_script.specs.Forms.{as_any}
use Rattle.smt_script.specs.declared.command.Sort as code_sort
use Rattle.sort_check.specs.declared.stop.Stop.{Stop}
use Rattle.sort_check.specs.declared.stop.Stop.TheVariants as stops
use Rattle.sort_check.specs.Sorts.{Sorted, sorting, first_ill}
use Rattle.sort_check.specs.Forms.{Lists}
use Rattle.sort_check.specs.Views.{IsSortAnswer, sorts_seen}
use Rattle.sort_check.proofs.Lists.{first_ill-seen}
use Rattle.sort_check.proofs.Calls.{meanings_are, any_meanings}

pub argument_fails : (f : Stop) (env : Names Sorted) (items0 items rest : Sexps) (e : Sexp) (ss : List code_sort.Sort) →
    meanings sorting env items0 ≡ sorts_seen ss ++ meanings sorting env items → as_any items ≡ Some (e, rest) → IsSortAnswer (Err f) (meaning sorting env e) → Lists {A = Global} (Err f) (meanings sorting env items0)
argument_fails (stops.Fault at f) env items0 items rest e ss said first fails =
    ap first_ill said ∙ first_ill-seen ss (meanings sorting env items) ∙
    ap first_ill (meanings_are env items ∙ ap (any_meanings env) first ∙ ap (λ m. m ∷ meanings sorting env rest) fails)
argument_fails stops.Memory env items0 items rest e ss said first fails = tt
