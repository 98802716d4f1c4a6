-- The script of the only check, and why there is none.
use Rattle.std.proofs.Common.{◌≡◌, List, [], ◌∷◌, Option, Some, None, refl, ap, sym, subst}
use Rattle.std.specs.Prelude.{option_map}
use Rattle.std.specs.List.{AllByRecursion}
use Rattle.script_model.specs.Sexp as sexp
use Rattle.script_model.specs.Script.{Command}
use Rattle.script_fault.specs.Answers.{IsFaultOrMemory}
use Rattle.script_fault.specs.declared.fault.FaultKind.TheVariants.{LeftOut, NoCheck}
use Rattle.script_fault.specs.declared.fault.ReadError.{ReadError}
use Rattle.script_fault.specs.declared.fault.ReadError.TheVariants.{Fault}
use Rattle.script_fault.specs.declared.place.Place.{Place}
use Rattle.smt_sexp.specs.TextAnswers.{fault_at}
use Rattle.smt_sexp.specs.Views.{place_of}
use Rattle.smt_script.specs.Commands.{nowhere}
use Rattle.smt_script.specs.Levels.{Asked, only_script}
use Rattle.sort_check.specs.Single.{asked_fault, first_script, second_place}
use Rattle.sort_check.specs.Sorts.{sort_fault}
use Rattle.sort_check.proofs.Following.{IsSorted}

second_fault : (asked : List Asked) (at : sexp.Place) → Some at ≡ second_place asked → asked_fault asked ≡ Some (fault_at at LeftOut)
second_fault [] at h = cc
second_fault (a ∷ []) at h = cc
second_fault (a ∷ b ∷ later) at h = ap (option_map (λ p. fault_at p LeftOut)) (sym h)

pub refuses_second : (asked : List Asked) (at : Place) (e : ReadError) → e ≡ Fault (fault_at (place_of at) LeftOut) → Some (place_of at) ≡ second_place asked → IsFaultOrMemory e (asked_fault asked)
refuses_second asked at e is h = subst (λ x. IsFaultOrMemory x (asked_fault asked)) (sym is) (second_fault asked (place_of at) h)

no_fault : (asked : List Asked) → None ≡ first_script asked → asked_fault asked ≡ Some (fault_at nowhere NoCheck)
no_fault [] h = refl
no_fault (a ∷ later) h = cc

pub refuses_none : (asked : List Asked) (e : ReadError) → e ≡ Fault (fault_at nowhere NoCheck) → None ≡ first_script asked → IsFaultOrMemory e (asked_fault asked)
refuses_none asked e is h = subst (λ x. IsFaultOrMemory x (asked_fault asked)) (sym is) (no_fault asked h)

pub only_is : (asked : List Asked) (cs : List Command) → None ≡ second_place asked → Some cs ≡ first_script asked → only_script asked ≡ Some cs
only_is [] cs none h = cc
only_is (a ∷ []) cs none h = sym h
only_is (a ∷ b ∷ later) cs none h = cc

abbrev or_empty : Option (List Command) → List Command
or_empty None = []
or_empty (Some cs) = cs

pub only_sorted : (asked : List Asked) (cs : List Command) → AllByRecursion IsSorted asked → only_script asked ≡ Some cs → sort_fault cs ≡ None
only_sorted [] cs h e = cc
only_sorted (a ∷ []) cs h e = subst (λ o. sort_fault (or_empty o) ≡ None) e h.0
only_sorted (a ∷ b ∷ later) cs h e = cc
