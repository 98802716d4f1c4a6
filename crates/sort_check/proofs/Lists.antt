-- Lists of names and of sorts.
use Rattle.std.proofs.Common.{◌≡◌, ℕ, List, [], ◌∷◌, ◌++◌, Bool, true, false, refl, ap, ◌∙◌, arith}
use Rattle.std.specs.Prelude.{◌||◌, ◌<◌, ◌≤◌, ◌-◌, take, drop, slice_get, Option, Some, None, length, option_map, is_some}
use Rattle.std.specs.Str.{bytes_eq}
use Rattle.script_model.specs.Reading.{Names, Operator}
use Rattle.script_model.specs.Script.{Parameter}
use Rattle.smt_script.specs.declared.command.Sort as code_sort
use Rattle.smt_script.specs.declared.command.Parameter as code_parameter
use Rattle.sort_check.specs.declared.operators.Operator as code_operator
use Rattle.sort_check.specs.Sorts.{Sorted, is_operator, name_in, first_ill}
use Rattle.sort_check.specs.Views.{around, names_back, names_of, operator_of, sorts_seen}

among : (a b c : Bool) → (b || (a || c)) ≡ ((a || b) || c)
among true true c = refl
among true false c = refl
among false true c = refl
among false false c = refl

pub name_in-back : (x : List ℕ) (ps : List Parameter) (before : List (List ℕ)) → name_in x (names_back ps before) ≡ (name_in x (names_of ps) || name_in x before)
name_in-back x [] before = refl
name_in-back x (p ∷ ps) before = name_in-back x ps (p.name ∷ before) ∙ among (bytes_eq x p.name) (name_in x (names_of ps)) (name_in x before)

pub back-last : (ps : List Parameter) (p : Parameter) (before : List (List ℕ)) → names_back (ps ++ p ∷ []) before ≡ p.name ∷ names_back ps before
back-last [] p before = refl
back-last (q ∷ ps) p before = back-last ps p (q.name ∷ before)

-- sorts without a fault, before others
pub first_ill-seen : (ss : List code_sort.Sort) (rest : List Sorted) → first_ill (sorts_seen ss ++ rest) ≡ first_ill rest
first_ill-seen [] rest = refl
first_ill-seen (s ∷ ss) rest = first_ill-seen ss rest

pub first_ill-none : (ss : List code_sort.Sort) → first_ill (sorts_seen ss) ≡ None
first_ill-none [] = refl
first_ill-none (s ∷ ss) = first_ill-none ss

or_false : (b : Bool) → (b || false) ≡ b
or_false true = refl
or_false false = refl

pub name_in_all : (x : List ℕ) (ps : List Parameter) → name_in x (names_back ps []) ≡ name_in x (names_of ps)
name_in_all x ps = name_in-back x ps [] ∙ or_false (name_in x (names_of ps))

pub around_none : (ls : List code_parameter.Parameter) (names : Names Sorted) → length ls < 1 → around ls names ≡ names
around_none [] names h = refl
around_none (l ∷ ls) names h = absurd (omega (arith, h))

pub operator_is : (o : Option code_operator.Operator) (f : Option Operator) → option_map operator_of o ≡ f → is_some o ≡ is_operator f
operator_is None f h = ap is_operator h
operator_is (Some o) f h = ap is_operator h

take_whole : {A : Type 0} (xs : List A) → take (length xs) xs ≡ xs
take_whole [] = refl
take_whole (x ∷ xs) = ap (λ ys. x ∷ ys) (take_whole xs)

pub split_first : {A : Type 0} (xs : List A) (x : A) → 1 ≤ length xs → slice_get xs 0 ≡ Some x → xs ≡ x ∷ take (length xs - 1) (drop 1 xs)
split_first [] x h g = absurd (omega (arith, h))
split_first (y ∷ xs) x h g = grind (arith, g, take_whole xs)
