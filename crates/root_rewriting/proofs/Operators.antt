-- What operators and `sqrt` make of their arguments.
use Rattle.std.proofs.Common.{◌≡◌, ℕ, List, refl}
use Rattle.script_model.specs.Sexp.{Place}
use Rattle.script_roots.specs.Tree.{Tree, applied, trees_of, operator_tree}
use Rattle.sort_check.specs.Views.{operator_of}
use Rattle.sort_check.specs.declared.operators.Operator.{Operator}
use Rattle.sort_check.specs.declared.operators.Operator.TheVariants as op

pub operator_other : (at : Place) (x : List ℕ) (ts : List Tree) (o : Operator) → (o ≡ op.Divide → ⊥) → operator_tree at x (operator_of o) ts ≡ applied at x (trees_of ts)
operator_other at x ts op.True f = refl
operator_other at x ts op.False f = refl
operator_other at x ts op.Not f = refl
operator_other at x ts op.And f = refl
operator_other at x ts op.Or f = refl
operator_other at x ts op.Implies f = refl
operator_other at x ts op.Xor f = refl
operator_other at x ts op.Equal f = refl
operator_other at x ts op.Distinct f = refl
operator_other at x ts op.Choice f = refl
operator_other at x ts op.Minus f = refl
operator_other at x ts op.Plus f = refl
operator_other at x ts op.Times f = refl
operator_other at x ts op.Divide f = elim (f refl) [ ]
operator_other at x ts op.AtMost f = refl
operator_other at x ts op.Below f = refl
operator_other at x ts op.AtLeast f = refl
operator_other at x ts op.Above f = refl
