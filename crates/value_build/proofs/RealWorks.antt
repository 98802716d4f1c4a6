-- What operators that take Real arguments do with them.
use Rattle.std.proofs.Common.{◌≡◌, List, true, false, Some, refl, subst}
use Rattle.std.specs.Prelude.{Result}
use Rattle.script_model.specs.Sexp.{Place}
use Rattle.script_model.specs.Declared.{Bound}
use Rattle.poly_graph.specs.Term.{le, ge}
use Rattle.poly_graph.specs.Views.{kind_of}
use Rattle.poly_graph.specs.declared.node.Kind.{Kind}
use Rattle.poly_graph.specs.declared.node.Kind.TheVariants.{Le, Ge, Eq}
use Rattle.sort_check.specs.Views.{operator_of}
use Rattle.sort_check.specs.declared.operators.Operator.{Operator}
use Rattle.sort_check.specs.declared.operators.Operator.TheVariants as op
use Rattle.term_build.specs.Built.{BuilderModel}
use Rattle.term_build.specs.Sketch.{SketchNode}
use Rattle.term_build.specs.declared.stop.Stop.{Stop}
use Rattle.value_build.specs.Arithmetic.{operator_of_step}
use Rattle.value_build.specs.Arms.{SaysAll}
use Rattle.value_build.specs.Making.{making}
use Rattle.value_build.specs.Operators.{ArmsDo, are_arms, are_real}
use Rattle.value_build.specs.RealWork.{real_work}
use Rattle.value_build.specs.declared.arithmetic.Step.{Step}
use Rattle.value_build.specs.declared.arithmetic.Step.TheVariants.{Add, Subtract, Multiply, Divide}
use Rattle.value_build.specs.declared.chains.Spread.{Spread}
use Rattle.value_build.specs.declared.chains.Spread.TheVariants.{Next, Later}
use Rattle.value_build.specs.declared.operate.RealWork.TheVariants.{Calculate, Compare}
use Rattle.value_build.specs.declared.value.Value.{Value}
use Rattle.value_build.proofs.Joining.{chain_says, differ_arms, equal_arms}

-- an operator that calculates with Real arguments is that of its steps
pub calculates_as : (o : Operator) (s : Step) → real_work o ≡ Some (Calculate s) → operator_of_step s ≡ operator_of o
calculates_as op.True s e = cc
calculates_as op.False s e = cc
calculates_as op.Not s e = cc
calculates_as op.And s e = cc
calculates_as op.Or s e = cc
calculates_as op.Implies s e = cc
calculates_as op.Xor s e = cc
calculates_as op.Equal s e = cc
calculates_as op.Distinct s e = cc
calculates_as op.Choice s e = cc
calculates_as op.Minus s e = let i : Subtract ≡ s = cc in subst (λ x. operator_of_step x ≡ operator_of op.Minus) i refl
calculates_as op.Plus s e = let i : Add ≡ s = cc in subst (λ x. operator_of_step x ≡ operator_of op.Plus) i refl
calculates_as op.Times s e = let i : Multiply ≡ s = cc in subst (λ x. operator_of_step x ≡ operator_of op.Times) i refl
calculates_as op.Divide s e = let i : Divide ≡ s = cc in subst (λ x. operator_of_step x ≡ operator_of op.Divide) i refl
calculates_as op.AtMost s e = cc
calculates_as op.Below s e = cc
calculates_as op.AtLeast s e = cc
calculates_as op.Above s e = cc

compared_so : (m m' : BuilderModel) (ds ds' : List SketchNode) (lists lists' : List (List Bound)) (at : Place) (vs : List Value) (r : Result Value Stop) (k : Kind) (s : Spread) (k' : Kind) (s' : Spread) →
    Compare k' s' ≡ Compare k s → SaysAll (making m ds lists) (making m' ds' lists') s (kind_of k) at vs r → SaysAll (making m ds lists) (making m' ds' lists') s' (kind_of k') at vs r
compared_so m m' ds ds' lists lists' at vs r k s k' s' e h =
    let i : k ≡ k' = cc in let j : s ≡ s' = cc in
    subst (λ x. SaysAll (making m ds lists) (making m' ds' lists') s' (kind_of x) at vs r) i (subst (λ x. SaysAll (making m ds lists) (making m' ds' lists') x (kind_of k) at vs r) j h)

-- what comparisons say of values that hold an `ite` is what the operator says
pub comparing_arms : (m m' : BuilderModel) (ds ds' : List SketchNode) (lists lists' : List (List Bound)) (at : Place) (vs : List Value) (r : Result Value Stop) (o : Operator) (k : Kind) (s : Spread) →
    real_work o ≡ Some (Compare k s) → are_arms vs ≡ true → are_real vs ≡ false → SaysAll (making m ds lists) (making m' ds' lists') s (kind_of k) at vs r → ArmsDo (making m ds lists) (making m' ds' lists') at (operator_of o) vs r
comparing_arms m m' ds ds' lists lists' at vs r op.True k s e a b h = cc
comparing_arms m m' ds ds' lists lists' at vs r op.False k s e a b h = cc
comparing_arms m m' ds ds' lists lists' at vs r op.Not k s e a b h = cc
comparing_arms m m' ds ds' lists lists' at vs r op.And k s e a b h = cc
comparing_arms m m' ds ds' lists lists' at vs r op.Or k s e a b h = cc
comparing_arms m m' ds ds' lists lists' at vs r op.Implies k s e a b h = cc
comparing_arms m m' ds ds' lists lists' at vs r op.Xor k s e a b h = cc
comparing_arms m m' ds ds' lists lists' at vs r op.Equal k s e a b h = let i : Compare Eq Next ≡ Compare k s = cc in let h' : SaysAll (making m ds lists) (making m' ds' lists') Next (kind_of Eq) at vs r = compared_so m m' ds ds' lists lists' at vs r k s Eq Next i h in equal_arms m m' ds ds' lists lists' at vs r a h'
comparing_arms m m' ds ds' lists lists' at vs r op.Distinct k s e a b h = let i : Compare Eq Later ≡ Compare k s = cc in let h' : SaysAll (making m ds lists) (making m' ds' lists') Later (kind_of Eq) at vs r = compared_so m m' ds ds' lists lists' at vs r k s Eq Later i h in differ_arms m m' ds ds' lists lists' at vs r a b h'
comparing_arms m m' ds ds' lists lists' at vs r op.Choice k s e a b h = cc
comparing_arms m m' ds ds' lists lists' at vs r op.Minus k s e a b h = cc
comparing_arms m m' ds ds' lists lists' at vs r op.Plus k s e a b h = cc
comparing_arms m m' ds ds' lists lists' at vs r op.Times k s e a b h = cc
comparing_arms m m' ds ds' lists lists' at vs r op.Divide k s e a b h = cc
comparing_arms m m' ds ds' lists lists' at vs r op.AtMost k s e a b h = let i : Compare Le Next ≡ Compare k s = cc in let h' : SaysAll (making m ds lists) (making m' ds' lists') Next (kind_of Le) at vs r = compared_so m m' ds ds' lists lists' at vs r k s Le Next i h in (λ us bs g t. chain_says m m' ds ds' lists lists' le at vs r h' us bs g)
comparing_arms m m' ds ds' lists lists' at vs r op.Below k s e a b h = let i : Compare Le Next ≡ Compare k s = cc in let h' : SaysAll (making m ds lists) (making m' ds' lists') Next (kind_of Le) at vs r = compared_so m m' ds ds' lists lists' at vs r k s Le Next i h in (λ us bs g t. chain_says m m' ds ds' lists lists' le at vs r h' us bs g)
comparing_arms m m' ds ds' lists lists' at vs r op.AtLeast k s e a b h = let i : Compare Ge Next ≡ Compare k s = cc in let h' : SaysAll (making m ds lists) (making m' ds' lists') Next (kind_of Ge) at vs r = compared_so m m' ds ds' lists lists' at vs r k s Ge Next i h in (λ us bs g t. chain_says m m' ds ds' lists lists' ge at vs r h' us bs g)
comparing_arms m m' ds ds' lists lists' at vs r op.Above k s e a b h = let i : Compare Ge Next ≡ Compare k s = cc in let h' : SaysAll (making m ds lists) (making m' ds' lists') Next (kind_of Ge) at vs r = compared_so m m' ds ds' lists lists' at vs r k s Ge Next i h in (λ us bs g t. chain_says m m' ds ds' lists lists' ge at vs r h' us bs g)
