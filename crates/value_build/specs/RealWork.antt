-- What an operator does with Real arguments.
use Rattle.std.specs.Prelude.{Option, Some, None}
use Rattle.poly_graph.specs.declared.node.Kind.TheVariants.{Le, Ge, Eq}
use Rattle.sort_check.specs.declared.operators.Operator.{Operator}
use Rattle.sort_check.specs.declared.operators.Operator.TheVariants as op
use Rattle.value_build.specs.declared.arithmetic.Step.TheVariants.{Add, Subtract, Multiply, Divide}
use Rattle.value_build.specs.declared.chains.Spread.TheVariants.{Next, Later}
use Rattle.value_build.specs.declared.operate.RealWork.{RealWork}
use Rattle.value_build.specs.declared.operate.RealWork.TheVariants.{Calculate, Compare}

-- a step of arithmetic, or comparisons of this kind of the arguments that belong together
abbrev pub real_work : Operator → Option RealWork
real_work op.Minus = Some (Calculate Subtract)
real_work op.Plus = Some (Calculate Add)
real_work op.Times = Some (Calculate Multiply)
real_work op.Divide = Some (Calculate Divide)
real_work op.AtMost = Some (Compare Le Next)
real_work op.Below = Some (Compare Le Next)
real_work op.AtLeast = Some (Compare Ge Next)
real_work op.Above = Some (Compare Ge Next)
real_work op.Equal = Some (Compare Eq Next)
real_work op.Distinct = Some (Compare Eq Later)
real_work _ = None
