use Rattle.std.proofs.Common.{◌≡◌, sym, ap, ◌∙◌, subst, Some}
use Rattle.script_model.specs.Reading.{Operator}
use Rattle.smt_sexp.specs.Views.{place_of}
use Rattle.value_build.specs.Operators.{ArmsDo}
use Rattle.value_build.specs.RealWork.{real_work}
use Rattle.value_build.specs.declared.operate.RealWork.{RealWork}
use Rattle.value_build.specs.declared.operate.RealWork.TheVariants.{Calculate, Compare}
use Rattle.value_build.proofs.Joining.{arithmetic_arms}
use Rattle.value_build.proofs.RealWorks.{calculates_as, comparing_arms}
use Rattle.value_build.proofs.operate.over_arms.Goals as goal

pub returns-in-Some-Calculate-clause-does : goal.returns-in-Some-Calculate-clause-does
returns-in-Some-Calculate-clause-does c =
    let step = c.in-Some-Calculate.step in
    let e : real_work c.args.operator ≡ Some (Calculate step) = sym c.real_work.ensures ∙ c.in-Some-Calculate.is ∙ ap (λ (x : RealWork). Some x) c.in-Some-Calculate.field-0-is in
    subst (λ (o : Operator). ArmsDo c.args.maker.now c.calculate_arms.new.maker (place_of c.args.at) o c.args.values.now c.calculate_arms.result) (calculates_as c.args.operator step e)
    (arithmetic_arms c.args.maker.now.made c.calculate_arms.new.maker.made c.args.maker.now.drawn c.calculate_arms.new.maker.drawn c.args.maker.now.bounds c.calculate_arms.new.maker.bounds (place_of c.args.at) step c.args.values.now c.calculate_arms.result c.requires.arms c.requires.held c.calculate_arms.ensures.does)

pub returns-in-Some-Compare-clause-does : goal.returns-in-Some-Compare-clause-does
returns-in-Some-Compare-clause-does c =
    let kind = c.in-Some-Compare.kind in let spread = c.in-Some-Compare.spread in
    let e : real_work c.args.operator ≡ Some (Compare kind spread) = sym c.real_work.ensures ∙ c.in-Some-Compare.is ∙ ap (λ (x : RealWork). Some x) c.in-Some-Compare.field-0-is in
    comparing_arms c.args.maker.now.made c.compare_values.new.maker.made c.args.maker.now.drawn c.compare_values.new.maker.drawn c.args.maker.now.bounds c.compare_values.new.maker.bounds (place_of c.args.at) c.args.values.now c.compare_values.result c.args.operator kind spread e c.requires.arms c.requires.held c.compare_values.ensures.does
