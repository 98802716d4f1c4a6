use Rattle.std.proofs.Common.{subst}
use Rattle.dyadic.specs.Point.{bool_sort, real_sort}
use Rattle.poly_graph.specs.Problem.{HasSort}
use Rattle.term_build.specs.Built.{BuilderModel}
use Rattle.value_build.proofs.Leaf.{names_real, names_switch}
use Rattle.value_build.proofs.maker.Maker.constant.Goals as goal

pub real-requires : goal.real-requires
real-requires c = subst (λ (m : BuilderModel). HasSort real_sort m.sorts c.args.axis) c.builder.ensures c.in-Real.ensures

pub switch-requires : goal.switch-requires
switch-requires c = subst (λ (m : BuilderModel). HasSort bool_sort m.sorts c.args.axis) c.builder.ensures c.in-Bool.ensures

pub returns-in-Real-clause-does : goal.returns-in-Real-clause-does
returns-in-Real-clause-does c = names_real c.args.self.now c.real.new.maker c.args.axis c.real.result (subst (λ (m : BuilderModel). HasSort real_sort m.sorts c.args.axis) c.builder.ensures c.in-Real.ensures) c.real.ensures.does

pub returns-in-Bool-clause-does : goal.returns-in-Bool-clause-does
returns-in-Bool-clause-does c = names_switch c.args.self.now c.switch.new.maker c.args.axis c.switch.result (subst (λ (m : BuilderModel). HasSort bool_sort m.sorts c.args.axis) c.builder.ensures c.in-Bool.ensures) c.switch.ensures.does
