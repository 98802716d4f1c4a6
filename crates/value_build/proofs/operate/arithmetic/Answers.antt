use Rattle.std.proofs.Common.{map, subst}
use Rattle.smt_sexp.specs.Views.{place_of}
use Rattle.script_forms.specs.Unfolded.{unfolded_operation}
use Rattle.script_forms.specs.Work.{operation_events}
use Rattle.term_build.specs.Built.{stand_of}
use Rattle.term_build.specs.Pairs.{trees_at}
use Rattle.term_build.specs.Shapes.{sketch_of}
use Rattle.term_build.specs.Steps.{IsTreeOf}
use Rattle.value_build.specs.Arithmetic.{operator_of_step}
use Rattle.value_build.proofs.Operating.{arithmetic_done, arithmetic_stopped, emits_sketch}
use Rattle.std.specs.Prelude.{Ok, Err}
use Rattle.value_build.specs.Making.{Making, making}
use Rattle.value_build.specs.Operators.{RealsDo}
use Rattle.value_build.specs.declared.value.Value.TheVariants as values
use Rattle.value_build.proofs.operate.arithmetic.Goals as goal

pub returns-in-Ok-clause-does : goal.returns-in-Ok-clause-does
returns-in-Ok-clause-does c = subst (λ (x : Making). RealsDo x (making c.calculate.new.builder (map sketch_of c.maker.inside.sketch.items) c.maker.inside.bounds) (place_of c.args.at) (operator_of_step c.args.step) c.args.nodes.now (Ok (values.Real c.in-Ok.node))) c.maker.view_is
    (arithmetic_done c.args.step (place_of c.args.at) c.maker.inside.builder c.calculate.new.builder (map sketch_of c.maker.inside.sketch.items) c.maker.inside.bounds c.args.nodes.now c.in-Ok.node c.in-Ok.ensures.does)

pub returns-in-Err-clause-does : goal.returns-in-Err-clause-does
returns-in-Err-clause-does c = let us = trees_at (stand_of c.maker.inside.builder).trees c.args.nodes.now in let op = operator_of_step c.args.step in
    subst (λ (x : Making). RealsDo x (making c.calculate.new.builder (map sketch_of c.give_up.new.sketch.items) c.maker.inside.bounds) (place_of c.args.at) op c.args.nodes.now (Err c.in-Err.stop)) c.maker.view_is
    (arithmetic_stopped c.args.step (place_of c.args.at) c.maker.inside.builder c.calculate.new.builder (map sketch_of c.maker.inside.sketch.items) (map sketch_of c.give_up.new.sketch.items) c.maker.inside.bounds c.args.nodes.now c.in-Err.stop (IsTreeOf c.calculate.new.builder (unfolded_operation (place_of c.args.at) op us)) c.in-Err.ensures.does)

pub invariant_of-maker : goal.invariant_of-maker
invariant_of-maker c = let us = trees_at (stand_of c.maker.inside.builder).trees c.args.nodes.now in let op = operator_of_step c.args.step in
    emits_sketch (IsTreeOf c.calculate.new.builder (unfolded_operation (place_of c.args.at) op us)) c.maker.inside.builder c.calculate.new.builder (map sketch_of c.maker.inside.sketch.items) (operation_events (place_of c.args.at) op us) c.in-Ok.node c.in-Ok.ensures.does c.in-Ok.ensures.sorts c.maker.invariant
