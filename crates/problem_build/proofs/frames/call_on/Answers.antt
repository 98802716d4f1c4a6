use Rattle.std.proofs.Common.{List, map, sym, subst}
use Rattle.script_forms.specs.Work.{outcome_of}
use Rattle.value_build.specs.Values.{AreValues}
use Rattle.value_build.specs.declared.value.Value.{Value}
use Rattle.problem_build.proofs.Turns as turns
use Rattle.problem_build.proofs.Waiting as waiting
use Rattle.problem_build.proofs.frames.call_on.Goals as goal

pub returns-in-Some-clause-walks : goal.returns-in-Some-clause-walks
returns-in-Some-clause-walks c = λ top w b h.
    turns.goes_none c.args.sexps.now top c.args.maker.now w b _
    (waiting.call_next c.args.maker.now c.args.sexps.now top c.args.call w b h c.in-Some.after c.in_ok-scope-in-Some.scope c.in-Some.ensures.0 c.in_ok-scope-in-Some.ensures)

pub returns-clause-walks : goal.returns-clause-walks
returns-clause-walks c = λ top w b h.
    waiting.call_last c.args.maker.now c.args.sexps.now top c.args.call w b h c.called.new.maker c.called.result c.in-None.ensures
    (c.called.ensures.walks c.args.sexps.now top h.done h.bounded
    (subst (λ (vs : List Value). AreValues c.args.maker.now (map outcome_of h.done) h.bounded vs) (sym c.as_slice.ensures.value) h.values))
