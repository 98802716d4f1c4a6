use Rattle.std.proofs.Common.{List, [], ◌∷◌, ◌++◌, map, sym, subst}
use Rattle.script_model.specs.Reading.{value}
use Rattle.script_forms.specs.Work.{outcome_of}
use Rattle.value_build.specs.Values.{AreKnown, AreValues}
use Rattle.value_build.specs.declared.value.Value.{Value}
use Rattle.problem_build.specs.Names.{AreLocals}
use Rattle.problem_build.specs.Walking.{CallWaits, LetWaits, Waits, KnowsValues}
use Rattle.problem_build.specs.declared.locals.Local.{Local}
use Rattle.problem_build.specs.declared.frames.Frame.{Frame}
use Rattle.problem_build.proofs.Waiting as waiting
use Rattle.problem_build.proofs.frames.resume.Goals as goal

pub call_on-requires : goal.call_on-requires
call_on-requires c =
    let vs = c.in-Call.call.values.items in
    let held : AreKnown c.args.maker.now vs = subst (λ (f : Frame). KnowsValues c.args.maker.now f) c.in-Call.is c.requires.others in
    subst (λ (xs : List Value). AreKnown c.args.maker.now xs) (sym c.in_ok-push-in-Call.ensures.items) (waiting.known_last c.args.maker.now c.args.value vs c.requires.known held)

pub returns-in_ok-push-in-Call-clause-walks : goal.returns-in_ok-push-in-Call-clause-walks
returns-in_ok-push-in-Call-clause-walks c = λ top u d w b waits i.
    let m = c.args.maker.now in
    let s = c.args.sexps.now in
    let h : CallWaits m s top c.in-Call.call u d w b = subst (λ (f : Frame). Waits m s top f u d w b) c.in-Call.is waits in
    c.call_on.ensures.walks top w b (record {
      names = h.names;
      bnames = h.bnames;
      knows = h.knows;
      done = h.done ++ (h.here ∷ []);
      bounded = h.bounded ++ (d ∷ []);
      values = subst (λ (xs : List Value). AreValues m (map outcome_of (h.done ++ (h.here ∷ []))) (h.bounded ++ (d ∷ [])) xs) (sym c.in_ok-push-in-Call.ensures.items)
          (waiting.call_back m s top c.in-Call.call u d w b c.args.value h i);
      call = h.call;
    })

pub returns-in_ok-push-in-Let-clause-walks : goal.returns-in_ok-push-in-Let-clause-walks
returns-in_ok-push-in-Let-clause-walks c = λ top u d w b waits i.
    let m = c.args.maker.now in
    let s = c.args.sexps.now in
    let l = c.in-Let.bindings in
    let x = c.in-Let.name in
    let h : LetWaits m s top l x.now u d w b = subst (λ (f : Frame). Waits m s top f u d w b) c.in-Let.is waits in
    c.let_on.ensures m top w b (record {
      names = h.names;
      bnames = h.bnames;
      knows = h.knows;
      done = h.done ++ ((x.now, value h.here) ∷ []);
      bounded = h.bounded ++ ((x.now, value d) ∷ []);
      stand = subst (λ (xs : List Local). AreLocals m xs (h.done ++ ((x.now, value h.here) ∷ [])) (h.bounded ++ ((x.now, value d) ∷ []))) (sym c.in_ok-push-in-Let.ensures.added)
          (waiting.let_back m s top l x u d w b c.args.value h i);
      binds = h.binds;
    })
