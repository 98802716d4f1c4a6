use Rattle.std.proofs.Common.{ℕ, map, List, Option, Result, subst, sym, refl, arith, length}
use Rattle.std.proofs.lemmas.List.{length-map}
use Rattle.script_forms.specs.Atoms.{atom_of}
use Rattle.script_forms.specs.Work.{form_events}
use Rattle.poly_graph.specs.Form.{form_map}
use Rattle.term_build.specs.Sketch.{sketch_at, IsFormOf}
use Rattle.term_build.specs.Steps.{Emits}
use Rattle.term_build.specs.Shapes.{sketch_of}
use Rattle.term_build.specs.declared.stop.Stop.{Stop}
use Rattle.term_build.proofs.Emits.{err_is}
use Rattle.term_build.proofs.Shaping.{memo_begun, goes_first, goes_last, written_back}
use Rattle.term_build.proofs.Turns.{stacked_first, rooted_first}
use Rattle.term_build.specs.Turns.{IsNumbered}
use Rattle.term_build.proofs.shape.make_form.Goals as goal

pub drain-requires-clause-kept : goal.drain-requires-clause-kept
drain-requires-clause-kept c = memo_begun (map sketch_of c.args.sketch.now) c.args.builder.now c.deref_mut.result.now c.in_ok-memo.memo.items (length c.args.sketch.now) c.deref_mut.ensures.value c.in_ok-memo.ensures (sym (length-map c.args.sketch.now sketch_of))

pub returns-in_err-drain-clause-does : goal.returns-in_err-drain-clause-does
returns-in_err-drain-clause-does c = λ fs drawing. let ds = map sketch_of c.args.sketch.now in let f = sketch_at fs c.args.root in
    subst (λ (r : Result ℕ Stop). Emits c.args.builder.now c.drain.new.builder (form_events f) r (IsFormOf c.drain.new.builder (form_map atom_of f))) (sym (err_is c.from_residual-in_err-drain.result c.in_err-drain.field-0.0 c.from_residual-in_err-drain.ensures))
    (c.in_err-drain.ensures.does c.args.builder.now (form_events f) fs drawing c.requires.sketched
    (goes_first c.args.builder.now fs ds c.deref_mut.result.now c.in_ok-memo.memo.items (length c.args.sketch.now) c.args.root c.push.new.self.items c.new-stack.result.items _ drawing
    (omega (arith, c.requires.rooted, length-map c.args.sketch.now sketch_of)) c.deref_mut.ensures.value c.in_ok-memo.ensures c.in_ok-push.ensures.items c.new-stack.ensures.items refl c.new.ensures.items))

pub returns-clause-does : goal.returns-clause-does
returns-clause-does c = λ fs drawing. let ds = map sketch_of c.args.sketch.now in let f = sketch_at fs c.args.root in
    goes_last c.args.builder.now c.drain.new.builder fs ds c.drain.new.memo c.deref.result.now c.args.root c.number_of.result
    (c.in_ok-drain.ensures.does c.args.builder.now (form_events f) fs drawing c.requires.sketched
    (goes_first c.args.builder.now fs ds c.deref_mut.result.now c.in_ok-memo.memo.items (length c.args.sketch.now) c.args.root c.push.new.self.items c.new-stack.result.items _ drawing
    (omega (arith, c.requires.rooted, length-map c.args.sketch.now sketch_of)) c.deref_mut.ensures.value c.in_ok-memo.ensures c.in_ok-push.ensures.items c.new-stack.ensures.items refl c.new.ensures.items))
    (written_back c.deref.result.now c.drain.new.memo _ _ c.deref.ensures.value (omega (arith, c.deref_mut.ensures.len, c.drain.auto.memo))) c.number_of.ensures

pub drain-requires-clause-nested : goal.drain-requires-clause-nested
drain-requires-clause-nested c = let ds = map sketch_of c.args.sketch.now in
    stacked_first ds c.deref_mut.result.now c.in_ok-memo.memo.items (length c.args.sketch.now) c.args.root c.push.new.self.items c.new-stack.result.items _
    c.deref_mut.ensures.value c.in_ok-memo.ensures (sym (length-map c.args.sketch.now sketch_of)) (omega (arith, c.requires.rooted, length-map c.args.sketch.now sketch_of)) c.in_ok-push.ensures.items c.new-stack.ensures.items refl

pub number_of-requires : goal.number_of-requires
number_of-requires c =
    subst (λ (xs : List (Option ℕ)). IsNumbered xs c.args.root) (sym (written_back c.deref.result.now c.drain.new.memo _ _ c.deref.ensures.value (omega (arith, c.deref_mut.ensures.len, c.drain.auto.memo))))
    (c.in_ok-drain.ensures.rooted c.args.root (rooted_first c.deref_mut.result.now c.args.root c.push.new.self.items c.new-stack.result.items _ c.in_ok-push.ensures.items c.new-stack.ensures.items refl))
