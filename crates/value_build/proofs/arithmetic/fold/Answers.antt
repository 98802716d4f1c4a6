use Rattle.smt_sexp.specs.Views.{place_of}
use Rattle.std.proofs.Common.{subst, sym, List, ℕ, Result}
use Rattle.script_forms.specs.Terms.{steps}
use Rattle.script_forms.specs.Work.{steps_events}
use Rattle.term_build.specs.Built.{stand_of}
use Rattle.term_build.specs.Pairs.{tree_at, trees_at}
use Rattle.term_build.specs.Steps.{Emits, IsTreeOf}
use Rattle.term_build.specs.declared.stop.Stop.{Stop}
use Rattle.term_build.proofs.Emits.{err_is}
use Rattle.value_build.specs.Arithmetic.{IsFolding, tree_of_step, events_of_step}
use Rattle.value_build.proofs.Folds.{fold_begun, fold_first, fold_next, fold_step, fold_stopped, fold_done, nil_of}
use Rattle.value_build.proofs.arithmetic.fold.Goals as goal

pub loop-next-init : goal.loop-next-init
loop-next-init c = fold_begun c.args.step (place_of c.args.at) c.args.builder.now c.args.first c.args.rest.now c.requires.first c.requires.rest

pub apply-requires-clause-first : goal.apply-requires-clause-first
apply-requires-clause-first c = fold_first c.args.step (place_of c.args.at) c.args.builder.now c.loop-next.builder c.args.first c.args.rest.now c.loop-next.so_far c.loop-next.left.now c.loop-next.invariant

pub apply-requires-clause-second : goal.apply-requires-clause-second
apply-requires-clause-second c = fold_next c.args.step (place_of c.args.at) c.args.builder.now c.loop-next.builder c.args.first c.args.rest.now c.loop-next.so_far c.in-Some.next.now c.in-Some.later.now
    (subst (λ (ks : List ℕ). IsFolding c.args.step (place_of c.args.at) c.args.builder.now c.loop-next.builder c.args.first c.args.rest.now c.loop-next.so_far ks) c.in-Some.ensures.cases.0 c.loop-next.invariant)

pub returns-in_err-so_far-clause-does : goal.returns-in_err-so_far-clause-does
returns-in_err-so_far-clause-does c = let f = tree_of_step c.args.step (place_of c.args.at) in let g = events_of_step c.args.step (place_of c.args.at) in let ts = (stand_of c.args.builder.now).trees in
    let P : ℕ → Type 0 = IsTreeOf c.apply.new.builder (steps f (tree_at ts c.args.first) (trees_at ts c.args.rest.now)) in
    subst (λ (r : Result ℕ Stop). Emits c.args.builder.now c.apply.new.builder (steps_events f g (tree_at ts c.args.first) (trees_at ts c.args.rest.now)) r P) (sym (err_is c.from_residual.result c.in_err-so_far.field-0.0 c.from_residual.ensures))
    (fold_stopped P c.args.step (place_of c.args.at) c.args.builder.now c.loop-next.builder c.apply.new.builder c.args.first c.args.rest.now c.loop-next.so_far c.in-Some.next.now c.in_err-so_far.field-0.0 c.in-Some.later.now
    (subst (λ (ks : List ℕ). IsFolding c.args.step (place_of c.args.at) c.args.builder.now c.loop-next.builder c.args.first c.args.rest.now c.loop-next.so_far ks) c.in-Some.ensures.cases.0 c.loop-next.invariant)
    c.in_err-so_far.ensures.does)

pub loop-next-preserved : goal.loop-next-preserved
loop-next-preserved c = fold_step c.args.step (place_of c.args.at) c.args.builder.now c.loop-next.builder c.apply.new.builder c.args.first c.args.rest.now c.loop-next.so_far c.in-Some.next.now c.in_ok-so_far.so_far c.in-Some.later.now
    (subst (λ (ks : List ℕ). IsFolding c.args.step (place_of c.args.at) c.args.builder.now c.loop-next.builder c.args.first c.args.rest.now c.loop-next.so_far ks) c.in-Some.ensures.cases.0 c.loop-next.invariant)
    c.in_ok-so_far.ensures.does c.in_ok-so_far.ensures.sorts

pub returns-clause-does : goal.returns-clause-does
returns-clause-does c = fold_done c.args.step (place_of c.args.at) c.args.builder.now c.loop-next.builder c.args.first c.args.rest.now c.loop-next.so_far
    (subst (λ (ks : List ℕ). IsFolding c.args.step (place_of c.args.at) c.args.builder.now c.loop-next.builder c.args.first c.args.rest.now c.loop-next.so_far ks) (nil_of c.loop-next.left.now c.in_default.ensures.cases) c.loop-next.invariant)
