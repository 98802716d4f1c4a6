use Rattle.std.proofs.Common.{◌≡◌, ℕ, suc, ◌+◌, [], ◌∷◌, ◌++◌, List, map, take, get_or, arith, sym, ap, ◌∙◌}
use Rattle.std.proofs.Math.Seq.{take-suc}
use Rattle.std.proofs.lemmas.List.{map-append}
use Rattle.cover_model.specs.Rules.{Line}
use Rattle.cover_data.specs.declared.step.Step.{Step}
use Rattle.cover_data.specs.Views.{step_line}
use Rattle.box_worker.proofs.learn.copies_of_steps.Goals as goal

pub loop-step-preserved : goal.loop-step-preserved
loop-step-preserved c =
    let n : ℕ = c.loop-step.step-index in let xs : List Step = c.args.steps.now in let s : Step = c.step-item.result in let x : Step = c.in_ok-try_clone.field-0 in
    let before : List Line = map step_line (take n xs) in
    let next : suc n ≡ n + 1 = omega arith in
    ap (map step_line) c.in_ok-push.ensures.items ∙ map-append step_line c.loop-step.all.items (x ∷ [])
    ∙ ap (λ (ys : List Line). ys ++ (step_line x ∷ [])) c.loop-step.invariant
    ∙ ap (λ (l : Line). before ++ (l ∷ [])) c.in_ok-try_clone.ensures
    ∙ ap (λ (t : Step). before ++ (step_line t ∷ [])) c.step-item.is
    ∙ sym (map-append step_line (take n xs) (get_or xs n s ∷ []))
    ∙ ap (map step_line) (sym (take-suc xs n s c.loop-step-test.true))
    ∙ ap (λ (k : ℕ). map step_line (take k xs)) next
