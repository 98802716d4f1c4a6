use Rattle.std.proofs.Common.{sym, ap, ◌∙◌, Vec, Global, ℕ}
use Rattle.cert_join.proofs.Passing.{there_at}
use Rattle.cert_join.proofs.Sorting.{sorted_all, sorted_grown, sorted_left}
use Rattle.cert_join.proofs.trees.sorted.Goals as goal
use Rattle.cert_join.proofs.trees.sorted.Goals.{then-stays+in_ok-push, else-stays+in_ok-push-2}

pub loop-part-init : goal.loop-part-init
loop-part-init c = λ place e there next. (c.new-grown.ensures.items, c.new-left.ensures.items)

pub loop-part-preserved : goal.loop-part-preserved
loop-part-preserved c = λ place e there next.
    let at = there_at _ _ _ c.loop-part-test.true there in
    elim c.if-stays.branch [
      | then-stays+in_ok-push w ↦
          let m = sorted_left place _ _ _ _ c.loop-part-test.true e next at (c.left_at-kind.ensures at) _ _ (c.loop-part.invariant place e there next) (sym c.stays.ensures ∙ w.if-stays.true) in
          (ap (λ (v : Vec ℕ Global). v.items) w.grown-is ∙ m.0, ap (λ (v : Vec ℕ Global). v.items) w.left-is ∙ w.in_ok-push.ensures.items ∙ m.1)
      | else-stays+in_ok-push-2 w ↦
          let m = sorted_grown place _ _ _ _ c.loop-part-test.true e next at (c.left_at-kind.ensures at) _ _ (c.loop-part.invariant place e there next) (sym c.stays.ensures ∙ w.if-stays.false) in
          (ap (λ (v : Vec ℕ Global). v.items) w.grown-is ∙ w.in_ok-push-2.ensures.items ∙ m.0, ap (λ (v : Vec ℕ Global). v.items) w.left-is ∙ m.1)
    ]

pub returns : goal.returns
returns c = λ place e there next. sorted_all _ _ _ _ _ e c.loop-part-test.false (c.loop-part.invariant place e there next)
