use Rattle.std.proofs.Common.{ℕ, List, ◌++◌, ap, sym, ◌∙◌, append_assoc, append-nil, replicate}
use Rattle.value_build.specs.Groups.{expanded}
use Rattle.value_build.specs.declared.gather.Group.{Group}
use Rattle.value_build.proofs.Folds.{nil_of}
use Rattle.value_build.proofs.gather.expand.Goals as goal

pub loop-group-preserved : goal.loop-group-preserved
loop-group-preserved c = let g = c.in-Some.group.now in let later = c.in-Some.later.now in
    c.loop-group.invariant ∙ ap (λ (gs : List Group). c.loop-group.factors.items ++ expanded gs) c.in-Some.ensures.cases.0
    ∙ sym (append_assoc c.loop-group.factors.items (replicate g.times g.factor) (expanded later))
    ∙ ap (λ (ks : List ℕ). ks ++ expanded later) (sym c.in_ok-append.ensures)

pub returns : goal.returns
returns c = sym (c.loop-group.invariant ∙ ap (λ (gs : List Group). c.loop-group.factors.items ++ expanded gs) (nil_of c.loop-group.left.now c.in_default.ensures.cases) ∙ append-nil c.loop-group.factors.items)
