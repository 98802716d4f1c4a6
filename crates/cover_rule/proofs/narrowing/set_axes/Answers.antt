use Rattle.std.proofs.Common.{◌≡◌, ◌<◌, ℕ, ◌∙◌, ap, sym, subst, refl, arith, length, set, true≢false}
use Rattle.cover_model.specs.State.{State, with_space}
use Rattle.ival.specs.SpaceViews.{domain_of, space_of}
use Rattle.cover_rule.proofs.Axes.{blend, blend_next, blend_end, length_blend}
use Rattle.cover_rule.proofs.narrowing.set_axes.Goals as goal
use Rattle.cover_rule.proofs.narrowing.set_axes.Goals.{then-set_axis, else-set_axis}

pub returns-clause-state : goal.returns-clause-state
returns-clause-state c =
    let N = space_of c.args.space.now in let S = c.args.state.now in let s = S.space in
    let e : c.loop-axis.axis ≡ length N = omega (arith, c.loop-axis-test.false, c.loop-axis.auto.axis-end, c.len-axis-end.ensures) in
    c.loop-axis.invariant.state ∙ ap (with_space S) (subst (λ (n : ℕ). blend n N s ≡ N) (sym e) (blend_end N s c.requires))

pub set_axis-requires : goal.set_axis-requires
set_axis-requires c =
    let i = c.loop-axis.axis in let N = space_of c.args.space.now in let s = c.args.state.now.space in
    let e = ap (λ (S : State). length S.space) c.loop-axis.invariant.state in
    omega (arith, c.loop-axis-test.true, c.len-axis-end.ensures, c.requires, e, length_blend i N s)

pub loop-axis-preserved : goal.loop-axis-preserved
loop-axis-preserved c =
    let i = c.loop-axis.axis in let N = space_of c.args.space.now in let S = c.args.state.now in let s = S.space in let d = domain_of c.get.result in
    let h : i < length N = omega (arith, c.loop-axis-test.true, c.len-axis-end.ensures) in
    let k : i < length s = omega (arith, h, c.requires) in
    record {
      state = c.set_axis.ensures.state ∙ ap (λ (X : State). with_space X (set X.space i d)) c.loop-axis.invariant.state ∙ ap (with_space S) (ap (set (blend i N s) i) c.get.ensures ∙ blend_next i N s d h k);
      same = λ f. elim c.if-set_axis.branch [
        | then-set_axis w ↦ absurd (true≢false (sym w.is_changed-is ∙ f))
        | else-set_axis w ↦ w.if-set_axis.ensures.same refl ∙ c.loop-axis.invariant.same (sym w.is_changed-is ∙ f)
      ];
    }
