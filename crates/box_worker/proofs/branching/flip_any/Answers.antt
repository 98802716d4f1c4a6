use Rattle.std.proofs.Common.{◌∙◌, subst, false, below_more}
use Rattle.cover_model.specs.Rules.{flip}
use Rattle.cover_rule.specs.Models.{PatchModel}
use Rattle.cover_rule.specs.Refusals.{flip_refusal, ended_with}
use Rattle.box_worker.specs.Attempts.{Attempts}
use Rattle.box_worker.proofs.Going.{refused}
use Rattle.box_worker.proofs.Parts.{flip_refused}
use Rattle.box_worker.proofs.branching.flip_any.Goals as goal

pub loop-axis-preserved : goal.loop-axis-preserved
loop-axis-preserved c =
    let P = c.loop-axis.patch in let Q = c.flip.new.patch in let i = c.loop-axis.axis in let e = c.loop-axis.invariant.same in
    let a : Attempts (flip_refusal P i) P (ended_with P (flip i)) Q false = refused (flip_refusal P i) P (ended_with P (flip i)) Q c.flip.result c.if-flip.false c.flip.ensures in
    let P' = c.args.patch.now in
    record {
      same = a.1 ∙ e;
      none = below_more _ _ c.loop-axis.invariant.none (flip_refused P' Q (ended_with P' (flip i)) i c.requires.due
          (subst (λ (X : PatchModel). Attempts (flip_refusal X i) X (ended_with X (flip i)) Q false) e a));
    }
