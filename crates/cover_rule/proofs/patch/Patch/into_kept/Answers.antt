use Rattle.std.proofs.Common.{◌∙◌, ap, sym, subst, length}
use Rattle.poly_graph.specs.ProblemViews.{problem_of}
use Rattle.interval_model.specs.Space.{Space}
use Rattle.cover_model.specs.Narrowed.{enclosures}
use Rattle.cover_rule.specs.Models.{PatchModel}
use Rattle.cover_rule.specs.Serves.{IsFilled}
use Rattle.cover_rule.proofs.Axes.{fits_length}
use Rattle.cover_rule.proofs.patch.Patch.into_kept.Goals as goal

pub returns-clause-filled : goal.returns-clause-filled
returns-clause-filled c =
    let i = c.self.inside in let h = c.self.invariant in let s = i.kept.reached.space in
    subst (λ (P : PatchModel). IsFilled P.problem i.work) c.self.view_is (record {
      spare = ap length h.ready.spare ∙ fits_length (problem_of i.problem.now).axes s h.run.sound.reached.axes;
      rows = h.ready.serves.rows ∙ ap (λ (t : Space). enclosures t i.problem.now.nodes) (sym h.ready.spare);
      scratch = h.ready.serves.scratch;
      truths = h.ready.serves.truths;
      centre = h.ready.serves.centre.room;
      room = h.ready.serves.room;
      leaves = h.ready.serves.leaves;
    })
