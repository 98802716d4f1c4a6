use Rattle.std.proofs.Common.{◌∙◌}
use Rattle.ival.specs.SpaceViews.{space_of}
use Rattle.cover_rule.proofs.Knowns.{noted}
use Rattle.cover_rule.proofs.narrowing.narrow_spare.Goals as goal

pub returns-clause-work : goal.returns-clause-work
returns-clause-work c =
    let w = c.narrow_by-narrowed.ensures.work in let old = c.narrow_by-narrowed.new.work in
    record {
      rows = w.rows;
      scratch = w.scratch;
      truths = w.truths;
      centre = w.centre;
      room = w.room;
      leaves = c.note.ensures.count ∙ w.leaves;
      known = noted c.args.problem.now c.args.margins.now c.args.state.now (space_of old.spare) c.narrow_by-narrowed.result c.args.j old.leaves.items c.note.new.leaves.items old.unsure c.narrow_by-narrowed.ensures.narrowed
          c.note.ensures.none c.note.ensures.some w.known;
      voiding = w.voiding;
    }
