use Rattle.std.proofs.Common.{◌∙◌, ap, sym, length}
use Rattle.interval_model.specs.Space.{Space}
use Rattle.cover_model.specs.Narrowed.{enclosures}
use Rattle.cover_rule.proofs.workspace.Workspace.new.Goals as goal

pub returns : goal.returns
returns c = record {
  spare = ap length c.in_ok-spare.ensures ∙ c.requires;
  rows = c.in_ok-rows.ensures ∙ ap (λ (s : Space). enclosures s c.args.problem.now.nodes) (sym c.in_ok-spare.ensures);
  scratch = c.in_ok-scratch.ensures;
  truths = c.in_ok-marks.ensures;
  centre = c.in_ok-centre.ensures;
  room = c.in_ok-room.ensures;
  leaves = c.in_ok-leaves.ensures;
}
