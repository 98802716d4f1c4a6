use Rattle.std.proofs.Common.{◌≡◌, ◌∙◌, ap, subst, IsTrue}
use Rattle.interval_model.specs.Space.{Space, is_upright}
use Rattle.cover_model.specs.Space.{IsGridSpace}
use Rattle.cover_model.specs.State.{State}
use Rattle.ival.specs.SpaceViews.{space_of}
use Rattle.cover_rule.proofs.Points.{code_upright, code_on_grid}
use Rattle.box_worker.proofs.facts.space_is_upright.Goals as goal

pub returns : goal.returns
returns c =
    let at : space_of c.space.result.now ≡ c.args.patch.now.kept.reached.space = c.space.ensures ∙ ap (λ (S : State). S.space) c.reached.ensures.state in
    record { grid = subst IsGridSpace at (code_on_grid c.space.result.now); upright = subst (λ (s : Space). IsTrue (is_upright s)) at (code_upright c.space.result.now) }
