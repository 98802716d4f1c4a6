use Rattle.std.proofs.Common.{length, ap, sym, ◌∙◌}
use Rattle.problem_session.specs.Changes.{no_parts}
use Rattle.problem_session.proofs.Changed.{length_problems}
use Rattle.problem_session.proofs.session.Session.len.Goals as goal

pub returns : goal.returns
returns c = c.len.ensures ∙ c.self.inside.checks.ok.0 ∙ sym (length_problems no_parts c.self.inside.checks.items) ∙ ap length c.self.view_is
