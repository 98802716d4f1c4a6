use Rattle.std.proofs.Common.{Vec, Global, ℕ, ap, ◌∙◌}
use Rattle.check_run.proofs.Texts.{apart_is}
use Rattle.check_run.proofs.joined.not_joined_at.Goals as goal

pub returns : goal.returns
returns c = apart_is c.args.number c.args.line c.into_bytes.result.items (ap (λ (v : Vec ℕ Global). v.items) c.into_bytes.ensures.value ∙ c.in_ok-text.ensures.ok)
