use Rattle.std.proofs.Common.{refl, sym, ◌∙◌}
use Rattle.dpoly.proofs.join.refused.Goals as goal

pub returns-in-Some : goal.returns-in-Some
returns-in-Some c = (c.args.fault, refl, sym c.line_of.ensures ∙ c.in-Some.is)
