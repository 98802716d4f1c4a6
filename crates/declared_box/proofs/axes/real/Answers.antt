use Rattle.std.proofs.Common.{sym, ◌∙◌}
use Rattle.declared_box.proofs.Reals.{real_between_ends}
use Rattle.declared_box.proofs.axes.real.Goals as goal

pub returns : goal.returns
returns c = real_between_ends c.args.ends c.in-Some.low c.in-Some-high.high c.in-Some.is c.in-Some-high.is (sym c.is_too_wide.ensures ∙ c.if-is_too_wide.false) (sym c.is_too_wide-else-is_too_wide.ensures ∙ c.if-is_too_wide-2.false)
