use Rattle.std.proofs.Common.{inl, inr, refl, sym, ◌∙◌}
use Rattle.ival.proofs.Equality.{same_interval}
use Rattle.hc4.proofs.push.pass.Goals as goal

pub returns-then-eq-clause-all : goal.returns-then-eq-clause-all
returns-then-eq-clause-all c s = inr (same_interval c.args.narrowed c.get.result (sym c.eq.ensures ∙ c.if-eq.true) ∙ c.get.ensures, refl)

pub returns-clause-all : goal.returns-clause-all
returns-clause-all c s = inl (c.push.ensures.all s)
