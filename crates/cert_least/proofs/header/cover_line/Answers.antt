use Rattle.std.proofs.Common.{Option, ℕ, sym, subst}
use Rattle.cert_read.specs.CertLine.{CertLine, goal as goal_of}
use Rattle.cert_least.specs.declared.phase.Phase.TheVariants.{Cover}
use Rattle.cert_least.specs.Aims.{aim_next}
use Rattle.cert_least.specs.Judging.{aim_of}
use Rattle.cert_least.specs.Phases.{goal_due}
use Rattle.cert_least.specs.Steps.{IsPhaseOutcome}
use Rattle.cert_least.proofs.header.cover_line.Goals as goal

pub returns-in-Some : goal.returns-in-Some
returns-in-Some c d h e =
    let a = aim_of c.args.aim.now in let w = c.args.scope in let said = c.in-Some.ensures in
    subst (λ (l : CertLine). IsPhaseOutcome a (aim_next a (goal_due (Cover c.args.told w) d) l) c.limit_line.new.checker c.limit_line.result) (sym said.1)
    (subst (λ (k : Option ℕ). IsPhaseOutcome a (aim_next a (goal_due (Cover c.args.told (record { lower = w.lower; bits = k })) d) (goal_of c.in-Some.bits)) c.limit_line.new.checker c.limit_line.result) (sym said.0)
    (c.limit_line.ensures d e))

pub returns-in-None : goal.returns-in-None
returns-in-None c = c.first_of_cover.ensures (aim_of c.args.aim.now)
