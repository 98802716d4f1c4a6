use Rattle.std.proofs.Common.{subst, sym}
use Rattle.cert_read.specs.CertLine.{CertLine}
use Rattle.cert_read.specs.Views.{line_of}
use Rattle.cert_least.specs.declared.phase.Phase.TheVariants.{InCover}
use Rattle.cert_least.specs.Judging.{aim_of}
use Rattle.cert_least.specs.Phases.{searched_by}
use Rattle.cert_least.specs.Steps.{IsAimNext}
use Rattle.cert_least.proofs.Lines.{other_on}
use Rattle.cert_least.proofs.cover.in_cover_line.Goals as goal

pub returns-in-Over-clause-next : goal.returns-in-Over-clause-next
returns-in-Over-clause-next c =
    subst (λ (l : CertLine). IsAimNext c.args.aim.now (InCover c.args.scope) c.args.checker.now l c.over_line.new.checker c.over_line.result) (sym c.in-Over.ensures) c.over_line.ensures.next

pub returns-in-Leaf-clause-next : goal.returns-in-Leaf-clause-next
returns-in-Leaf-clause-next c =
    subst (λ (l : CertLine). IsAimNext c.args.aim.now (InCover c.args.scope) c.args.checker.now l c.leaf_line.new.checker c.leaf_line.result) (sym c.in-Leaf.ensures) c.leaf_line.ensures.next

pub returns-in-Point-clause-next : goal.returns-in-Point-clause-next
returns-in-Point-clause-next c =
    subst (λ (l : CertLine). IsAimNext c.args.aim.now (InCover c.args.scope) c.args.checker.now l c.point_line.new.checker c.point_line.result) (sym c.in-Point.ensures) c.point_line.ensures

pub returns-in-Other-clause-next : goal.returns-in-Other-clause-next
returns-in-Other-clause-next c d h fits =
    let a = aim_of c.args.aim.now in let w = c.args.scope in
    other_on a w (line_of c.args.line.now) c.in-Other.ensures d fits c.give.new.checker c.give.result (c.give.ensures (searched_by a w) a.bound d h)
