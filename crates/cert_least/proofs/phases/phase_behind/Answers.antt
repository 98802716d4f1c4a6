use Rattle.std.proofs.Common.{subst, sym}
use Rattle.cert_read.specs.Views.{line_of}
use Rattle.cert_least.specs.declared.phase.Phase.{Phase}
use Rattle.cert_least.specs.Judging.{aim_of}
use Rattle.cert_least.specs.Phases.{IsDueIn}
use Rattle.cert_least.specs.Steps.{IsAimNext}
use Rattle.cert_least.proofs.phases.phase_behind.Goals as goal

pub returns-in-Version-clause-next : goal.returns-in-Version-clause-next
returns-in-Version-clause-next c =
    let a = c.args.aim.now in
    subst (λ (x : Phase). IsAimNext a x c.args.checker.now (line_of c.args.line.now) c.first_line.new.checker c.first_line.result) (sym c.in-Version.is) (c.first_line.ensures (aim_of a))

pub returns-in-Plain-clause-next : goal.returns-in-Plain-clause-next
returns-in-Plain-clause-next c =
    let a = c.args.aim.now in
    subst (λ (x : Phase). IsAimNext a x c.args.checker.now (line_of c.args.line.now) c.plain_line.new.checker c.plain_line.result) (sym c.in-Plain.is) (c.plain_line.ensures (aim_of a))

pub returns-in-Header-clause-next : goal.returns-in-Header-clause-next
returns-in-Header-clause-next c =
    let a = c.args.aim.now in
    subst (λ (x : Phase). IsAimNext a x c.args.checker.now (line_of c.args.line.now) c.header_line.new.checker c.header_line.result) (sym c.in-Header.is) (c.header_line.ensures (aim_of a))

pub returns-in-Lower-clause-next : goal.returns-in-Lower-clause-next
returns-in-Lower-clause-next c =
    let a = c.args.aim.now in
    subst (λ (x : Phase). IsAimNext a x c.args.checker.now (line_of c.args.line.now) c.lower_line.new.checker c.lower_line.result) (sym c.in-Lower.is) (c.lower_line.ensures (aim_of a))

pub returns-in-Cover-clause-next : goal.returns-in-Cover-clause-next
returns-in-Cover-clause-next c =
    let a = c.args.aim.now in
    subst (λ (x : Phase). IsAimNext a x c.args.checker.now (line_of c.args.line.now) c.cover_line.new.checker c.cover_line.result) (sym c.in-Cover.is) c.cover_line.ensures

pub returns-in-InCover-clause-next : goal.returns-in-InCover-clause-next
returns-in-InCover-clause-next c =
    let a = c.args.aim.now in
    subst (λ (x : Phase). IsAimNext a x c.args.checker.now (line_of c.args.line.now) c.in_cover_line.new.checker c.in_cover_line.result) (sym c.in-InCover.is) c.in_cover_line.ensures.next

pub returns-in-InPoint-clause-next : goal.returns-in-InPoint-clause-next
returns-in-InPoint-clause-next c =
    let a = c.args.aim.now in
    subst (λ (x : Phase). IsAimNext a x c.args.checker.now (line_of c.args.line.now) c.in_point_line.new.checker c.in_point_line.result) (sym c.in-InPoint.is) (c.in_point_line.ensures (aim_of a))

pub returns-in-Stopped-clause-next : goal.returns-in-Stopped-clause-next
returns-in-Stopped-clause-next c d h fits = absurd (subst (λ (x : Phase). IsDueIn x d) c.in-Stopped.is fits)
