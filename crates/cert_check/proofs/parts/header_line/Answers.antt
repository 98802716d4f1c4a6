use Rattle.std.proofs.Common.{sym, subst}
use Rattle.cert_read.specs.Views.{line_of}
use Rattle.cert_check.specs.declared.due.Due.{Due}
use Rattle.cert_check.specs.declared.work.Work.TheVariants.{Header}
use Rattle.cert_check.specs.Works.{IsWorkNext}
use Rattle.cert_check.proofs.PartLines.{is_no_version}
use Rattle.cert_check.proofs.parts.header_line.Goals as goal

pub returns-in-Version-clause-comes : goal.returns-in-Version-clause-comes
returns-in-Version-clause-comes c =
    subst (λ (d : Due). IsWorkNext c.args.part.now c.args.bound (Header d) (line_of c.args.line.now) c.args.part.now c.version_line.result) (sym c.in-Version.is) (c.version_line.ensures.comes c.args.bound)

pub later_header_line-requires-clause-later : goal.later_header_line-requires-clause-later
later_header_line-requires-clause-later c = is_no_version c.args.due c.in_default.not-Version
