use Rattle.std.proofs.Common.{sym, subst}
use Rattle.cert_read.specs.Views.{line_of}
use Rattle.cert_check.specs.declared.work.Work.{Work}
use Rattle.cert_check.specs.Works.{IsWorkNext}
use Rattle.cert_check.proofs.parts.work_line.Goals as goal

pub returns-in-Checks-clause-comes : goal.returns-in-Checks-clause-comes
returns-in-Checks-clause-comes c =
    subst (λ (w : Work). IsWorkNext c.args.part.now c.args.bound w (line_of c.args.line.now) c.args.part.now c.checks_line.result) (sym c.in-Checks.is) (c.checks_line.ensures.comes c.args.bound)

pub returns-in-Keep-clause-comes : goal.returns-in-Keep-clause-comes
returns-in-Keep-clause-comes c =
    subst (λ (w : Work). IsWorkNext c.args.part.now c.args.bound w (line_of c.args.line.now) c.keep_line.new.part c.keep_line.result) (sym c.in-Keep.is) (c.keep_line.ensures.comes c.args.bound)

pub returns-in-First-clause-comes : goal.returns-in-First-clause-comes
returns-in-First-clause-comes c =
    subst (λ (w : Work). IsWorkNext c.args.part.now c.args.bound w (line_of c.args.line.now) c.first_line.new.part c.first_line.result) (sym c.in-First.is) (c.first_line.ensures.comes c.args.bound)
