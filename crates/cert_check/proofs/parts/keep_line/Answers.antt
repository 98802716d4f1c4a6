use Rattle.std.proofs.Common.{sym, subst}
use Rattle.cert_read.specs.declared.line.Line.{Line}
use Rattle.cert_read.specs.Views.{line_of}
use Rattle.cert_check.specs.declared.work.Work.TheVariants.{Keep}
use Rattle.cert_check.specs.Works.{IsWorkNext}
use Rattle.cert_check.proofs.parts.keep_line.Goals as goal

pub returns-in-Keep-clause-comes : goal.returns-in-Keep-clause-comes
returns-in-Keep-clause-comes c b =
    subst (λ (l : Line). IsWorkNext c.args.part.now b (Keep c.args.s c.args.count) (line_of l) c.kept.new.part c.kept.result) (sym c.in-Keep.is) (c.kept.ensures.comes b)
