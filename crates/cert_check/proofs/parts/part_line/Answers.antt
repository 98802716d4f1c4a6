use Rattle.std.proofs.Common.{sym, subst, ap, arith}
use Rattle.cert_read.specs.declared.line.Line.{Line}
use Rattle.cert_read.specs.Views.{line_of}
use Rattle.cert_check.specs.States.{loosenings_of}
use Rattle.cert_check.specs.declared.work.Work.TheVariants.{Part}
use Rattle.cert_check.specs.Works.{IsWorkNext}
use Rattle.cert_check.proofs.PartLines.{cover_goes}
use Rattle.cert_check.proofs.parts.part_line.Goals as goal

pub returns-else-count-gt-MOST_LEMMAS-clause-comes : goal.returns-else-count-gt-MOST_LEMMAS-clause-comes
returns-else-count-gt-MOST_LEMMAS-clause-comes c b =
    cover_goes c.args.part.now (loosenings_of c.args.s) c.in-Cover.count b (line_of c.args.line.now) (ap line_of c.in-Cover.is) (omega (arith, c.if-count-gt-MOST_LEMMAS.false))

pub returns-in-Point-clause-comes : goal.returns-in-Point-clause-comes
returns-in-Point-clause-comes c b =
    subst (λ (l : Line). IsWorkNext c.args.part.now b (Part c.args.s) (line_of l) c.point_line.new.part c.point_line.result) (sym c.in-Point.is) (c.point_line.ensures.comes b)
