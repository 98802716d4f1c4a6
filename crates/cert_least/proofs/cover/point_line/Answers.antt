use Rattle.std.proofs.Common.{Some, None}
use Rattle.cert_check.specs.Stands.{whole_cover_of}
use Rattle.cert_least.specs.Judging.{aim_of}
use Rattle.cert_least.specs.Phases.{searched_by}
use Rattle.cert_least.proofs.Endings.{cover_is}
use Rattle.cert_least.proofs.Lines.{point_elsewhere}
use Rattle.cert_least.proofs.cover.point_line.Goals as goal

pub returns-in-None : goal.returns-in-None
returns-in-None c d h fits =
    let a = aim_of c.args.aim.now in let w = c.args.scope in
    point_elsewhere a w d fits (cover_is c.args.checker.now.course d h.due None c.in-None.ensures)
    c.give.new.checker c.give.result (c.give.ensures (searched_by a w) a.bound d h)

pub returns-in-Some : goal.returns-in-Some
returns-in-Some c d h fits =
    c.point_behind.ensures d fits (cover_is c.args.checker.now.course d h.due (Some (whole_cover_of c.in-Some.cover)) c.in-Some.ensures)
