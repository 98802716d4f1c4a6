use Rattle.std.proofs.Common.{Ok, None, Some, subst, sym}
use Rattle.cert_model.specs.Accepted.{reached}
use Rattle.cert_model.specs.Least.{least_due}
use Rattle.cert_check.specs.Stands.{whole_cover_of}
use Rattle.cert_check.specs.States.{loosenings_of}
use Rattle.cert_least.specs.declared.verdict.GoalVerdict.{GoalVerdict}
use Rattle.cert_least.specs.Courses.{Finishes}
use Rattle.cert_least.specs.Phases.{lower_of, in_cover_at}
use Rattle.cert_least.proofs.Endings.{cover_is, cover_goes_on, cover_ends}
use Rattle.cert_least.proofs.ending.cover_ending.Goals as goal

pub returns-in-None : goal.returns-in-None
returns-in-None c a d e = cover_goes_on a c.args.lines (lower_of c.args.scope) c.args.scope.bits d (cover_is c.args.checker.now.course d e None c.in-None.ensures)

pub returns-in-Some : goal.returns-in-Some
returns-in-Some c a d e =
    subst (λ (v : GoalVerdict). Finishes a (Some (reached (least_due (in_cover_at (lower_of c.args.scope) c.args.scope.bits d)) c.args.lines)) (Ok v)) (sym c.said.ensures)
    (cover_ends a c.args.lines c.args.scope.lower c.args.scope.bits d (loosenings_of c.in-Some.cover.loosenings.now) (cover_is c.args.checker.now.course d e (Some (whole_cover_of c.in-Some.cover)) c.in-Some.ensures))
