use Rattle.std.proofs.Common.{Ok, None, Some, ap, ◌∙◌, subst, sym}
use Rattle.std.specs.Prelude.{option_map}
use Rattle.dyadic.specs.Views.{dyadic_of}
use Rattle.interval_model.specs.Interval.{Interval}
use Rattle.ival.specs.SpaceViews.{space_of}
use Rattle.cert_model.specs.Accepted.{reached}
use Rattle.cert_model.specs.Least.{least_due, upper_end}
use Rattle.cert_check.specs.States.{loosenings_of}
use Rattle.cert_least.specs.declared.verdict.GoalVerdict.{GoalVerdict}
use Rattle.cert_least.specs.Courses.{Finishes}
use Rattle.cert_least.specs.Judging.{aim_of}
use Rattle.cert_least.specs.Phases.{in_point_at}
use Rattle.cert_least.proofs.Endings.{point_is, point_goes_on, point_ends}
use Rattle.cert_least.proofs.ending.point_ending.Goals as goal

pub returns-in-None-clause-ending : goal.returns-in-None-clause-ending
returns-in-None-clause-ending c d e k =
    point_goes_on (aim_of c.args.aim.now) c.args.lines (option_map dyadic_of c.args.lower) d (point_is c.args.checker.now.course d e None c.in-None.ensures)

pub returns-in-Some-clause-ending : goal.returns-in-Some-clause-ending
returns-in-Some-clause-ending c d e k =
    let a = aim_of c.args.aim.now in let space = space_of c.in-Some.point.now in
    subst (λ (v : GoalVerdict). Finishes a (Some (reached (least_due (in_point_at (option_map dyadic_of c.args.lower) d)) c.args.lines)) (Ok v)) (sym c.said.ensures)
    (point_ends a c.args.lines c.args.lower d (loosenings_of c.args.loosenings) space c.upper_end-upper.result k (point_is c.args.checker.now.course d e (Some space) c.in-Some.ensures)
    (c.upper_end-upper.ensures ∙ ap (λ (i : Interval). upper_end i) (c.enclosure.ensures.interval None None)))
