use Rattle.std.proofs.Common.{ℕ, Vec, Global, ap, subst}
use Rattle.ival.specs.SpaceViews.{space_of}
use Rattle.command_line.specs.Seen.{seen_resume}
use Rattle.poly_graph.specs.ProblemViews.{problem_of}
use Rattle.cert_base.specs.Base.{IsRead}
use Rattle.cert_base.specs.declared.base.Read.{Read}
use Rattle.dpoly.proofs.Resuming.{closed-again, point-again}
use Rattle.dpoly.proofs.resume.resumed.Goals as goal

pub returns-in_ok-again-in-Point : goal.returns-in_ok-again-in-Point
returns-in_ok-again-in-Point g c =
    let p = problem_of c.args.problem.now in let told = c.in_ok-again-in-Point in
    let h = subst (λ (x : Read). IsRead p c.args.bound c.args.cert.now x) c.in-Point.is c.in_ok-space.ensures in
    point-again p c.args.bound (seen_resume c.args.asked.now) c.args.cert.now (space_of c.in-Point.space) c.in-Point.delta_bits c.in_ok-text-in-Point.text.items told.field-0 h.loosenings h.accepted h.delta
    told.ensures.cert told.ensures.fits (ap (λ (v : Vec ℕ Global). v.items) told.ensures.text) c.in_ok-text-in-Point.ensures

pub returns-in_ok-again-in-Closed : goal.returns-in_ok-again-in-Closed
returns-in_ok-again-in-Closed g c =
    let p = problem_of c.args.problem.now in let told = c.in_ok-again-in-Closed in
    let h = subst (λ (x : Read). IsRead p c.args.bound c.args.cert.now x) c.in-Closed.is c.in_ok-space.ensures in
    closed-again p c.args.bound (seen_resume c.args.asked.now) c.args.cert.now c.in-Closed.margin_bits c.in_ok-text-in-Closed.text.items told.field-0 h.loosenings h.accepted h.margin
    told.ensures.cert told.ensures.fits (ap (λ (v : Vec ℕ Global). v.items) told.ensures.text) c.in_ok-text-in-Closed.ensures
