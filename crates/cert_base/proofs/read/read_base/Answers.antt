use Rattle.std.proofs.Common.{Ok, subst}
use Rattle.poly_graph.specs.ProblemViews.{problem_of}
use Rattle.cert_check.specs.declared.checker.Verdict.{Verdict}
use Rattle.cert_check.specs.Courses.{Finishes}
use Rattle.cert_base.specs.Views.{gathered_of}
use Rattle.cert_base.proofs.Ended.{closed_read, has_point, point_read, has_cover, base_read}
use Rattle.cert_base.proofs.read.read_base.Goals as goal

pub returns-in-Unsat : goal.returns-in-Unsat
returns-in-Unsat c =
    let o = c.take_all.new.checker.course in let has = c.in_ok-margin.ensures.gathered c.args.bound c.in_ok-checker.ensures c.new-gathered.ensures in
    closed_read (problem_of c.args.problem.now) c.args.bound c.args.cert.now o (gathered_of c.take_all.new.gathered) has c.take_all.ensures.few c.in-Unsat.margin
    (subst (λ (w : Verdict). Finishes o (Ok w)) c.in-Unsat.is c.in_ok-margin.ensures.finished)

pub point_of-requires : goal.point_of-requires
point_of-requires c =
    let o = c.take_all.new.checker.course in let has = c.in_ok-margin.ensures.gathered c.args.bound c.in_ok-checker.ensures c.new-gathered.ensures in
    has_point (problem_of c.args.problem.now) c.args.bound c.args.cert.now o (gathered_of c.take_all.new.gathered) has c.in-Point.delta
    (subst (λ (w : Verdict). Finishes o (Ok w)) c.in-Point.is c.in_ok-margin.ensures.finished)

pub returns-in-Point : goal.returns-in-Point
returns-in-Point c =
    let o = c.take_all.new.checker.course in let has = c.in_ok-margin.ensures.gathered c.args.bound c.in_ok-checker.ensures c.new-gathered.ensures in
    point_read (problem_of c.args.problem.now) c.args.bound c.args.cert.now o (gathered_of c.take_all.new.gathered) has c.take_all.ensures.few c.in-Point.delta c.in_ok-point_of-in-Point.field-0
    (subst (λ (w : Verdict). Finishes o (Ok w)) c.in-Point.is c.in_ok-margin.ensures.finished) c.in_ok-point_of-in-Point.ensures

pub base_of-requires : goal.base_of-requires
base_of-requires c =
    let o = c.take_all.new.checker.course in let has = c.in_ok-margin.ensures.gathered c.args.bound c.in_ok-checker.ensures c.new-gathered.ensures in
    has_cover (problem_of c.args.problem.now) c.args.bound c.args.cert.now o (gathered_of c.take_all.new.gathered) has c.in-Left.field-0
    (subst (λ (w : Verdict). Finishes o (Ok w)) c.in-Left.is c.in_ok-margin.ensures.finished)

pub returns : goal.returns
returns c =
    let o = c.take_all.new.checker.course in let has = c.in_ok-margin.ensures.gathered c.args.bound c.in_ok-checker.ensures c.new-gathered.ensures in
    let base = c.in_ok-base_of-in-Left in
    base_read (problem_of c.args.problem.now) c.args.bound c.args.cert.now o (gathered_of c.take_all.new.gathered) has c.take_all.ensures.few c.in-Left.field-0 base.field-0
    (subst (λ (w : Verdict). Finishes o (Ok w)) c.in-Left.is c.in_ok-margin.ensures.finished) base.ensures.cover base.ensures.gathered base.ensures.bound
