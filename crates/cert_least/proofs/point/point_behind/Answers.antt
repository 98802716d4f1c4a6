use Rattle.std.proofs.Common.{◌≡◌, IsTrue, inl, subst, sym}
use Rattle.poly_graph.specs.ProblemViews.{problem_of}
use Rattle.cover_model.specs.State.{Loosenings}
use Rattle.cert_model.specs.Accepted.{is_header}
use Rattle.cert_model.specs.Due.{kind_due}
use Rattle.cert_check.specs.States.{loosenings_of}
use Rattle.cert_least.specs.Judging.{aim_of}
use Rattle.cert_least.specs.Phases.{IsDueTo}
use Rattle.cert_least.proofs.Headers.{cover_header}
use Rattle.cert_least.proofs.Lines.{point_on}
use Rattle.cert_least.proofs.point.point_behind.Goals as goal

told : (s t : Loosenings) → t ≡ s → IsTrue (is_header s) → IsTrue (is_header t)
told s t e h = subst (λ (x : Loosenings). IsTrue (is_header x)) (sym e) h

pub returns-in-Ok : goal.returns-in-Ok
returns-in-Ok c d fits k =
    let a = aim_of c.args.aim.now in let p = problem_of a.problem in let s = loosenings_of c.args.loosenings in
    point_on a c.args.scope c.args.loosenings d k c.give.new.checker c.give.result
    (c.give.ensures p a.bound (kind_due s) (subst (λ (x : Loosenings). IsDueTo p a.bound (kind_due x) c.begin_again.new.checker) c.told_of.ensures
    (c.in-Ok.ensures (told s _ c.told_of.ensures (cover_header d s fits k)))))

pub returns-in-Err : goal.returns-in-Err
returns-in-Err c d fits k =
    let s = loosenings_of c.args.loosenings in
    inl (c.in-Err.ensures (told s _ c.told_of.ensures (cover_header d s fits k)))
