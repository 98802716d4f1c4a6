use Rattle.std.proofs.Common.{ℕ, Result, Vec, Global, subst, sym}
use Rattle.std.specs.declared.alloc.AllocError.{AllocError}
use Rattle.check_run.specs.Course.{StartedEnds}
use Rattle.dpoly.specs.Join.{IsRefusalWith}
use Rattle.dpoly.proofs.Joining.{refused_ends}
use Rattle.dpoly.proofs.join.refuse_with.Goals as goal

pub returns-in-Ok-clause-ends : goal.returns-in-Ok-clause-ends
returns-in-Ok-clause-ends g c = λ old text drafts.
    subst (λ (r : Result (Vec ℕ Global) AllocError). StartedEnds (IsRefusalWith r) old (g.D.Desk.sight c.say.new.desk) c.say.result) (sym c.in-Ok.is)
    (refused_ends c.in-Ok.text c.deref.result.now (g.D.Desk.sight c.args.desk.now) (g.D.Desk.sight c.say.new.desk) c.say.result c.deref.ensures.value c.say.ensures.ends old text drafts)
