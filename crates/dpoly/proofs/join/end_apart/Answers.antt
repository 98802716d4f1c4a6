use Rattle.std.proofs.Common.{Option, subst}
use Rattle.cert_parting.specs.Calls as parting
use Rattle.cert_parting.specs.Calls.{IsPartingOn}
use Rattle.cert_parting.specs.declared.parting.Place.{Place}
use Rattle.check_run.specs.declared.both.Unread.TheVariants as unread
use Rattle.desk.specs.declared.desk.Denied.{Denied}
use Rattle.dpoly.proofs.Joining.{agreed_ends, cause_unread, parted_ends, unread_apart, unread_script}
use Rattle.dpoly.proofs.join.end_apart.Goals as goal

pub returns-in-Ok-Some-clause-ends : goal.returns-in-Ok-Some-clause-ends
returns-in-Ok-Some-clause-ends g c =
    parted_ends c.args.count (g.D.Desk.sight c.args.desk.now) (g.D.Desk.sight c.first_parting.new.desk) (g.D.Desk.sight c.refuse_with.new.desk) c.in-Ok-Some.ensures.read c.refuse_with.result c.not_joined_at.result c.refuse_with.ensures.ends c.in-Ok-Some.place
    (subst (λ (x : Option Place). IsPartingOn c.args.count (g.D.Desk.sight c.args.desk.now) x) c.in-Ok-Some.field-0-is c.in-Ok-Some.ensures.told) c.not_joined_at.ensures c.args.line

pub returns-in-Ok-None-clause-ends : goal.returns-in-Ok-None-clause-ends
returns-in-Ok-None-clause-ends g c =
    agreed_ends c.args.count (g.D.Desk.sight c.args.desk.now) (g.D.Desk.sight c.first_parting.new.desk) (g.D.Desk.sight c.refuse_with-in-Ok-None.new.desk) c.in-Ok-None.ensures.read c.refuse_with-in-Ok-None.result c.not_joined.result c.refuse_with-in-Ok-None.ensures.ends c.args.line
    (subst (λ (x : Option Place). IsPartingOn c.args.count (g.D.Desk.sight c.args.desk.now) x) c.in-Ok-None.field-0-is c.in-Ok-None.ensures.told) c.not_joined.ensures

pub returns-in-Err-Failed : goal.returns-in-Err-Failed
returns-in-Err-Failed g c =
    let h = subst (λ (e : Denied). parting.IsUnread e (g.D.Desk.sight c.args.desk.now) (g.D.Desk.sight c.first_parting.new.desk)) c.in-Err-Failed.field-0-is c.in-Err-Failed.ensures.read in
    record {
      ends = unread_apart c.args.count c.args.line unread.Failed (g.D.Desk.sight c.args.desk.now) (g.D.Desk.sight c.first_parting.new.desk) h;
      cause = cause_unread unread.Failed (g.D.Desk.sight c.args.desk.now) (g.D.Desk.sight c.first_parting.new.desk) h;
      script = unread_script unread.Failed (g.D.Desk.sight c.args.desk.now) (g.D.Desk.sight c.first_parting.new.desk) h;
    }

pub returns-in-Err-Memory : goal.returns-in-Err-Memory
returns-in-Err-Memory g c =
    let h = subst (λ (e : Denied). parting.IsUnread e (g.D.Desk.sight c.args.desk.now) (g.D.Desk.sight c.first_parting.new.desk)) c.in-Err-Memory.field-0-is c.in-Err-Memory.ensures.read in
    record {
      ends = unread_apart c.args.count c.args.line unread.Memory (g.D.Desk.sight c.args.desk.now) (g.D.Desk.sight c.first_parting.new.desk) h;
      cause = cause_unread unread.Memory (g.D.Desk.sight c.args.desk.now) (g.D.Desk.sight c.first_parting.new.desk) h;
      script = unread_script unread.Memory (g.D.Desk.sight c.args.desk.now) (g.D.Desk.sight c.first_parting.new.desk) h;
    }
