use Rattle.cert_check.specs.Works.{work_of}
use Rattle.cert_check.proofs.Fed.{fresh_session}
use Rattle.cert_check.proofs.checker.Checker.new_session.Goals as goal

pub returns : goal.returns
returns c =
    let t = c.in_ok-part.part in
    fresh_session c.args.session c.args.bound c.begin.result t.session t.problem (work_of t c.first_work.result) c.in_ok-part.ensures.session c.requires c.begin.ensures.checks c.begin.ensures.course (c.first_work.ensures.due t)

pub begin-requires-clause-sound : goal.begin-requires-clause-sound
begin-requires-clause-sound c = c.first_work.ensures.sound c.in_ok-part.part c.in_ok-part.ensures.first
