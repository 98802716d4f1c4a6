use Rattle.std.proofs.Common.{false, true, ◌++◌}
use Rattle.cert_join.proofs.Drafts.{on_and_on, on_and_stopped}
use Rattle.cert_join.proofs.drafting.run.Goals as goal

pub returns-in-Ok-true : goal.returns-in-Ok-true
returns-in-Ok-true g c = λ s p b before done way.
    let h = c.loop.invariant s p b before done way in
    on_and_on s p b before done _ _ _ c.in-Ok-true.field-0 true _ _ _ _ _ _ _ h c.in-Ok-true.field-0-test (c.in-Ok-true.ensures s p b before h.text h.by_now)

pub returns-in-Err : goal.returns-in-Err
returns-in-Err g c = λ s p b before done way.
    let h = c.loop.invariant s p b before done way in on_and_stopped s p b before done _ _ _ _ _ _ _ _ h (c.in-Err.ensures s p b before h.text h.by_now)

pub loop-preserved : goal.loop-preserved
loop-preserved g c = λ s p b before done way.
    let h = c.loop.invariant s p b before done way in
    on_and_on s p b before done _ _ _ c.in-Ok-false.field-0 false _ _ _ _ _ _ _ h c.in-Ok-false.field-0-test (c.in-Ok-false.ensures s p b before h.text h.by_now)

pub returns : goal.returns
returns g c = λ s p b before done way. let h = c.loop.invariant s p b before done way in
    record { stopped = (before ++ h.text, h.by_now.drafted); reason = λ certs first others shown texts x. tt }
