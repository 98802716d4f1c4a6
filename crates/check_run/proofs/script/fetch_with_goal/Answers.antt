use Rattle.std.proofs.Common.{ap, Err}
use Rattle.script_reading.specs.Faults.{session_fault}
use Rattle.script_reading.proofs.Long.{long_session}
use Rattle.check_run.proofs.Reading.{fetches_long}
use Rattle.check_run.proofs.script.fetch_with_goal.Goals as goal

pub returns-in-Err-TooLong-clause-script : goal.returns-in-Err-TooLong-clause-script
returns-in-Err-TooLong-clause-script g c =
    let long = ap (λ e. Err e) c.in-Err-TooLong.field-0-is in
    fetches_long (session_fault c.args.bound) (long_session c.args.bound) c.args.name.now _ _ c.too_long.result (c.in-Err-TooLong.ensures.long long) (c.in-Err-TooLong.ensures.too_long long) c.too_long.ensures
