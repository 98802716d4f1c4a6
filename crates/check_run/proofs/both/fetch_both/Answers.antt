use Rattle.check_run.proofs.Boths.{both_unread_cert}
use Rattle.check_run.proofs.both.fetch_both.Goals as goal

pub returns-in-Err : goal.returns-in-Err
returns-in-Err g c = both_unread_cert c.args.script.now c.args.cert.now c.in_ok-script.script c.in-Err.unread _ _ _ c.in_ok-script.ensures c.in-Err.ensures
