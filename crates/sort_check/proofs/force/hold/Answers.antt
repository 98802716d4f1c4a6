use Rattle.std.proofs.Common.{sym}
use Rattle.sort_check.proofs.Lengths.{one_held}
use Rattle.sort_check.proofs.force.hold.Goals as goal

pub returns : goal.returns
returns c = λ s ns l h. one_held s c.args.force.now.items c.push.new.self.items ns c.args.command l c.in_ok-push.ensures.items (sym (c.if-not-stays.ensures s)) h
