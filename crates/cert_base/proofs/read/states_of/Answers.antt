use Rattle.cert_base.proofs.Taken.{one_more_taken}
use Rattle.cert_base.proofs.read.states_of.Goals as goal

pub loop-i-preserved : goal.loop-i-preserved
loop-i-preserved c =
    one_more_taken c.args.lemmas.now c.loop-i.states.items c.push.new.self.items c.loop-i.i c.in_ok-state.state c.loop-i.invariant c.in_ok-state.ensures c.in_ok-push.ensures.items
