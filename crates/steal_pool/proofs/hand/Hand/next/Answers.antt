use Rattle.steal_pool.specs.Turns.{TakesNothing}
use Rattle.steal_pool.proofs.Accounts.{rest_nothing, account_one, place_one, place_nothing, quiet_turn, vain_turn}
use Rattle.steal_pool.proofs.hand.Hand.next.Goals as goal

pub returns-in-Some-take_or_steal-clause-some : goal.returns-in-Some-take_or_steal-clause-some
returns-in-Some-take_or_steal-clause-some g c =
    let awake : TakesNothing c.args.self.now c.wake.new.self = rest_nothing c.args.self.now c.loop.self c.wake.new.self c.loop.invariant c.wake.ensures.same in
    account_one c.args.self.now c.wake.new.self c.take_or_steal.new.self c.in-Some-take_or_steal.id awake c.in-Some-take_or_steal.ensures

pub returns-in-Some-take_or_steal-clause-place : goal.returns-in-Some-take_or_steal-clause-place
returns-in-Some-take_or_steal-clause-place g c =
    let awake : TakesNothing c.args.self.now c.wake.new.self = rest_nothing c.args.self.now c.loop.self c.wake.new.self c.loop.invariant c.wake.ensures.same in
    place_one c.args.self.now c.wake.new.self c.take_or_steal.new.self c.in-Some-take_or_steal.id awake c.in-Some-take_or_steal.ensures

pub returns-then-all_rest-clause-none : goal.returns-then-all_rest-clause-none
returns-then-all_rest-clause-none g c =
    let awake : TakesNothing c.args.self.now c.wake.new.self = rest_nothing c.args.self.now c.loop.self c.wake.new.self c.loop.invariant c.wake.ensures.same in
    vain_turn c.args.self.now c.wake.new.self c.take_or_steal.new.self c.rest.new.self c.all_rest.new.self awake c.in_default.ensures c.rest.ensures c.all_rest.ensures.same c.if-all_rest.ensures.all

pub returns-then-all_rest-clause-place : goal.returns-then-all_rest-clause-place
returns-then-all_rest-clause-place g c =
    let awake : TakesNothing c.args.self.now c.wake.new.self = rest_nothing c.args.self.now c.loop.self c.wake.new.self c.loop.invariant c.wake.ensures.same in
    place_nothing c.args.self.now c.all_rest.new.self (quiet_turn c.args.self.now c.wake.new.self c.take_or_steal.new.self c.rest.new.self c.all_rest.new.self awake c.in_default.ensures c.rest.ensures c.all_rest.ensures.same)
