use Rattle.steal_pool.proofs.Gathers.{pool_fits, all_whole, all_settled, pool_law}
use Rattle.steal_pool.proofs.whole.gather_all.Goals as goal

pub absorb_all-requires : goal.absorb_all-requires
absorb_all-requires c = pool_fits c.args.hands.now c.requires

pub settle_all-requires : goal.settle_all-requires
settle_all-requires c = all_whole c.args.hands.now c.absorb_all.new.hands c.requires c.absorb_all.ensures

pub returns-clause-settled : goal.returns-clause-settled
returns-clause-settled c = all_settled c.absorb_all.new.hands c.settle_all.new.hands (all_whole c.args.hands.now c.absorb_all.new.hands c.requires c.absorb_all.ensures) c.settle_all.ensures

pub returns-clause-law : goal.returns-clause-law
returns-clause-law c =
    let whole = all_whole c.args.hands.now c.absorb_all.new.hands c.requires c.absorb_all.ensures in
    pool_law c.args.hands.now c.absorb_all.new.hands c.settle_all.new.hands c.requires c.absorb_all.ensures c.settle_all.ensures (all_settled c.absorb_all.new.hands c.settle_all.new.hands whole c.settle_all.ensures)
