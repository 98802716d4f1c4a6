use Rattle.std.proofs.Common.{◌+◌, ◌-◌, arith}
use Rattle.least_search.proofs.Searches.{closed_bounds}
use Rattle.least_search.proofs.search.take_closed.Goals as goal

pub returns-clause-bounds : goal.returns-clause-bounds
returns-clause-bounds c =
    closed_bounds c.args.aim.now c.args.bounds.now c.args.limited c.args.book c.requires.bounds c.requires.search (c.args.bounds.now.budget - (1 + c.branches.result)) c.requires.version c.requires.closed c.requires.tried
    (omega (arith, c.branches.ensures.branches, c.requires.search.few))
