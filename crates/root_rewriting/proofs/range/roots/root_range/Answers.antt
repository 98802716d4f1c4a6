use Rattle.root_rewriting.proofs.Rooted.{bound_few, proper_whole}
use Rattle.root_rewriting.proofs.range.roots.root_range.Goals as goal

pub whole_end-requires : goal.whole_end-requires
whole_end-requires c = bound_few c.args.range c.root_bound.result c.in-Some.number c.root_bound.ensures c.in-Some.is

pub from_nought-requires : goal.from_nought-requires
from_nought-requires c = proper_whole c.in-Some.number _ c.whole_end.ensures
