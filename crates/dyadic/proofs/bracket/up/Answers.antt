use Rattle.dyadic.proofs.Flips.{up_from_opposite}
use Rattle.dyadic.proofs.bracket.up.Goals as goal

pub returns : goal.returns
returns c = λ n d p t. up_from_opposite _ n d _ _ (c.down.ensures n d p t) c.neg.ensures
