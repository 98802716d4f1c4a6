use Rattle.std.proofs.lemmas.List.{map-set}
use Rattle.ival.specs.SpaceViews.{domain_of}
use Rattle.ival.proofs.space.Space.set.Goals as goal

pub returns-clause-axes : goal.returns-clause-axes
returns-clause-axes c = map-set domain_of c.args.self.now.axes.items c.args.axis c.args.domain
