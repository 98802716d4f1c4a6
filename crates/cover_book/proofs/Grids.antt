-- The ends of a space in code are kept numbers.
use Rattle.std.proofs.Common.{List, [], ◌∷◌, map}
use Rattle.dyadic.proofs.Floors.{number_on_grid}
use Rattle.ival.specs.declared.domain.Truths.TheVariants.{False, True, Either}
use Rattle.ival.specs.declared.domain.Domain.{Domain}
use Rattle.ival.specs.declared.domain.Domain.TheVariants.{Real, Bool}
use Rattle.ival.specs.SpaceViews.{domain_of}
use Rattle.cover_model.specs.Space.{IsGridDomain, IsGridSpace}

domain-kept : (d : Domain) → IsGridDomain (domain_of d)
domain-kept (Real r) = (number_on_grid r.low, number_on_grid r.high)
domain-kept (Bool False) = tt
domain-kept (Bool True) = tt
domain-kept (Bool Either) = tt

pub domains_kept : (ds : List Domain) → IsGridSpace (map domain_of ds)
domains_kept [] = tt
domains_kept (d ∷ ds) = (domain-kept d, domains_kept ds)
