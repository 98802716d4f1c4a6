-- A space as a list of domains.
use Rattle.std.specs.Prelude.{ℕ, map, true, false, slice_set, vec_capacity}
use Rattle.ival.specs.declared.domain.Truths.{Truths}
use Rattle.ival.specs.declared.domain.Truths.TheVariants.{False, True, Either}
use Rattle.ival.specs.declared.domain.Domain.{Domain}
use Rattle.ival.specs.declared.domain.Range.{Range}
use Rattle.ival.specs.declared.domain.Domain.TheVariants.{Real, Bool}
use Rattle.ival.specs.declared.space.Space.{Space}
use Rattle.interval_model.specs.Space.{Domain as AxisDomain, Space as AxisDomains, real_domain, bool_domain}
use Rattle.dyadic.specs.Views.{dyadic_of}

abbrev pub truths_of : Truths → AxisDomain
truths_of False = bool_domain true false
truths_of True = bool_domain false true
truths_of Either = bool_domain true true

abbrev pub domain_of : Domain → AxisDomain
domain_of (Real r) = real_domain (dyadic_of r.low) (dyadic_of r.high)
domain_of (Bool t) = truths_of t

abbrev pub space_of : Space → AxisDomains
space_of s = map domain_of s.axes.items

-- for how many axes the space has room
abbrev pub capacity_of : Space → ℕ
capacity_of s = vec_capacity s.axes

-- the range is all that is left to the axis
abbrev pub with_range : ℕ → Range → AxisDomains → AxisDomains
with_range axis r s = slice_set s axis (domain_of (Real r))
