-- Ranges of kinds are in order.
use Rattle.std.proofs.Common.{ℕ, refl, arith}
use Rattle.std.proofs.lemmas.Int.{ints}
use Rattle.dyadic.specs.Rounding.{two_to_minus}
use Rattle.interval_model.specs.Interval.{IsProper}
use Rattle.dyadic.specs.End.{negated_dyadic}
use Rattle.dyadic.proofs.Rounds.{exact_from}
use Rattle.poly_graph.specs.Term.{Kind, le, ge, eq}
use Rattle.cover_model.specs.Space.{range}

pub range_proper : (k : ℕ) (kind : Kind) → IsProper (range (two_to_minus k) kind)
range_proper k le = (refl, tt, tt)
range_proper k ge = (refl, tt, tt)
range_proper k eq = (exact_from (negated_dyadic (two_to_minus k)) (two_to_minus k) (omega (arith, ints)), tt, tt)
