-- Off-ranges: they are in order, hold the values of atoms that fail, and narrow by them.
use Rattle.std.proofs.Common.{ℕ, refl, ap, inl, inr, ◌&&◌, true, not, IsTrue}
use Rattle.dyadic.specs.Fraction.{Fraction, negated, at_most}
use Rattle.dyadic.specs.Rounding.{Dyadic, exact, two_to_minus, IsOnGrid}
use Rattle.dyadic.proofs.Equal.{total}
use Rattle.interval_model.specs.Interval.{IsProper}
use Rattle.interval_model.proofs.Holds.{Holds, everything_holds}
use Rattle.interval_model.proofs.HoldsGrid.{everything_kept}
use Rattle.interval_model.proofs.InversesSquares.{IsKept}
use Rattle.poly_graph.specs.Term.{Kind, le, ge, eq, in_range, term_value}
use Rattle.poly_graph.specs.Problem.{sorts_of_problem, atom_at, term_of}
use Rattle.poly_graph.proofs.Bools.{not_both}
use Rattle.cover_model.specs.OffRange.{off_range}
use Rattle.cover_model.specs.Laws.{NarrowingOffKeeps}
use Rattle.cover_model.proofs.May.{range_kept, two_to_minus_on_grid}
use Rattle.cover_model.proofs.Narrows.{narrows}

pub off_range_proper : (k : ℕ) (kind : Kind) → IsProper (off_range (two_to_minus k) kind)
off_range_proper k le = (refl, tt, tt)
off_range_proper k ge = (refl, tt, tt)
off_range_proper k eq = (refl, tt, tt)

-- of two fractions, the first not at most the second, the second is at most the first
not-above : (a b : Fraction) → IsTrue (not (at_most a b)) → IsTrue (at_most b a)
not-above a b h = elim (total a b) [
  | inl k ↦ absurd (not_both (at_most a b) k h)
  | inr k ↦ k
]

-- a value that is not in the range of a kind
pub off_range_holds : (m : Dyadic) (k : Kind) (v : Fraction) → IsTrue (not (in_range (exact m) k v)) → Holds (off_range m k) v
unfolding Rattle.dyadic.specs.Fraction.negated
off_range_holds m le v h = ap (λ b. b && true) (not-above v (exact m) h)
off_range_holds m ge v h = not-above (negated (exact m)) v h
off_range_holds m eq v h = everything_holds v

-- the ends of an off-range are those of a range
pub off_range_kept : (m : Dyadic) → IsOnGrid m → (k : Kind) → IsKept (off_range m k)
off_range_kept m g le = (g, tt)
off_range_kept m g ge = (tt, (range_kept m g ge).0)
off_range_kept m g eq = everything_kept

pub narrowing_off_keeps : NarrowingOffKeeps
narrowing_off_keeps p g space point q i j bits h = narrows (sorts_of_problem p) p.nodes g.ordered g.nodes space point q i (atom_at p j).0 (off_range (two_to_minus bits) (atom_at p j).1)
    (off_range_kept (two_to_minus bits) (two_to_minus_on_grid bits) (atom_at p j).1) (off_range_holds (two_to_minus bits) (atom_at p j).1 (term_value point (term_of p j)) h)
