use Rattle.std.proofs.Common.{◌≡◌, ◌-◌, ◌≤◌, length, drop}
use Rattle.square_model.specs.Range.{monomial_range}
use Rattle.squares.specs.Views.{apart_over, range_before}
use Rattle.squares.proofs.range.monomial_range.Given as goal

-- the axes that are left make the same range
abbrev pub invariant-loop-place : goal.invariant-loop-place
invariant-loop-place l = record {
  inside : l.place ≤ length l.monomial;
  same : range_before (apart_over l.space l.centre) l.factors (drop l.place l.monomial) ≡ monomial_range (apart_over l.space l.centre) l.monomial;
}

abbrev pub decreases-loop-place : goal.decreases-loop-place
decreases-loop-place l = length l.monomial - l.place
