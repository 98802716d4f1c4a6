-- Where a combination of marked atoms, less sums of squares, is above what its atoms allow, the state has no point.
use Rattle.std.proofs.Common.{ℕ, List, ◌&&◌, IsTrue}
use Rattle.dyadic.specs.Point.{Coordinate}
use Rattle.dyadic.proofs.Equal.{both_true}
use Rattle.interval_model.specs.Space.{middle}
use Rattle.poly_graph.specs.Problem.{Problem, IsProblem, sorts_of_problem}
use Rattle.square_model.specs.Positive.{is_positive}
use Rattle.square_model.proofs.Sound.{positive_is_sound}
use Rattle.cover_model.specs.State.{State, Loosenings, margin_of, IsPointOf}
use Rattle.cover_model.specs.Combination.{Multipliers, marked_range}
use Rattle.cover_model.specs.Rules.{Block, has_version_2, has_version_5, is_combination, are_combinable, can_combine, is_void_by_squares}
use Rattle.cover_model.proofs.CombinationMarked.{all_lie}
use Rattle.cover_model.proofs.MiddlePoints.{middle_point, in_middle, middle_is_point}

module _ (p : Problem) (s : Loosenings) (S : State) (point : List Coordinate) (i : IsPointOf p s S point) where
  pub void_by_squares : IsProblem p → (ms : Multipliers) (bs : List Block) → IsTrue (is_void_by_squares p s S ms bs) → ⊥
  void_by_squares g ms bs e =
      let sorts = sorts_of_problem p in let ranges = marked_range p (margin_of s) S.marks in
      let a = both_true (has_version_5 s && can_combine p s S ms) (is_positive p ranges S.space (middle S.space) ms bs) e in
      let b = both_true (has_version_5 s) (can_combine p s S ms) a.0 in
      let c = both_true (has_version_2 s && is_combination s ms) (are_combinable p S ms) b.1 in
      positive_is_sound p g ranges S.space (middle S.space) ms bs a.1
      (middle_point S.space point) (middle_is_point sorts S.space point i.sorted i.inside, in_middle S.space point i.inside)
      point (i.sorted, i.inside) (all_lie p s S point i ms c.1)
