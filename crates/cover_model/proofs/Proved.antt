-- The laws, from their lemmas.
use Rattle.dyadic.specs.Rounding.{two_to_minus}
use Rattle.cover_model.specs.Laws.{EnclosureHolds, EnclosureIsIsotone, NarrowingKeeps, NarrowingLiesWithin, MayIsTrue, SureMeans, NarrowsSoundly, RuleKeeps, TreeKeeps, ClosedTreeHasNone, RuleLiesWithin, TreeLiesWithin, CoveredPoints, RootHasDeclaredBox, CrossedBoxIsEmpty}
use Rattle.poly_graph.specs.Term.{term_value}
use Rattle.cover_model.specs.Space.{range}
use Rattle.poly_graph.specs.Problem.{sorts_of_problem, atom_at, term_of}
use Rattle.cover_model.proofs.Encloses.{enclosure_holds}
use Rattle.cover_model.proofs.Isotone.{enclosure_isotone}
use Rattle.cover_model.proofs.Lies.{rule_within, tree_within}
use Rattle.cover_model.proofs.May.{may_is, sure_means, range_holds, range_kept, two_to_minus_on_grid}
use Rattle.cover_model.proofs.Narrows.{narrows}
use Rattle.cover_model.proofs.Root.{root_has, crossed_is_empty}
use Rattle.cover_model.proofs.Sound.{narrows_soundly as keeps_points, rule_keeps, tree_keeps, none_left, covered}
use Rattle.cover_model.proofs.Within.{narrowed_lies_within}

pub enclosures_hold : EnclosureHolds
enclosures_hold sorts space point q i t g = (enclosure_holds sorts space point q i t g).1

pub enclosures_are_isotone : EnclosureIsIsotone
enclosures_are_isotone = enclosure_isotone

pub narrowing_keeps : NarrowingKeeps
narrowing_keeps p g space point q i j bits h = narrows (sorts_of_problem p) p.nodes g.ordered g.nodes space point q i (atom_at p j).0 (range (two_to_minus bits) (atom_at p j).1)
    (range_kept (two_to_minus bits) (two_to_minus_on_grid bits) (atom_at p j).1) (range_holds (two_to_minus bits) (atom_at p j).1 (term_value point (term_of p j)) h)

pub narrowing_lies_within : NarrowingLiesWithin
narrowing_lies_within p g space narrow node i e = narrowed_lies_within p.nodes g.ordered node i space narrow e

pub may_is_true : MayIsTrue
may_is_true p g s S point i h = may_is p g s S point i h

pub sure_holds : SureMeans
sure_holds p g space point q i bits h = sure_means p g (two_to_minus bits) space point q i h

pub narrows_soundly : NarrowsSoundly
narrows_soundly p g s S n point i e = keeps_points p s g S n point i e

pub rules_keep : RuleKeeps
rules_keep p g s lemmas f S l point i h = rule_keeps p s g lemmas f S l point i h

pub trees_keep : TreeKeeps
trees_keep p g s lemmas f S t rest r point i h = tree_keeps p s g lemmas f r point i h

pub closed_trees_have_none : ClosedTreeHasNone
closed_trees_have_none p g s lemmas f S t r = none_left p s g lemmas f r

pub rules_lie_within : RuleLiesWithin
rules_lie_within p g s lemmas S l = rule_within p g s lemmas S l

pub trees_lie_within : TreeLiesWithin
trees_lie_within p g s lemmas S t rest r = tree_within p g s lemmas r

pub covered_points : CoveredPoints
covered_points = covered

pub root_has_declared_box : RootHasDeclaredBox
root_has_declared_box = root_has

pub crossed_box_is_empty : CrossedBoxIsEmpty
crossed_box_is_empty = crossed_is_empty
