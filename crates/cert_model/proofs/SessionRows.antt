-- Worked certificates of several checks, computed from their bytes.
use Rattle.std.proofs.Common.{◌≡◌, ℕ, List, [], ◌∷◌, ◌++◌, Bool, true, false, None, map, refl, codes}
use Rattle.interval_model.specs.Space.{real_domain}
use Rattle.cover_model.specs.State.{Loosenings}
use Rattle.cover_model.specs.Rules.{Line, unit, by}
use Rattle.cover_line.specs.Words.{by_word}
use Rattle.poly_graph.specs.Form.{atom_is, more_forms, no_forms, all_form}
use Rattle.poly_graph.specs.Term.{le, ge, eq, constant_node, variable_node, negate_node, add_node, square_node}
use Rattle.poly_graph.specs.Problem.{Problem}
use Rattle.cert_model.specs.Due.{BadHeader, BadNumber, KeepFails, RuleFails, Missing, Extra, at_point, left_open}
use Rattle.cert_model.specs.Accepted.{accepted, refused}
use Rattle.cert_model.specs.Session.{SessionVerdict, session_verdict, session_standing}
use Rattle.cert_model.proofs.Problems.{unit_axis, crossed, two_sides, both, either, fraction, minus, dyadic, real_axis}

abbrev third_usual : Loosenings
third_usual = record { margin_bits = 20; delta_bits = 10; version = 3 }

abbrev third_head : List ℕ
third_head = codes "dpoly 3\nmargin 20\ndelta 10\nbound none\n"

-- ---- a check whose declared box is empty, and one whose commands are not all those of the first

of_crossed : List ℕ → SessionVerdict
of_crossed text = session_verdict ((crossed, false) ∷ (unit_axis, false) ∷ []) None (third_head ++ text)

after_a_pop : map of_crossed (
    codes "checks 2\ncover 0\nkeep 0\ntree\nempty 0\nend\npoint\nreal 1b-1\nend\n" ∷
    codes "checks 2\ncover 0\nkeep 1\n" ∷ codes "checks 2\ncover 1\nkeep 1\n" ∷ codes "checks 1\n" ∷ codes "cover 0\n" ∷ codes "checks 2\npoint\nreal 1b0\nreal 1b0\n" ∷
    codes "checks 2\ntree\n" ∷ codes "checks 2\ncover 0\ntree\n" ∷ codes "checks 2\ncover 0\nkeep 0\nfalse\n" ∷ codes "checks 2\ncover 1\nkeep 0\ntree\n" ∷
    codes "checks 2\ncover 0\nkeep 0\ntree\nempty 0\nend\n" ∷ codes "checks 2\ncover 0\nkeep 0\ntree\nempty 0\nend\npoint\nreal 1b-1\nend\nend\n" ∷
    codes "checks 2\ncover 0\nkeep 0\ntree\nempty 0\nend\ncover 1\nkeep 1\n" ∷ []) ≡
    (accepted third_usual (left_open [] ∷ at_point (real_domain (dyadic 1 1) (dyadic 1 1) ∷ []) ∷ []) ∷
    refused KeepFails 7 ∷ refused KeepFails 7 ∷ refused BadHeader 5 ∷ refused BadHeader 5 ∷ refused Missing 8 ∷
    refused Missing 6 ∷ refused Missing 7 ∷ refused Missing 8 ∷ refused Missing 8 ∷
    refused Missing 11 ∷ refused Extra 14 ∷
    refused KeepFails 12 ∷ [])
unfolding of_crossed Rattle.dyadic.specs.Fraction.negated Rattle.dyadic.specs.Fraction.sum_of Rattle.dyadic.specs.Fraction.product_of Rattle.dyadic.specs.Fraction.quotient_of Rattle.dyadic.specs.Fraction.at_most
after_a_pop = refl

-- ---- versions by the number of checks

versions : (session_verdict ((crossed, false) ∷ []) None (codes "dpoly 3\n") ∷ session_verdict ((crossed, false) ∷ (unit_axis, false) ∷ []) None (codes "dpoly 2\n") ∷
    session_verdict ((crossed, false) ∷ []) None (codes "dpoly 2\nmargin 20\ndelta 10\nbound none\ncover 0\ntree\nempty 0\nend\n") ∷ []) ≡
    (refused BadHeader 1 ∷ refused BadHeader 1 ∷ accepted (record { margin_bits = 20; delta_bits = 10; version = 2 }) (left_open [] ∷ []) ∷ [])
unfolding Rattle.dyadic.specs.Fraction.negated Rattle.dyadic.specs.Fraction.sum_of Rattle.dyadic.specs.Fraction.product_of Rattle.dyadic.specs.Fraction.quotient_of Rattle.dyadic.specs.Fraction.at_most
versions = refl

-- ---- a lemma that is kept

-- two sides, and besides y in [0, 1]
abbrev two_sides_more : Problem
two_sides_more = record {
  axes = real_axis (codes "x") (fraction 0 1) (fraction 1 1) ∷ real_axis (codes "y") (fraction 0 1) (fraction 1 1) ∷ [];
  nodes = constant_node (fraction 0 1) ∷ variable_node 0 ∷ negate_node 1 ∷ add_node 0 2 ∷ constant_node (minus 1 1) ∷ add_node 1 4 ∷
      constant_node (minus 3 4) ∷ add_node 1 6 ∷ constant_node (minus 1 4) ∷ add_node 1 8 ∷ square_node 1 ∷ add_node 10 8 ∷ variable_node 1 ∷ add_node 12 4 ∷ [];
  atoms = (3, le) ∷ (5, le) ∷ (7, ge) ∷ (9, le) ∷ (11, eq) ∷ (12, ge) ∷ (13, le) ∷ [];
  form = all_form (more_forms (both (atom_is 0) (atom_is 1)) (more_forms (either (atom_is 2) (atom_is 3)) (more_forms (atom_is 4) (more_forms (atom_is 5) (more_forms (atom_is 6) no_forms)))));
}

abbrev learned : List ℕ
learned = third_head ++ codes "checks 2\ncover 1\nkeep 0\nlemma 0\nreal 0 1b0\nyes 4\nno\npull 4\nfalse\ntree\nunit 4\nby 0\nend\n"

of_sides : Bool → List ℕ → SessionVerdict
of_sides in_force text = session_verdict ((two_sides, false) ∷ (two_sides_more, in_force) ∷ []) None (learned ++ text)

kept_lemmas : (of_sides true (codes "cover 1\nkeep 1\ntree\nunit 4\nby 0\nend\n") ∷ of_sides false (codes "cover 1\nkeep 1\n") ∷ of_sides true (codes "cover 2\nkeep 2\n") ∷
    of_sides true (codes "cover 0\nkeep 1\n") ∷ of_sides true (codes "cover 1\nkeep 0\ntree\n") ∷ of_sides true (codes "cover 2\nkeep 1\nlemma 0\n") ∷ of_sides true (codes "cover 0\nkeep 0\ntree\nunit 4\nby 0\n") ∷ []) ≡
    (accepted third_usual (left_open [] ∷ left_open [] ∷ []) ∷ refused KeepFails 19 ∷ refused KeepFails 19 ∷
    refused KeepFails 19 ∷ refused Missing 20 ∷ refused BadNumber 20 ∷ refused (RuleFails by_word) 22 ∷ [])
unfolding of_sides Rattle.dyadic.specs.Fraction.negated Rattle.dyadic.specs.Fraction.sum_of Rattle.dyadic.specs.Fraction.product_of Rattle.dyadic.specs.Fraction.quotient_of Rattle.dyadic.specs.Fraction.at_most
kept_lemmas = refl

standing_lines : ℕ → List Line
standing_lines k = map (λ x. x.line.does) (session_standing ((two_sides, false) ∷ (two_sides_more, true) ∷ []) None (learned ++ codes "cover 1\nkeep 1\ntree\nunit 4\nby 0\nend\n") k)

stand_by_part : map standing_lines (0 ∷ 1 ∷ 2 ∷ []) ≡ ((unit 4 ∷ by 0 ∷ []) ∷ (unit 4 ∷ by 0 ∷ []) ∷ [] ∷ [])
unfolding standing_lines Rattle.dyadic.specs.Fraction.negated Rattle.dyadic.specs.Fraction.sum_of Rattle.dyadic.specs.Fraction.product_of Rattle.dyadic.specs.Fraction.quotient_of Rattle.dyadic.specs.Fraction.at_most
stand_by_part = refl
