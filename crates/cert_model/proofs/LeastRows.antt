-- Worked certificates of least values, computed from their bytes.
use Rattle.std.proofs.Common.{◌≡◌, ℕ, List, [], ◌∷◌, ◌++◌, Option, Some, None, true, false, map, refl, codes}
use Rattle.dyadic.specs.Rounding.{Dyadic}
use Rattle.interval_model.specs.Space.{Space, real_domain}
use Rattle.poly_graph.specs.Problem.{Problem}
use Rattle.cover_model.specs.State.{Loosenings, root_state, with_no}
use Rattle.cover_model.specs.Rules.{open_line}
use Rattle.cover_line.specs.Words.{open_word, stuck_word, false_word, pull_word}
use Rattle.cert_model.specs.Due.{BadHeader, BadNumber, RuleFails, OverFails, Missing, Extra, NotShown, Standing, left_open}
use Rattle.cert_model.specs.Accepted.{accepted, refused}
use Rattle.cert_model.specs.Least.{plain, least, GoalVerdict, goal_verdict}
use Rattle.cert_model.specs.Limited.{limited}
use Rattle.cert_model.specs.AnswerText.{goal_verdict_text}
use Rattle.cert_model.proofs.Problems.{unit_axis, crossed, no_root, dyadic, minus_dyadic, head}

abbrev loosenings_of : ℕ → Loosenings
loosenings_of v = record { margin_bits = 20; delta_bits = 10; version = v }

abbrev least_head : List ℕ
least_head = codes "dpoly 4\nmargin 20\ndelta 10\nbound none\n"

abbrev value : Option Dyadic → List Standing → Option Space → GoalVerdict
value low left point = accepted (loosenings_of 2) (least (record { lower = low; over = left; point = point }))

-- the root, where x - 1 is at least -1
abbrev root : Standing
root = record { state = root_state unit_axis; does = open_line }

-- x in [0, 1], where x - 1 is the goal
abbrev of_unit : List ℕ → GoalVerdict
of_unit bytes = goal_verdict unit_axis 1 true None (least_head ++ bytes)

accepted_ones : map of_unit (
    codes "lower -1b0\ncover 0\ntree\nover\nend\n" ∷ codes "lower none\ncover 0\ntree\nover\nend\n" ∷ codes "lower -1b0\ncover 0\ntree\nover\nend\npoint\nreal 0\nend\n" ∷ []) ≡
    (value (Some (minus_dyadic 1 0)) (root ∷ []) None ∷ value None (root ∷ []) None ∷ value (Some (minus_dyadic 1 0)) (root ∷ []) (Some (real_domain (dyadic 0 0) (dyadic 0 0) ∷ [])) ∷ [])
unfolding Rattle.dyadic.specs.Fraction.negated Rattle.dyadic.specs.Fraction.sum_of Rattle.dyadic.specs.Fraction.product_of Rattle.dyadic.specs.Fraction.quotient_of Rattle.dyadic.specs.Fraction.at_most
accepted_ones = refl

-- the goal may be below the bound; a leaf that is left open or stuck; lines out of place
refused_ones : map of_unit (
    codes "lower -1b-1\ncover 0\ntree\nover\nend\n" ∷ codes "lower -1b-1\ncover 0\ntree\ncut 0 1b-1\nover\n" ∷ codes "lower none\ncover 0\ntree\nopen\n" ∷ codes "lower none\ncover 0\ntree\nstuck 1\n" ∷
    codes "lower none\ncover 0\ntree\nstuck 2\n" ∷ codes "cover 0\n" ∷ codes "lower none\npoint\n" ∷ codes "lower none\ncover 0\nover\n" ∷ codes "lower none\ncover 0\ntree\nover\nover\n" ∷
    codes "lower none\ncover 0\ntree\nover\nend\nend\n" ∷ codes "lower none\ncover 0\ntree\nover\nend\npoint\nover\n" ∷ codes "lower none\ncover 0\ntree\nover\nend\npoint\n" ∷
    codes "lower none\ncover 0\ntree\nover\nend\npoint\nreal 2b0\nend\n" ∷ codes "lower none\ncover 0\ntree\nover\nend\npoint\nreal 1b1\nend\n" ∷ codes "lower none\ncover 0\ntree\nover\n" ∷ codes "lower none\n" ∷
    codes "lower none\ncover 1\nlemma 0\nreal 0 1b0\nyes\nno\nover\n" ∷ []) ≡
    (refused OverFails 8 ∷ refused OverFails 9 ∷ refused (RuleFails open_word) 8 ∷ refused (RuleFails stuck_word) 8 ∷
    refused BadNumber 8 ∷ refused BadHeader 5 ∷ refused BadHeader 6 ∷ refused Missing 7 ∷ refused Extra 9 ∷
    refused Extra 10 ∷ refused Missing 11 ∷ refused Missing 11 ∷
    refused BadNumber 11 ∷ refused NotShown 12 ∷ refused Missing 9 ∷ refused BadHeader 6 ∷
    refused OverFails 11 ∷ [])
unfolding Rattle.dyadic.specs.Fraction.negated Rattle.dyadic.specs.Fraction.sum_of Rattle.dyadic.specs.Fraction.product_of Rattle.dyadic.specs.Fraction.quotient_of Rattle.dyadic.specs.Fraction.at_most
refused_ones = refl

-- bounds that cross; a certificate of the check, and one that has a line of least values
others : (goal_verdict crossed 0 true None (least_head ++ codes "lower 1b0\ncover 0\ntree\nempty 0\nend\n") ∷ goal_verdict crossed 0 true None (least_head ++ codes "lower 1b0\ncover 0\ntree\nover\n") ∷
    goal_verdict no_root 0 true None (head ++ codes "cover 0\ntree\nfalse\nend\n") ∷ goal_verdict no_root 0 true None (head ++ codes "cover 0\ntree\nover\n") ∷ goal_verdict no_root 0 true None (head ++ codes "lower none\n") ∷
    goal_verdict no_root 0 true None (codes "dpoly 3\n") ∷ []) ≡
    (accepted (loosenings_of 2) (least (record { lower = Some (dyadic 1 0); over = []; point = None })) ∷ refused OverFails 8 ∷
    accepted (loosenings_of 1) (plain (left_open [])) ∷ refused OverFails 7 ∷ refused BadHeader 5 ∷ refused BadHeader 1 ∷ [])
unfolding Rattle.dyadic.specs.Fraction.negated Rattle.dyadic.specs.Fraction.sum_of Rattle.dyadic.specs.Fraction.product_of Rattle.dyadic.specs.Fraction.quotient_of Rattle.dyadic.specs.Fraction.at_most
others = refl

-- x - 1 is nowhere below -3/2, nor at most that where it is a limit
abbrev limited_unit : Problem
limited_unit = limited unit_axis 1 12 (minus_dyadic 3 1)

limited_ones : map of_unit (
    codes "lower -3b-1\ngoal 12\ncover 0\ntree\nfalse\nend\n" ∷ codes "lower -3b-1\ngoal 12\ncover 0\ntree\nover\nend\n" ∷ codes "lower -3b-1\ngoal 12\ncover 0\ntree\ncase 2\nvoid 2\nover\nend\n" ∷
    codes "lower -3b0\ngoal 0\ncover 0\ntree\nfalse\nend\npoint\nreal 0\nend\n" ∷ []) ≡
    (value (Some (minus_dyadic 3 1)) [] None ∷ value (Some (minus_dyadic 3 1)) (record { state = root_state limited_unit; does = open_line } ∷ []) None ∷
    value (Some (minus_dyadic 3 1)) (record { state = with_no (root_state limited_unit) 2; does = open_line } ∷ []) None ∷
    value (Some (minus_dyadic 3 0)) [] (Some (real_domain (dyadic 0 0) (dyadic 0 0) ∷ [])) ∷ [])
unfolding Rattle.dyadic.specs.Fraction.negated Rattle.dyadic.specs.Fraction.sum_of Rattle.dyadic.specs.Fraction.product_of Rattle.dyadic.specs.Fraction.quotient_of Rattle.dyadic.specs.Fraction.at_most
limited_ones = refl

-- no bound, or no multiple; too many bits; a constant that is there; lines out of place; a bound that does not hold; no room
limit_faults : map of_unit (
    codes "lower none\ngoal 12\n" ∷ codes "lower -1b-5\ngoal 4\n" ∷ codes "lower -3b-1\ngoal 120\n" ∷ codes "lower -1b0\ngoal 12\n" ∷ codes "lower 1b-12\ngoal 12\n" ∷
    codes "goal 12\n" ∷ codes "lower -3b-1\ngoal 12\ngoal 12\n" ∷ codes "lower -3b-1\ncover 0\ngoal 12\n" ∷ codes "lower -3b-1\ngoal 12\n" ∷
    codes "lower -1b-1\ngoal 12\ncover 0\ntree\nfalse\n" ∷ codes "lower -3b-1\ncover 0\ntree\ncase 2\n" ∷ []) ≡
    (refused BadHeader 6 ∷ refused BadHeader 6 ∷ refused BadHeader 6 ∷ refused BadHeader 6 ∷ refused BadHeader 6 ∷
    refused BadHeader 5 ∷ refused BadHeader 7 ∷ refused Missing 7 ∷ refused BadHeader 7 ∷
    refused (RuleFails false_word) 9 ∷ refused BadNumber 8 ∷ [])
unfolding Rattle.dyadic.specs.Fraction.negated Rattle.dyadic.specs.Fraction.sum_of Rattle.dyadic.specs.Fraction.product_of Rattle.dyadic.specs.Fraction.quotient_of Rattle.dyadic.specs.Fraction.at_most
limit_faults = refl

no_room : goal_verdict unit_axis 1 false None (least_head ++ codes "lower -3b-1\ngoal 12\ncover 0\ntree\nfalse\nend\n") ≡ refused BadHeader 6
unfolding Rattle.dyadic.specs.Fraction.negated Rattle.dyadic.specs.Fraction.sum_of Rattle.dyadic.specs.Fraction.product_of Rattle.dyadic.specs.Fraction.quotient_of Rattle.dyadic.specs.Fraction.at_most
no_room = refl

texts : map (goal_verdict_text unit_axis 1) (value (Some (minus_dyadic 1 0)) (root ∷ []) None ∷ value None [] (Some (real_domain (dyadic 1 1) (dyadic 1 1) ∷ [])) ∷
    accepted (loosenings_of 1) (plain (left_open [])) ∷ refused OverFails 7 ∷ refused (RuleFails pull_word) 7 ∷ []) ≡
    (codes "confirmed lower -1b0\n" ∷ codes "confirmed lower none\nupper -1b-1\n" ∷ codes "confirmed unsat\nmargin 1b-20\n" ∷ codes "certificate fault 3 RuleFails over line 7\n" ∷ codes "certificate fault 3 RuleFails pull line 7\n" ∷ [])
unfolding Rattle.std.specs.Fmt.digits Rattle.dyadic.specs.Fraction.negated Rattle.dyadic.specs.Fraction.sum_of Rattle.dyadic.specs.Fraction.product_of Rattle.dyadic.specs.Fraction.quotient_of Rattle.dyadic.specs.Fraction.at_most
texts = refl
