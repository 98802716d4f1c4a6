-- Worked certificates, computed from their bytes.
use Rattle.std.proofs.Common.{◌≡◌, ℕ, List, [], ◌∷◌, ◌++◌, Bool, true, false, Some, None, map, refl, codes}
use Rattle.interval_model.specs.Space.{real_domain, bool_domain}
use Rattle.cover_model.specs.State.{Loosenings, root_state}
use Rattle.cover_model.specs.Rules.{open_line}
use Rattle.cover_model.specs.Honest.{is_honest}
use Rattle.cover_line.specs.Words.{empty_word, pull_word, push_word, void_no_word, combine_word, void_combine_word, by_word, cut_word, case_word, stuck_word, open_word, false_word}
use Rattle.cert_model.specs.Due.{BadHeader, BadNumber, RuleFails, Missing, Extra, WrongBound, NotShown, BadLine, at_point, left_open}
use Rattle.cert_model.specs.Accepted.{Verdict, accepted, refused, verdict}
use Rattle.cert_model.specs.Standing.{standing, branches}
use Rattle.cert_model.proofs.Problems.{no_root, unit_axis, crossed, circle, wide_axis, opposite_products, two_sides, one_bool, dyadic, minus_dyadic, head}

abbrev usual : Loosenings
usual = record { margin_bits = 20; delta_bits = 10; version = 1 }

abbrev nothing_left : Verdict
nothing_left = accepted usual (left_open [])

-- ---- covers that leave nothing

false_at_root : verdict no_root None (head ++ codes "cover 0\ntree\nfalse\nend\n") ≡ nothing_left
unfolding Rattle.dyadic.specs.Fraction.negated Rattle.dyadic.specs.Fraction.sum_of Rattle.dyadic.specs.Fraction.product_of Rattle.dyadic.specs.Fraction.quotient_of Rattle.dyadic.specs.Fraction.at_most
false_at_root = refl

crossed_bounds : map (verdict crossed None) ((head ++ codes "cover 0\ntree\nempty 0\nend\n") ∷ (head ++ codes "cover 0\ntree\nempty 1\nend\n") ∷ (head ++ codes "cover 0\ntree\nfalse\nend\n") ∷ []) ≡
    (nothing_left ∷ refused BadNumber 7 ∷ refused (RuleFails false_word) 7 ∷ [])
unfolding Rattle.dyadic.specs.Fraction.negated Rattle.dyadic.specs.Fraction.sum_of Rattle.dyadic.specs.Fraction.product_of Rattle.dyadic.specs.Fraction.quotient_of Rattle.dyadic.specs.Fraction.at_most
crossed_bounds = refl

three_boxes : verdict circle None (head ++ codes "cover 0\ntree\ncut 0 1b0\ncut 1 1b0\nunit 5\npull 5\nfalse\nunit 4\npull 4\nfalse\nunit 4\npull 4\nfalse\nend\n") ≡ nothing_left
unfolding Rattle.dyadic.specs.Fraction.negated Rattle.dyadic.specs.Fraction.sum_of Rattle.dyadic.specs.Fraction.product_of Rattle.dyadic.specs.Fraction.quotient_of Rattle.dyadic.specs.Fraction.at_most
three_boxes = refl

-- ---- a lemma, cited by `by` and by `ban`; and four faults

abbrev with_lemma : List ℕ
with_lemma = head ++ codes "cover 1\nlemma 0\nreal 0 1b0\nyes 4\nno\npull 4\nfalse\ntree\n"

by_a_lemma : map (verdict two_sides None) (
    (with_lemma ++ codes "unit 4\nby 0\nend\n") ∷ (with_lemma ++ codes "unit 4\nby 0\nend") ∷ (with_lemma ++ codes "ban 4 0\nfalse\nend\n") ∷
    (with_lemma ++ codes "unit 4\nby 0\n") ∷ (with_lemma ++ codes "unit 4\nby 0\nend\nend\n") ∷
    (head ++ codes "cover 1\nlemma 0\nreal 0 1b0\nyes 4\nno\nby 0\ntree\nunit 4\nby 0\nend\n") ∷ (head ++ codes "cover 0\ntree\npull 4\nfalse\nend\n") ∷ []) ≡
    (nothing_left ∷ nothing_left ∷ nothing_left ∷ refused Missing 15 ∷ refused Extra 16 ∷ refused (RuleFails by_word) 10 ∷ refused (RuleFails pull_word) 7 ∷ [])
unfolding Rattle.dyadic.specs.Fraction.negated Rattle.dyadic.specs.Fraction.sum_of Rattle.dyadic.specs.Fraction.product_of Rattle.dyadic.specs.Fraction.quotient_of Rattle.dyadic.specs.Fraction.at_most
by_a_lemma = refl

-- ---- version 2: an atom marked no narrows too

abbrev second_usual : Loosenings
second_usual = record { margin_bits = 20; delta_bits = 10; version = 2 }

abbrev second_head : List ℕ
second_head = codes "dpoly 2\nmargin 20\ndelta 10\nbound none\n"

-- x is above 1/4, so at least 3/4, where its square is more than 1/4; the same lines with one other
pushes : map (verdict two_sides None) (
    (second_head ++ codes "cover 0\ntree\ncase 3\npull 3\nfalse\npush 3\nunit 2\npull 2\nfalse\nend\n") ∷
    (head ++ codes "cover 0\ntree\ncase 3\npull 3\nfalse\npush 3\nunit 2\npull 2\nfalse\nend\n") ∷
    (second_head ++ codes "cover 0\ntree\ncase 3\npull 3\nfalse\npush 2\nunit 2\npull 2\nfalse\nend\n") ∷
    (second_head ++ codes "cover 0\ntree\ncase 3\npull 3\nfalse\nvoidno 3\nend\n") ∷
    (head ++ codes "cover 0\ntree\ncase 3\npull 3\nfalse\nvoidno 3\nend\n") ∷
    (second_head ++ codes "cover 0\ntree\ncase 4\npull 4\nopen\npush 4\n") ∷
    (second_head ++ codes "cover 0\ntree\npush 5\n") ∷
    (second_head ++ codes "cover 1\nlemma 0\nreal 0 1b-2\nyes\nno 3\nvoidno 3\ntree\ncase 3\npull 3\nfalse\npush 3\nunit 2\npull 2\nfalse\nend\n") ∷ []) ≡
    (accepted second_usual (left_open []) ∷ refused (RuleFails push_word) 10 ∷ refused (RuleFails push_word) 10 ∷ refused (RuleFails void_no_word) 10 ∷ refused (RuleFails void_no_word) 10 ∷
    refused (RuleFails push_word) 10 ∷ refused BadNumber 7 ∷ accepted second_usual (left_open []) ∷ [])
unfolding Rattle.dyadic.specs.Fraction.negated Rattle.dyadic.specs.Fraction.sum_of Rattle.dyadic.specs.Fraction.product_of Rattle.dyadic.specs.Fraction.quotient_of Rattle.dyadic.specs.Fraction.at_most
pushes = refl

-- ---- version 2: combinations

-- x is above 1/4, so at least 3/4, where x * x - 1/4 is not at most x - 3/4
abbrev above : List ℕ
above = codes "cover 0\ntree\ncase 3\npull 3\nfalse\nunit 2\nunit 4\n"

combined : map (verdict two_sides None) (
    (second_head ++ above ++ codes "voidcomb 2 1b0 4 -1b0\nend\n") ∷
    (second_head ++ codes "cover 0\ntree\ncase 3\npull 3\nfalse\ncomb 3 1b0\nunit 2\npull 2\nfalse\nend\n") ∷
    (head ++ above ++ codes "voidcomb 2 1b0 4 -1b0\nend\n") ∷
    (second_head ++ above ++ codes "comb 2 1b0 4 -1b0\nend\n") ∷
    (second_head ++ above ++ codes "voidcomb 2 1b0\nend\n") ∷
    (second_head ++ above ++ codes "voidcomb 4 -1b0 2 1b0\nend\n") ∷
    (second_head ++ above ++ codes "voidcomb 2 1b0 3 0 4 -1b0\nend\n") ∷
    (second_head ++ above ++ codes "voidcomb 1 1b0 2 1b0 4 -1b0\nend\n") ∷ []) ≡
    (accepted second_usual (left_open []) ∷ accepted second_usual (left_open []) ∷ refused (RuleFails void_combine_word) 12 ∷ refused (RuleFails combine_word) 12 ∷
    refused (RuleFails void_combine_word) 12 ∷ refused (RuleFails void_combine_word) 12 ∷ refused (RuleFails void_combine_word) 12 ∷ refused (RuleFails void_combine_word) 12 ∷ [])
unfolding Rattle.dyadic.specs.Fraction.negated Rattle.dyadic.specs.Fraction.sum_of Rattle.dyadic.specs.Fraction.product_of Rattle.dyadic.specs.Fraction.quotient_of Rattle.dyadic.specs.Fraction.at_most
combined = refl

-- no pair, an odd number of words, another spelling, and an atom that is not there
combined_badly : map (verdict two_sides None) (
    (second_head ++ codes "cover 0\ntree\ncomb\n") ∷ (second_head ++ codes "cover 0\ntree\nvoidcomb 2 1b0 4\n") ∷ (second_head ++ codes "cover 0\ntree\ncomb 2 2b-1\n") ∷
    (second_head ++ codes "cover 0\ntree\ncomb 2 1b0 5 1b0\n") ∷ []) ≡
    (refused BadLine 7 ∷ refused BadLine 7 ∷ refused BadNumber 7 ∷ refused BadNumber 7 ∷ [])
unfolding Rattle.dyadic.specs.Fraction.negated Rattle.dyadic.specs.Fraction.sum_of Rattle.dyadic.specs.Fraction.product_of Rattle.dyadic.specs.Fraction.quotient_of Rattle.dyadic.specs.Fraction.at_most
combined_badly = refl

-- ---- points

points : map (verdict unit_axis None) ((head ++ codes "point\nreal 1b-1\nend\n") ∷ (head ++ codes "point\nreal 1b1\nend\n") ∷ (head ++ codes "point\nreal 1025b-10\nend\n") ∷
    (head ++ codes "point\nreal 2049b-11\nend\n") ∷ (head ++ codes "point\nreal -1b-9\nend\n") ∷ (head ++ codes "point\nend\n") ∷ (head ++ codes "point\nbool both\nend\n") ∷ (head ++ codes "point\nreal 0\nfalse\nend\n") ∷ []) ≡
    (accepted usual (at_point (real_domain (dyadic 1 1) (dyadic 1 1) ∷ [])) ∷ refused NotShown 7 ∷ accepted usual (at_point (real_domain (dyadic 1025 10) (dyadic 1025 10) ∷ [])) ∷
    accepted usual (at_point (real_domain (dyadic 2049 11) (dyadic 2049 11) ∷ [])) ∷ refused NotShown 7 ∷ refused Missing 6 ∷ refused Missing 6 ∷ refused Missing 7 ∷ [])
unfolding Rattle.dyadic.specs.Fraction.negated Rattle.dyadic.specs.Fraction.sum_of Rattle.dyadic.specs.Fraction.product_of Rattle.dyadic.specs.Fraction.quotient_of Rattle.dyadic.specs.Fraction.at_most
points = refl

bools : map (verdict one_bool None) ((head ++ codes "point\nbool true\nend\n") ∷ (head ++ codes "point\nbool false\nend\n") ∷ (head ++ codes "point\nbool both\nend\n") ∷ (head ++ codes "point\nreal 0\nend\n") ∷
    (head ++ codes "cover 0\ntree\nflip 0\nfalse\nopen\nend\n") ∷ (head ++ codes "cover 0\ntree\ncut 0 0\n") ∷ []) ≡
    (accepted usual (at_point (bool_domain false true ∷ [])) ∷ refused NotShown 7 ∷ refused BadLine 6 ∷ refused Missing 6 ∷
    accepted usual (left_open (record { state = record { space = bool_domain false true ∷ []; marks = [] }; does = open_line } ∷ [])) ∷ refused (RuleFails cut_word) 7 ∷ [])
unfolding Rattle.dyadic.specs.Fraction.negated Rattle.dyadic.specs.Fraction.sum_of Rattle.dyadic.specs.Fraction.product_of Rattle.dyadic.specs.Fraction.quotient_of Rattle.dyadic.specs.Fraction.at_most
bools = refl

-- ---- the bound of the words

abbrev with_bound : List ℕ
with_bound = codes "dpoly 1\nmargin 20\ndelta 10\nbound 8\npoint\nreal -1b2\nend\n"

bound_of_words : (verdict wide_axis (Some 8) with_bound ∷ verdict wide_axis (Some 9) with_bound ∷ verdict wide_axis None with_bound ∷ []) ≡
    (accepted usual (at_point (real_domain (minus_dyadic 4 0) (minus_dyadic 4 0) ∷ [])) ∷ refused WrongBound 4 ∷ refused WrongBound 4 ∷ [])
unfolding Rattle.dyadic.specs.Fraction.negated Rattle.dyadic.specs.Fraction.sum_of Rattle.dyadic.specs.Fraction.product_of Rattle.dyadic.specs.Fraction.quotient_of Rattle.dyadic.specs.Fraction.at_most
bound_of_words = refl

-- ---- hostile certificates

hostile : map (verdict no_root None) (
    [] ∷ codes "dpoly 1\nmargin 020\n" ∷ codes "dpoly 1\nmargin 9\ndelta 10\n" ∷ (head ++ codes "cover 0\ntree\ncut 0 1b0\n") ∷ (head ++ codes "cover 0\ntree\ncut 1 1b-1\n") ∷
    (head ++ codes "cover 0\ntree\ncase 0\ncase 0\n") ∷ (head ++ codes "cover 0\ntree\nstuck 2\n") ∷ (head ++ codes "cover 0\ntree\nstuck 0\n") ∷
    (head ++ codes "cover 0\ntree\nfalse\nfalse\n") ∷ (head ++ codes "cover 0\ntree\nfalse\n") ∷ []) ≡
    (refused BadHeader 1 ∷ refused BadNumber 2 ∷ refused BadHeader 3 ∷ refused (RuleFails cut_word) 7 ∷ refused BadNumber 7 ∷
    refused (RuleFails case_word) 8 ∷ refused (RuleFails stuck_word) 7 ∷ refused (RuleFails stuck_word) 7 ∷ refused Extra 8 ∷ refused Missing 8 ∷ [])
unfolding Rattle.dyadic.specs.Fraction.negated Rattle.dyadic.specs.Fraction.sum_of Rattle.dyadic.specs.Fraction.product_of Rattle.dyadic.specs.Fraction.quotient_of Rattle.dyadic.specs.Fraction.at_most
hostile = refl

-- header and places
headers : map (verdict no_root None) (
    codes "dpoly 3\n" ∷ codes "dpoly 0\n" ∷ codes "dpoly 1\nmargin 61\ndelta 10\n" ∷ codes "dpoly 1\nmargin 60\ndelta 31\n" ∷ codes "dpoly 1\nmargin 60\ndelta 0\n" ∷ codes "dpoly 1\nmargin 60\ndelta 30\n" ∷
    codes "dpoly 1\ndelta 10\n" ∷ codes "dpoly 1\nmargin 20\ndelta 10\nbound 4294967296\n" ∷ codes "dpoly 1\nmargin 20\ndelta 10\nbound x y\n" ∷
    (head ++ codes "cover 1048577\n") ∷ (head ++ codes "cover 4294967296\n") ∷ (head ++ codes "tree\n") ∷ (head ++ codes "cover 0\nfalse\n") ∷ (head ++ codes "cover 0\nlemma 0\n") ∷
    (head ++ codes "cover 1\ntree\n") ∷ (head ++ codes "cover 1\nlemma 1\n") ∷ (head ++ codes "cover 1\nlemma 0\nreal 1b0 0\n") ∷ (head ++ codes "cover 1\nlemma 0\nbool true\n") ∷
    (head ++ codes "cover 1\nlemma 0\nreal 0 1b0\nyes 1 1\n") ∷ (head ++ codes "cover 1\nlemma 0\nreal 0 1b0\nyes 3\n") ∷ (head ++ codes "cover 1\nlemma 0\nreal 0 1b0\nyes 1\nno 0 1\n") ∷
    (head ++ codes "cover 1\nlemma 0\nreal 0 1b0\nyes\nno\nopen\n") ∷ (head ++ codes "cover 1\nlemma 0\nreal 0 1b0\nyes\nno\nempty 0\n") ∷ (head ++ codes "cover 1\nlemma 0\nreal 0 1b0\nyes\nno\nfalse\nfalse\n") ∷
    (head ++ codes "cover 0\ntree\nempty 0\n") ∷ (head ++ codes "cover 0\ntree\nby 0\n") ∷ (head ++ codes "cover 0\ntree\npull 3\n") ∷ (head ++ codes "cover 0\ntree\nend\n") ∷ (head ++ codes "cover 0\ntree\n\n") ∷ []) ≡
    (refused BadHeader 1 ∷ refused BadHeader 1 ∷ refused BadHeader 3 ∷ refused BadHeader 3 ∷ refused BadHeader 3 ∷ refused BadHeader 4 ∷ refused BadHeader 2 ∷ refused BadNumber 4 ∷ refused BadLine 4 ∷
    refused BadHeader 5 ∷ refused BadNumber 5 ∷ refused BadHeader 5 ∷ refused Missing 6 ∷ refused Missing 6 ∷
    refused Missing 6 ∷ refused BadNumber 6 ∷ refused BadNumber 7 ∷ refused Missing 7 ∷
    refused BadNumber 8 ∷ refused BadNumber 8 ∷ refused BadNumber 9 ∷
    refused (RuleFails open_word) 10 ∷ refused (RuleFails empty_word) 10 ∷ refused Extra 11 ∷
    refused (RuleFails empty_word) 7 ∷ refused (RuleFails by_word) 7 ∷ refused BadNumber 7 ∷ refused Missing 7 ∷ refused BadLine 7 ∷ [])
unfolding Rattle.dyadic.specs.Fraction.negated Rattle.dyadic.specs.Fraction.sum_of Rattle.dyadic.specs.Fraction.product_of Rattle.dyadic.specs.Fraction.quotient_of Rattle.dyadic.specs.Fraction.at_most
headers = refl

-- ---- an open state, and honest lines

open_root : verdict opposite_products None (head ++ codes "cover 0\ntree\nopen\nend\n") ≡ accepted usual (left_open (record { state = root_state opposite_products; does = open_line } ∷ []))
unfolding Rattle.dyadic.specs.Fraction.negated Rattle.dyadic.specs.Fraction.sum_of Rattle.dyadic.specs.Fraction.product_of Rattle.dyadic.specs.Fraction.quotient_of Rattle.dyadic.specs.Fraction.at_most
open_root = refl

honest_of : List ℕ → List Bool
honest_of bytes = map (λ x. is_honest opposite_products 20 x.loosenings x.line.state x.line.does) (standing opposite_products None bytes)

-- an open root; a cut at the middle of the first axis before its atoms are marked yes, and after; and one that is not at the middle
honest_lines : map honest_of (
    (head ++ codes "cover 0\ntree\nopen\nend\n") ∷ (head ++ codes "cover 0\ntree\ncut 0 0\nopen\nopen\nend\n") ∷
    (head ++ codes "cover 0\ntree\nunit 0\nunit 1\nunit 2\nunit 3\nunit 4\ncut 0 0\nopen\nopen\nend\n") ∷
    (head ++ codes "cover 0\ntree\nunit 0\nunit 1\nunit 2\nunit 3\nunit 4\ncut 0 1b-2\nopen\nopen\nend\n") ∷ []) ≡
    ((true ∷ []) ∷ (false ∷ true ∷ true ∷ []) ∷ (true ∷ true ∷ true ∷ true ∷ true ∷ true ∷ true ∷ true ∷ []) ∷ (true ∷ true ∷ true ∷ true ∷ true ∷ false ∷ true ∷ true ∷ []) ∷ [])
unfolding honest_of Rattle.dyadic.specs.Fraction.negated Rattle.dyadic.specs.Fraction.sum_of Rattle.dyadic.specs.Fraction.product_of Rattle.dyadic.specs.Fraction.quotient_of Rattle.dyadic.specs.Fraction.at_most
honest_lines = refl

branch_lines : branches opposite_products None (head ++ codes "cover 0\ntree\nunit 0\ncut 0 0\nopen\ncase 4\nopen\nopen\nend\n") ≡ 2
unfolding Rattle.dyadic.specs.Fraction.negated Rattle.dyadic.specs.Fraction.sum_of Rattle.dyadic.specs.Fraction.product_of Rattle.dyadic.specs.Fraction.quotient_of Rattle.dyadic.specs.Fraction.at_most
branch_lines = refl
