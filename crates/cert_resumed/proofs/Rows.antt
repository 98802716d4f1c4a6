-- Worked covers that go on, computed.
use Rattle.std.proofs.Common.{◌≡◌, ℕ, List, [], ◌∷◌, ◌++◌, None, refl, codes}
use Rattle.interval_model.specs.Space.{real_domain}
use Rattle.poly_graph.specs.Marks.{unmarked, marked_yes}
use Rattle.cover_model.specs.State.{State, Loosenings, root_state}
use Rattle.cover_model.specs.Rules.{Line, pull, unit, make_false, by, cut, flip, open_line, stuck}
use Rattle.cover_model.specs.Derivation.{Tree, leaf, then, fork}
use Rattle.cert_read.specs.CertLine.{lemma, real_interval, yes_list, no_list, rule_line}
use Rattle.cert_model.specs.Due.{Standing, left_open}
use Rattle.cert_model.specs.Accepted.{accepted, verdict}
use Rattle.cert_model.specs.Written.{LemmaTree}
use Rattle.cert_model.proofs.Problems.{opposite_products, two_sides, dyadic, head}
use Rattle.cert_resumed.specs.Resumed.{grafted, leaving_lines, CoverRead, IsCoverRead, resumed_text, joined, Share, own_left, others}

-- ---- lines and lists

-- each leaving line takes the next tree; where no tree is left it stays
grafted_lines : grafted (flip 0 ∷ open_line ∷ pull 1 ∷ stuck 2 ∷ []) (then (pull 3) (leaf make_false) ∷ leaf (by 0) ∷ leaf open_line ∷ []) ≡ flip 0 ∷ pull 3 ∷ make_false ∷ pull 1 ∷ by 0 ∷ []
grafted_lines = refl

too_few_trees : grafted (flip 0 ∷ stuck 2 ∷ open_line ∷ []) (leaf make_false ∷ []) ≡ flip 0 ∷ make_false ∷ open_line ∷ []
too_few_trees = refl

lines_that_leave : leaving_lines (flip 0 ∷ stuck 2 ∷ flip 1 ∷ make_false ∷ open_line ∷ []) ≡ stuck 2 ∷ open_line ∷ []
lines_that_leave = refl

abbrev at : Line → Standing
at l = record { state = record { space = []; marks = [] }; does = l }

-- of three states that stayed the first leaves two, the second nothing, the third one
abbrev three : List (List Standing)
three = (at open_line ∷ at (stuck 1) ∷ []) ∷ [] ∷ (at (stuck 2) ∷ []) ∷ []

all_of_three : joined three ≡ at open_line ∷ at (stuck 1) ∷ at (stuck 2) ∷ []
all_of_three = refl

abbrev share : ℕ → ℕ → Share
share i n = record { number = i; count = n }

shares_of_three : (own_left (share 1 1) 0 three ∷ own_left (share 1 2) 0 three ∷ own_left (share 2 2) 0 three ∷ own_left (share 3 3) 0 three ∷ []) ≡
    (joined three ∷ joined three ∷ [] ∷ (at (stuck 2) ∷ []) ∷ [])
shares_of_three = refl

others_of_three : (others (share 1 1) 0 three ∷ others (share 1 2) 0 three ∷ others (share 2 2) 0 three ∷ others (share 4 4) 0 three ∷ []) ≡ (0 ∷ 1 ∷ 2 ∷ 3 ∷ [])
others_of_three = refl

-- ---- an open root that is cut

abbrev first : Loosenings
first = record { margin_bits = 20; delta_bits = 10; version = 1 }

abbrev second : Loosenings
second = record { margin_bits = 20; delta_bits = 10; version = 2 }

abbrev open_root : CoverRead
open_root = record { loosenings = first; lemma_lines = []; lemmas = []; main = open_line ∷ []; left = record { state = root_state opposite_products; does = open_line } ∷ [] }

open_root_is_read : IsCoverRead opposite_products None (head ++ codes "cover 0\ntree\nopen\nend\n") open_root
unfolding Rattle.dyadic.specs.Fraction.negated Rattle.dyadic.specs.Fraction.sum_of Rattle.dyadic.specs.Fraction.product_of Rattle.dyadic.specs.Fraction.quotient_of Rattle.dyadic.specs.Fraction.at_most
open_root_is_read = record { accepted = refl; lines = refl; ends = refl }

abbrev cut_tree : Tree
cut_tree = fork (cut 0 (dyadic 0 0)) (leaf open_line) (leaf open_line)

cut_text : resumed_text 2 None open_root [] (cut_tree ∷ []) ≡ codes "dpoly 2\nmargin 20\ndelta 10\nbound none\ncover 0\ntree\ncut 0 0\nopen\nopen\nend\n"
unfolding Rattle.std.specs.Fmt.digits
cut_text = refl

-- ---- lemmas behind those that were there

abbrev marked : State
marked = record { space = real_domain (dyadic 0 0) (dyadic 1 0) ∷ []; marks = unmarked ∷ unmarked ∷ unmarked ∷ unmarked ∷ marked_yes ∷ [] }

abbrev one_lemma : CoverRead
one_lemma = record {
  loosenings = first;
  lemma_lines = lemma 0 ∷ real_interval (dyadic 0 0) (dyadic 1 0) ∷ yes_list (4 ∷ []) ∷ no_list [] ∷ rule_line (pull 4) ∷ rule_line make_false ∷ [];
  lemmas = marked ∷ [];
  main = open_line ∷ [];
  left = record { state = root_state two_sides; does = open_line } ∷ [];
}

one_lemma_is_read : IsCoverRead two_sides None (head ++ codes "cover 1\nlemma 0\nreal 0 1b0\nyes 4\nno\npull 4\nfalse\ntree\nopen\nend\n") one_lemma
unfolding Rattle.dyadic.specs.Fraction.negated Rattle.dyadic.specs.Fraction.sum_of Rattle.dyadic.specs.Fraction.product_of Rattle.dyadic.specs.Fraction.quotient_of Rattle.dyadic.specs.Fraction.at_most
one_lemma_is_read = record { accepted = refl; lines = refl; ends = refl }

abbrev again : LemmaTree
again = record { state = marked; tree = leaf (by 0) }

abbrev two_lemmas : List ℕ
two_lemmas = resumed_text 2 None one_lemma (again ∷ []) (then (unit 4) (leaf (by 1)) ∷ [])

two_lemmas_text : two_lemmas ≡
    codes "dpoly 2\nmargin 20\ndelta 10\nbound none\ncover 2\nlemma 0\nreal 0 1b0\nyes 4\nno\npull 4\nfalse\nlemma 1\nreal 0 1b0\nyes 4\nno\nby 0\ntree\nunit 4\nby 1\nend\n"
unfolding Rattle.std.specs.Fmt.digits
two_lemmas_text = refl

two_lemmas_verdict : verdict two_sides None two_lemmas ≡ accepted second (left_open [])
unfolding Rattle.dyadic.specs.Fraction.negated Rattle.dyadic.specs.Fraction.sum_of Rattle.dyadic.specs.Fraction.product_of Rattle.dyadic.specs.Fraction.quotient_of Rattle.dyadic.specs.Fraction.at_most Rattle.std.specs.Fmt.digits
two_lemmas_verdict = refl
