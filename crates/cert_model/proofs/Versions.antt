-- What follows the rules in version 2 does so in version 3.
use Rattle.square_model.specs.Positive.{is_positive}
use Rattle.cover_model.specs.Combination.{marked_range}
use Rattle.std.proofs.Common.{◌≡◌, ℕ, zero, suc, List, [], ◌∷◌, ◌++◌, Bool, true, false, not, ◌&&◌, ◌||◌, cond, Option, Some, None, refl, ap, ap₂, sym, ◌∙◌, nat_le}
use Rattle.std.specs.Cmp.{both_ways}
use Rattle.poly_graph.specs.Marks.{Mark, is_yes}
use Rattle.poly_graph.specs.Problem.{Problem}
use Rattle.cover_model.specs.State.{State, Loosenings, margin_of, with_no, may, misses, root_state}
use Rattle.interval_model.specs.Space.{middle, Space, widest, test_axis}
use Rattle.cover_model.specs.Rules.{can_combine, closed, when, Line, narrow_by, Narrowing, end_by, void_by, by_squares, branch_by, cut_axis, flip_axis, case_atom, either_group, stay_by, stuck_atom, Left, one, two, can_narrow, narrowed_to, has_version_2, has_version_5, pulled, voided, narrowing, is_stuck_atom, are_undecided, are_groups, one_holds, with_all_yes, rule}
use Rattle.cover_model.specs.Honest.{is_honest, is_some_space, none_empty_from, none_below, none_misses, not_shown, settled, all_in_yes, conjuncts, is_small, is_wide, is_wide_domain, may_be_cut, is_middle_at}
use Rattle.cover_model.specs.Derivation.{Tree, leaf, then, fork, Lawful, at_closed, at_left, at_step, at_fork}
use Rattle.cert_model.specs.Due.{Standing, left_open}
use Rattle.cert_model.specs.Written.{leaf_standing, step_standing, fork_standing, left_standing, tree_standing, LemmaTree, AreLemmaTrees, lemma_states}
use Rattle.cert_model.proofs.Narrowings.{can_narrow_in, narrowed_in}
use Rattle.cert_model.specs.SessionLaws.{in_version_3, WrittenEnd, written_tree, written_crossing, WrittenPart, written_cover, written_point, value_of_end, value_of_part, standing_of_end, standing_of_part, IsLawfulEnd, IsLawfulPart}

-- what stands behind a line, by what stands behind the states that it leaves
step-same : (o : Option Left) (k j : State → List Standing) → ((S : State) → k S ≡ j S) → step_standing o k ≡ step_standing o j
step-same (Some (one S)) k j h = h S
step-same _ k j h = refl

fork-same : (o : Option Left) (k k' j j' : State → List Standing) → ((S : State) → k S ≡ j S) → ((S : State) → k' S ≡ j' S) → fork_standing o k k' ≡ fork_standing o j j'
fork-same (Some (two S S')) k k' j j' h g = ap₂ (λ (xs : List Standing) (ys : List Standing). xs ++ ys) (h S) (g S')
fork-same _ k k' j j' h g = refl

module _ (p : Problem) (s : Loosenings) (e : s.version ≡ 2) where
  reads : has_version_2 s ≡ true
  reads = ap (nat_le 2) e

  before : has_version_5 s ≡ false
  before = ap (nat_le 5) e

  lawful : (S : State) (n : Narrowing) → can_narrow p (in_version_3 s) S n ≡ can_narrow p s S n
  lawful S n = both_ways (can_narrow p (in_version_3 s) S n) (can_narrow p s S n) (can_narrow_in p (in_version_3 s) s.version S n (λ h. reads) (sym before)) (can_narrow_in p s 3 S n (λ h. refl) before)

  pub rule_same : (lemmas : List State) (S : State) (l : Line) → rule p (in_version_3 s) lemmas S l ≡ rule p s lemmas S l
  rule_same lemmas S (narrow_by n) = ap₂ (λ (t : Bool) (o : Option Space). cond t (pulled S o) None) (lawful S n) (narrowed_in p s 3 S n)
  rule_same lemmas S (end_by (void_by n)) = ap₂ (λ (t : Bool) (o : Option Space). cond t (voided o) None) (lawful S n) (narrowed_in p s 3 S n)
  rule_same lemmas S (end_by (by_squares ms bs)) = sym (ap (λ (t : Bool). when (t && can_combine p s S ms && is_positive p (marked_range p (margin_of s) S.marks) S.space (middle S.space) ms bs) closed) before)
  rule_same lemmas S (branch_by (either_group js ks)) = sym (ap (λ (t : Bool). when ((are_undecided S js && are_undecided S ks) && (t && are_groups js ks && one_holds p s S js ks)) (two (with_all_yes S js) (with_all_yes S ks))) before)
  rule_same lemmas S _ = refl

  module _ (lemmas : List State) where
    pub lawful_same : {S : State} {t : Tree} {rest : List State} → Lawful p s lemmas S t rest → Lawful p (in_version_3 s) lemmas S t rest
    lawful_same (at_closed {S = S} {l = l} h) = at_closed (rule_same lemmas S l ∙ h)
    lawful_same (at_left {S = S} {l = l} h) = at_left (rule_same lemmas S l ∙ h)
    lawful_same (at_step {S = S} {l = l} h r) = at_step (rule_same lemmas S l ∙ h) (lawful_same r)
    lawful_same (at_fork {S = S} {l = l} h r r') = at_fork (rule_same lemmas S l ∙ h) (lawful_same r) (lawful_same r')

    left-same : (S : State) (t : Tree) → left_standing p (in_version_3 s) lemmas S t ≡ left_standing p s lemmas S t
    left-same S (leaf l) = ap (leaf_standing S l) (rule_same lemmas S l)
    left-same S (then l t) =
        ap (λ (o : Option Left). step_standing o (λ X. left_standing p (in_version_3 s) lemmas X t)) (rule_same lemmas S l)
        ∙ step-same (rule p s lemmas S l) _ _ (λ X. left-same X t)
    left-same S (fork l t u) =
        ap (λ (o : Option Left). fork_standing o (λ X. left_standing p (in_version_3 s) lemmas X t) (λ X. left_standing p (in_version_3 s) lemmas X u)) (rule_same lemmas S l)
        ∙ fork-same (rule p s lemmas S l) _ _ _ _ (λ X. left-same X t) (λ X. left-same X u)

    tree-same : (S : State) (t : Tree) → tree_standing p (in_version_3 s) lemmas S t ≡ tree_standing p s lemmas S t
    tree-same S (leaf l) = refl
    tree-same S (then l t) = ap (λ (xs : List Standing). record { state = S; does = l } ∷ xs)
        (ap (λ (o : Option Left). step_standing o (λ X. tree_standing p (in_version_3 s) lemmas X t)) (rule_same lemmas S l)
        ∙ step-same (rule p s lemmas S l) _ _ (λ X. tree-same X t))
    tree-same S (fork l t u) = ap (λ (xs : List Standing). record { state = S; does = l } ∷ xs)
        (ap (λ (o : Option Left). fork_standing o (λ X. tree_standing p (in_version_3 s) lemmas X t) (λ X. tree_standing p (in_version_3 s) lemmas X u)) (rule_same lemmas S l)
        ∙ fork-same (rule p s lemmas S l) _ _ _ _ (λ X. tree-same X t) (λ X. tree-same X u))

    end-lawful : (x : WrittenEnd) → IsLawfulEnd p s lemmas x → IsLawfulEnd p (in_version_3 s) lemmas x
    end-lawful (written_tree t) h = (h.0, (h.1.0, lawful_same h.1.1), h.2)
    end-lawful (written_crossing i) h = h

    end-value : (x : WrittenEnd) → value_of_end (in_version_3 s) p lemmas x ≡ value_of_end s p lemmas x
    end-value (written_tree t) = ap left_open (left-same (root_state p) t)
    end-value (written_crossing i) = refl

    end-standing : (x : WrittenEnd) → standing_of_end (in_version_3 s) p lemmas x ≡ standing_of_end s p lemmas x
    end-standing (written_tree t) = tree-same (root_state p) t
    end-standing (written_crossing i) = refl

  lemma-trees-same : (before : List State) (xs : List LemmaTree) → AreLemmaTrees p s before xs → AreLemmaTrees p (in_version_3 s) before xs
  lemma-trees-same before [] h = tt
  lemma-trees-same before (x ∷ xs) h =
      (record { fits = h.0.fits; marks = h.0.marks; lawful = lawful_same before h.0.lawful; names = h.0.names }, lemma-trees-same (before ++ (x.state ∷ [])) xs h.1)

  part-lawful : (may_keep : List State) (x : WrittenPart) → IsLawfulPart s p may_keep x → IsLawfulPart (in_version_3 s) p may_keep x
  part-lawful may_keep (written_cover kept lemmas end) h = (h.0, h.1, lemma-trees-same kept lemmas h.2, end-lawful (kept ++ lemma_states lemmas) end h.3)
  part-lawful may_keep (written_point space) h = h

  part-value : (x : WrittenPart) → value_of_part (in_version_3 s) p x ≡ value_of_part s p x
  part-value (written_cover kept lemmas end) = end-value (kept ++ lemma_states lemmas) end
  part-value (written_point space) = refl

  part-standing : (x : WrittenPart) → standing_of_part (in_version_3 s) p x ≡ standing_of_part s p x
  part-standing (written_cover kept lemmas end) = end-standing (kept ++ lemma_states lemmas) end
  part-standing (written_point space) = refl

pub lawful_in_version_3 : (s : Loosenings) → s.version ≡ 2 → (p : Problem) (may_keep : List State) (x : WrittenPart) → IsLawfulPart s p may_keep x →
    IsLawfulPart (in_version_3 s) p may_keep x × (value_of_part (in_version_3 s) p x ≡ value_of_part s p x) × (standing_of_part (in_version_3 s) p x ≡ standing_of_part s p x)
lawful_in_version_3 s e p may_keep x h = (part-lawful p s e may_keep x h, part-value p s e x, part-standing p s e x)

-- ---- honesty

module _ (s : Loosenings) (e : s.version ≡ 2) (p : Problem) where
  empty-same : (S : State) (j : ℕ) (marks : List Mark) → none_empty_from p (in_version_3 s) S j marks ≡ none_empty_from p s S j marks
  empty-same S j [] = refl
  empty-same S j (m ∷ marks) = ap (λ (t : Bool). (not (is_yes m) || is_some_space (narrowing p s S j)) && t) (empty-same S (suc j) marks)

  settled-same : (S : State) → settled p (in_version_3 s) S ≡ settled p s S
  settled-same S = ap (λ (t : Bool). all_in_yes S (conjuncts p.form) && t) (empty-same S 0 S.marks)

  below-same : (S : State) (j : ℕ) → none_below p (in_version_3 s) S j ≡ none_below p s S j
  below-same S zero = refl
  below-same S (suc j) = ap (λ (t : Bool). not (is_stuck_atom p s S j) && t) (below-same S j)

  group-same : (S : State) (js : List ℕ) → none_misses p (in_version_3 s) S js ≡ none_misses p s S js
  group-same S [] = refl
  group-same S (j ∷ js) = ap (λ (t : Bool). not (misses p (margin_of s) S.space j) && t) (group-same S js)

  cuts-same : (w axis : ℕ) (space : Space) → may_be_cut w (in_version_3 s) axis space ≡ may_be_cut w s axis space
  cuts-same w axis space = ap (λ (t : Bool). cond t (test_axis (is_wide_domain w) axis space) (is_wide w axis (widest space))) (sym (ap (λ (v : ℕ). nat_le 5 v) e))

  pub honest_in_version_3 : (w : ℕ) (S : State) (l : Line) → is_honest p w (in_version_3 s) S l ≡ is_honest p w s S l
  honest_in_version_3 w S (branch_by (cut_axis axis c)) = ap₂ (λ (t : Bool) (u : Bool). not_shown p s S && t && u && is_middle_at axis c S.space) (settled-same S) (cuts-same w axis S.space)
  honest_in_version_3 w S (branch_by (flip_axis axis)) = ap (λ (t : Bool). not_shown p s S && t) (settled-same S)
  honest_in_version_3 w S (branch_by (case_atom j)) = ap (λ (t : Bool). not_shown p s S && t && may p s (with_no S j) && not (misses p (margin_of s) S.space j)) (settled-same S)
  honest_in_version_3 w S (branch_by (either_group js ks)) =
      ap₂ (λ (t : Bool) (u : Bool). t && u) (ap₂ (λ (t : Bool) (u : Bool). not_shown p s S && t && u) (settled-same S) (group-same S js)) (group-same S ks)
  honest_in_version_3 w S (stay_by (stuck_atom j)) = ap₂ (λ (t : Bool) (u : Bool). not_shown p s S && t && is_small w S.space && u) (settled-same S) (below-same S j)
  honest_in_version_3 w S _ = refl
