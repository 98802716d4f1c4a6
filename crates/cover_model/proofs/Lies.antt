-- What a rule leaves, and what stays of a lawful tree, lies within its state.
use Rattle.std.proofs.Common.{◌≡◌, inl, inr, ℕ, suc, zero, List, [], ◌∷◌, ◌++◌, Bool, true, false, not, cond, IsTrue, Option, Some, None, refl, sym, subst, true≢false}
use Rattle.std.specs.Prelude.{slice_set}
use Rattle.std.specs.List.{AllByRecursion}
use Rattle.dyadic.specs.Fraction.{at_most}
use Rattle.dyadic.specs.Rounding.{Dyadic, exact}
use Rattle.dyadic.proofs.Equal.{both_true, both_pass, total}
use Rattle.interval_model.proofs.EndsProducts.{at_most_refl}
use Rattle.interval_model.specs.Space.{Domain, real_domain, bool_domain, Space, domain_within, space_within, middle, strictly_inside, lower_part, upper_part, is_undecided, keep, changed, test_axis}
use Rattle.cover_model.specs.OffRange.{off_range}
use Rattle.cover_model.specs.Space.{range}
use Rattle.poly_graph.specs.Problem.{Problem, IsProblem, atom_at}
use Rattle.poly_graph.specs.Marks.{Mark, marked_yes, marked_no, unmarked, is_no, is_unmarked, mark_at, mark_within, undecided_in, marks_within}
use Rattle.cover_model.specs.State.{State, Loosenings, margin_of, in_no, undecided, with_mark, with_yes, with_space, may, covers}
use Rattle.cover_model.specs.Combination.{Multipliers, marked_range}
use Rattle.cover_model.specs.Rules.{Line, narrow_by, end_by, mark_by, branch_by, stay_by, Narrowing, by_range, by_off_range, by_combination, Ending, void_by, by_squares, false_form, by_lemma, Marking, unit_atom, ban_atom, Branching, cut_axis, flip_axis, case_atom, either_group, Left, closed, one, two, stays, narrowing, narrowing_off, combining, is_void_by_squares, lemma_covers, can_narrow, narrowed_to, ending, can_mark, marked, are_undecided, with_all_yes, can_part, is_parted, can_branch, first_child, second_child, can_stay, when, pulled, voided, rule}
use Rattle.cover_model.proofs.CombinationWithin.{combining_lies_within}
use Rattle.cover_model.specs.Derivation.{Tree, Lawful, at_closed, at_left, at_step, at_fork, LiesWithin, LiesWithinIf, EachWithin}
use Rattle.poly_graph.proofs.Marks
use Rattle.poly_graph.proofs.Marks.{set_or_same, mark_reflexive, marks_reflexive, marks_through}
use Rattle.poly_graph.proofs.Bools.{not_both}
use Rattle.cover_model.proofs.Within.{space_reflexive, space_through, narrowed_lies_within, domain_reflexive}

-- ---- order of states

pub covers_itself : (S : State) → IsTrue (covers S S)
covers_itself S = both_pass (space_within S.space S.space) (marks_within S.marks S.marks) (space_reflexive S.space) (marks_reflexive S.marks)

pub covers_through : (A B C : State) → IsTrue (covers A B) → IsTrue (covers B C) → IsTrue (covers A C)
covers_through A B C h k = let a = both_true (space_within B.space A.space) (marks_within A.marks B.marks) h in let b = both_true (space_within C.space B.space) (marks_within B.marks C.marks) k in
    both_pass (space_within C.space A.space) (marks_within A.marks C.marks) (space_through C.space B.space A.space b.0 a.0) (marks_through A.marks B.marks C.marks a.1 b.1)

pub space_step : (S : State) (space : Space) → IsTrue (space_within space S.space) → IsTrue (covers S (with_space S space))
space_step S space h = both_pass (space_within space S.space) (marks_within S.marks S.marks) h (marks_reflexive S.marks)

pub mark_step : (S : State) (j : ℕ) (m : Mark) → IsTrue (undecided S j) → IsTrue (covers S (with_mark S j m))
mark_step S j m h = both_pass (space_within S.space S.space) (marks_within S.marks (with_mark S j m).marks) (space_reflexive S.space) (Marks.set_within S.marks j m h)

-- ---- groups of atoms

yes-over : (m : Mark) → IsTrue (not (is_no m)) → IsTrue (mark_within m marked_yes)
yes-over marked_yes h = refl
yes-over unmarked h = refl
yes-over marked_no h = absurd (true≢false (sym h))

-- a mark yes is covered by the former marks, where there was no mark no
yes-within : (ms : List Mark) (j : ℕ) → IsTrue (not (is_no (mark_at ms j))) → IsTrue (marks_within ms (slice_set ms j marked_yes))
yes-within [] j h = refl
yes-within (x ∷ ms) zero h = both_pass (mark_within x marked_yes) (marks_within ms ms) (yes-over x h) (marks_reflexive ms)
yes-within (x ∷ ms) (suc j) h = both_pass (mark_within x x) (marks_within ms (slice_set ms j marked_yes)) (mark_reflexive x) (yes-within ms j h)

not-no : (m : Mark) → IsTrue (is_unmarked m) → IsTrue (not (is_no m))
not-no unmarked h = refl
not-no marked_yes h = absurd (true≢false (sym h))
not-no marked_no h = absurd (true≢false (sym h))

none-no-mark : (ms : List Mark) (j : ℕ) → IsTrue (undecided_in ms j) → IsTrue (not (is_no (mark_at ms j)))
none-no-mark [] j h = absurd (true≢false (sym h))
none-no-mark (m ∷ ms) zero h = not-no m h
none-no-mark (m ∷ ms) (suc j) h = none-no-mark ms j h

-- ---- parts of domains

other-side : (b c : Dyadic) → IsTrue (not (at_most (exact b) (exact c))) → IsTrue (at_most (exact c) (exact b))
other-side b c h = elim (total (exact b) (exact c)) [
  | inl k ↦ absurd (not_both (at_most (exact b) (exact c)) k h)
  | inr k ↦ k
]

lower-within : (c : Dyadic) (d : Domain) → IsTrue (strictly_inside c d) → IsTrue (domain_within (lower_part c d) d)
lower-within c (real_domain l h) i = both_pass (at_most (exact l) (exact l)) (at_most (exact c) (exact h)) (at_most_refl (exact l))
    (other-side h c (both_true (not (at_most (exact c) (exact l))) (not (at_most (exact h) (exact c))) i).1)
lower-within c (bool_domain f t) i = absurd (true≢false (sym i))

upper-within : (c : Dyadic) (d : Domain) → IsTrue (strictly_inside c d) → IsTrue (domain_within (upper_part c d) d)
upper-within c (real_domain l h) i = both_pass (at_most (exact l) (exact c)) (at_most (exact h) (exact h))
    (other-side c l (both_true (not (at_most (exact c) (exact l))) (not (at_most (exact h) (exact c))) i).0) (at_most_refl (exact h))
upper-within c (bool_domain f t) i = absurd (true≢false (sym i))

keep-within : (v : Bool) (d : Domain) → IsTrue (is_undecided d) → IsTrue (domain_within (keep v d) d)
keep-within true (bool_domain true true) i = refl
keep-within false (bool_domain true true) i = refl
keep-within v (bool_domain true false) i = absurd (true≢false (sym i))
keep-within v (bool_domain false t) i = absurd (true≢false (sym i))
keep-within v (real_domain l h) i = absurd (true≢false (sym i))

changed-within : (f : Domain → Domain) (test : Domain → Bool) → ((d : Domain) → IsTrue (test d) → IsTrue (domain_within (f d) d)) → (axis : ℕ) (space : Space) →
    IsTrue (test_axis test axis space) → IsTrue (space_within (changed f axis space) space)
changed-within f test g axis [] h = refl
changed-within f test g zero (d ∷ space) h = both_pass (domain_within (f d) d) (space_within space space) (g d h) (space_reflexive space)
changed-within f test g (suc axis) (d ∷ space) h = both_pass (domain_within d d) (space_within (changed f axis space) space) (domain_reflexive d) (changed-within f test g axis space h)

-- ---- rules

by-when : (b : Bool) (l : Left) (S : State) → (IsTrue b → LiesWithin S l) → LiesWithinIf S (when b l)
by-when true l S f = f refl
by-when false l S f = tt

by-cond : (b : Bool) (o : Option Left) (S : State) → LiesWithinIf S o → LiesWithinIf S (cond b o None)
by-cond true o S h = h
by-cond false o S h = tt

pulled-within : (S : State) (o : Option Space) → ((space : Space) → o ≡ Some space → IsTrue (space_within space S.space)) → LiesWithinIf S (pulled S o)
pulled-within S None f = tt
pulled-within S (Some space) f = space_step S space (f space refl)

voided-within : (S : State) (o : Option Space) → LiesWithinIf S (voided o)
voided-within S None = tt
voided-within S (Some space) = tt

module _ (p : Problem) (g : IsProblem p) (s : Loosenings) where
  pub narrowing_within : (S : State) (j : ℕ) (space : Space) → narrowing p s S j ≡ Some space → IsTrue (space_within space S.space)
  narrowing_within S j space e = narrowed_lies_within p.nodes g.ordered (atom_at p j).0 (range (margin_of s) (atom_at p j).1) S.space space e

  pub narrowing_off_within : (S : State) (j : ℕ) (space : Space) → narrowing_off p s S j ≡ Some space → IsTrue (space_within space S.space)
  narrowing_off_within S j space e = narrowed_lies_within p.nodes g.ordered (atom_at p j).0 (off_range (margin_of s) (atom_at p j).1) S.space space e

  combining_within : (S : State) (ms : Multipliers) (space : Space) → combining p s S ms ≡ Some space → IsTrue (space_within space S.space)
  combining_within S ms space e = combining_lies_within p (marked_range p (margin_of s) S.marks) S.space (middle S.space) ms space e

  pub narrowed_within : (S : State) (n : Narrowing) (space : Space) → narrowed_to p s S n ≡ Some space → IsTrue (space_within space S.space)
  narrowed_within S (by_range j) space e = narrowing_within S j space e
  narrowed_within S (by_off_range j) space e = narrowing_off_within S j space e
  narrowed_within S (by_combination ms) space e = combining_within S ms space e

  ending_within : (lemmas : List State) (S : State) (e : Ending) → LiesWithinIf S (ending p s lemmas S e)
  ending_within lemmas S (void_by n) = by-cond (can_narrow p s S n) (voided (narrowed_to p s S n)) S (voided-within S (narrowed_to p s S n))
  ending_within lemmas S (by_squares ms bs) = by-when (is_void_by_squares p s S ms bs) closed S (λ e. tt)
  ending_within lemmas S false_form = by-when (not (may p s S)) closed S (λ e. tt)
  ending_within lemmas S (by_lemma k) = by-when (lemma_covers lemmas k S) closed S (λ e. tt)

  pub marked_within : (lemmas : List State) (S : State) (m : Marking) → IsTrue (can_mark p s lemmas S m) → IsTrue (covers S (marked S m))
  marked_within lemmas S (unit_atom j) e = mark_step S j marked_yes (both_true (undecided S j) _ e).0
  marked_within lemmas S (ban_atom j k) e = mark_step S j marked_no (both_true (undecided S j) _ e).0

  -- an atom that is not marked no may be marked yes
  yes-step : (S : State) (j : ℕ) → IsTrue (not (in_no S j)) → IsTrue (covers S (with_yes S j))
  yes-step S j h = both_pass (space_within S.space S.space) (marks_within S.marks (with_yes S j).marks) (space_reflexive S.space) (yes-within S.marks j h)

  abbrev none-no : State → List ℕ → Type 0
  none-no S js = AllByRecursion (λ (j : ℕ). IsTrue (not (in_no S j))) js

  still-none : (S : State) (i j : ℕ) → IsTrue (not (in_no S j)) → IsTrue (not (in_no (with_yes S i) j))
  still-none S i j h = elim (set_or_same S.marks i marked_yes j) [
    | inl d ↦ subst (λ (m : Mark). IsTrue (not (is_no m))) (sym d.1) refl
    | inr d ↦ subst (λ (m : Mark). IsTrue (not (is_no m))) (sym d) h
  ]

  still-none-all : (S : State) (i : ℕ) (js : List ℕ) → none-no S js → none-no (with_yes S i) js
  still-none-all S i [] f = tt
  still-none-all S i (j ∷ js) f = (still-none S i j f.0, still-none-all S i js f.1)

  undecided-none : (S : State) (js : List ℕ) → IsTrue (are_undecided S js) → none-no S js
  undecided-none S [] e = tt
  undecided-none S (j ∷ js) e = let d = both_true (undecided S j) (are_undecided S js) e in (none-no-mark S.marks j d.0, undecided-none S js d.1)

  group-step : (S : State) (js : List ℕ) → none-no S js → IsTrue (covers S (with_all_yes S js))
  group-step S [] f = covers_itself S
  group-step S (j ∷ js) f = covers_through S (with_yes S j) (with_all_yes (with_yes S j) js) (yes-step S j f.0) (group-step (with_yes S j) js (still-none-all S j js f.1))

  pub group_within : (S : State) (js : List ℕ) → IsTrue (are_undecided S js) → IsTrue (covers S (with_all_yes S js))
  group_within S js e = group-step S js (undecided-none S js e)

  pub parts_within : (S : State) (b : Branching) → IsTrue (can_part S b) → LiesWithin S (two (first_child S b) (second_child S b))
  parts_within S (cut_axis axis c) e = (
    space_step S (changed (lower_part c) axis S.space) (changed-within (lower_part c) (strictly_inside c) (lower-within c) axis S.space e),
    space_step S (changed (upper_part c) axis S.space) (changed-within (upper_part c) (strictly_inside c) (upper-within c) axis S.space e),
  )
  parts_within S (flip_axis axis) e = (
    space_step S (changed (keep false) axis S.space) (changed-within (keep false) is_undecided (keep-within false) axis S.space e),
    space_step S (changed (keep true) axis S.space) (changed-within (keep true) is_undecided (keep-within true) axis S.space e),
  )
  parts_within S (case_atom j) e = (mark_step S j marked_yes e, mark_step S j marked_no e)
  parts_within S (either_group js ks) e = let d = both_true (are_undecided S js) (are_undecided S ks) e in (group_within S js d.0, group_within S ks d.1)

  -- what a rule leaves lies within its state
  pub rule_within : (lemmas : List State) (S : State) (l : Line) → LiesWithinIf S (rule p s lemmas S l)
  rule_within lemmas S (narrow_by n) = by-cond (can_narrow p s S n) (pulled S (narrowed_to p s S n)) S (pulled-within S (narrowed_to p s S n) (narrowed_within S n))
  rule_within lemmas S (end_by e) = ending_within lemmas S e
  rule_within lemmas S (mark_by m) = by-when (can_mark p s lemmas S m) (one (marked S m)) S (marked_within lemmas S m)
  rule_within lemmas S (branch_by b) = by-when (can_branch p s S b) (two (first_child S b) (second_child S b)) S (λ e. parts_within S b (both_true (can_part S b) (is_parted p s S b) e).0)
  rule_within lemmas S (stay_by t) = by-when (can_stay p s S t) stays S (λ e. tt)

  -- ---- trees

  each-through : (A B : State) (xs : List State) → IsTrue (covers A B) → EachWithin B xs → EachWithin A xs
  each-through A B [] h k = tt
  each-through A B (x ∷ xs) h k = (covers_through A B x h k.0, each-through A B xs h k.1)

  each-append : (A : State) (xs ys : List State) → EachWithin A xs → EachWithin A ys → EachWithin A (xs ++ ys)
  each-append A [] ys h k = k
  each-append A (x ∷ xs) ys h k = (h.0, each-append A xs ys h.1 k)

  within-along : (S : State) (o : Option Left) (l : Left) → o ≡ Some l → LiesWithinIf S o → LiesWithin S l
  within-along S o l e k = subst (λ (x : Option Left). LiesWithinIf S x) e k

  -- the states that stay of a lawful tree lie within its state
  pub tree_within : (lemmas : List State) → {S : State} {t : Tree} {rest : List State} → Lawful p s lemmas S t rest → EachWithin S rest
  tree_within lemmas (at_closed e) = tt
  tree_within lemmas (at_left {S = S} e) = (covers_itself S, tt)
  tree_within lemmas (at_step {S = S} {S' = S'} {l = l} {rest = xs} e r) = each-through S S' xs (within-along S (rule p s lemmas S l) (one S') e (rule_within lemmas S l)) (tree_within lemmas r)
  tree_within lemmas (at_fork {S = S} {S' = S'} {S'' = S''} {l = l} {rest = xs} {rest' = ys} e r r') =
      let k = within-along S (rule p s lemmas S l) (two S' S'') e (rule_within lemmas S l) in
      each-append S xs ys (each-through S S' xs k.0 (tree_within lemmas r)) (each-through S S'' ys k.1 (tree_within lemmas r'))
