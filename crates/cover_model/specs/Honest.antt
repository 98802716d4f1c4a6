-- Honest lines: those that a search writes, which stop no earlier and cut nowhere else than they should.
use Rattle.std.specs.Prelude.{ℕ, zero, suc, List, [], ◌∷◌, ◌++◌, Bool, true, false, not, ◌&&◌, ◌||◌, Option, Some, None, cond, nat_eq}
use Rattle.dyadic.specs.Fraction.{Fraction, at_most, difference_of}
use Rattle.dyadic.specs.Rounding.{Dyadic, exact, two_to_minus, mid}
use Rattle.poly_graph.specs.Form.{Form, atom_is, all_form, Forms, no_forms, more_forms}
use Rattle.interval_model.specs.Space.{Domain, real_domain, bool_domain, Space, middle, can_be_halved, widest, test_axis}
use Rattle.poly_graph.specs.Problem.{Problem}
use Rattle.poly_graph.specs.Marks.{Mark, is_yes}
use Rattle.cover_model.specs.State.{State, Loosenings, margin_of, in_yes, with_no, may, sure, misses}
use Rattle.cover_model.specs.Rules.{Line, has_version_5, narrowing, is_stuck_atom, branch_by, cut_axis, flip_axis, case_atom, either_group, stay_by, open_state, stuck_atom}

-- ---- a state to which nothing more can be done without a branch

-- the atoms that the form's root reaches through conjunctions alone
abbrev mutual
  pub conjuncts : Form ℕ → List ℕ
  conjuncts (atom_is j) = j ∷ []
  conjuncts (all_form fs) = conjuncts_of fs
  conjuncts _ = []

  pub conjuncts_of : Forms ℕ → List ℕ
  conjuncts_of no_forms = []
  conjuncts_of (more_forms f fs) = conjuncts f ++ conjuncts_of fs

abbrev pub all_in_yes : State → List ℕ → Bool
all_in_yes S [] = true
all_in_yes S (j ∷ js) = in_yes S j && all_in_yes S js

abbrev pub is_some_space : Option Space → Bool
is_some_space (Some space) = true
is_some_space None = false

-- narrowing is not empty by any of these atoms that is marked yes, where the first has number j
abbrev pub none_empty_from : Problem → Loosenings → State → ℕ → List Mark → Bool
none_empty_from p s S j [] = true
none_empty_from p s S j (m ∷ marks) = (not (is_yes m) || is_some_space (narrowing p s S j)) && none_empty_from p s S (suc j) marks

-- narrowing by no atom marked yes is empty
abbrev pub none_empty : Problem → Loosenings → State → Bool
none_empty p s S = none_empty_from p s S 0 S.marks

-- each conjunct is marked yes, and narrowing by no atom marked yes is empty
abbrev pub settled : Problem → Loosenings → State → Bool
settled p s S = all_in_yes S (conjuncts p.form) && none_empty p s S

-- the form may hold, and does not surely hold at the middle
abbrev pub not_shown : Problem → Loosenings → State → Bool
not_shown p s S = may p s S && not (sure p s (middle S.space))

-- this axis, with a side above 2^-w
abbrev pub is_wide : ℕ → ℕ → Option (ℕ × Fraction) → Bool
is_wide w axis None = false
is_wide w axis (Some (best, v)) = nat_eq axis best && not (at_most v (exact (two_to_minus w)))

abbrev pub same_dyadic : Dyadic → Dyadic → Bool
same_dyadic a b = at_most (exact a) (exact b) && at_most (exact b) (exact a)

abbrev pub is_middle_of : Dyadic → Domain → Bool
is_middle_of c (real_domain l h) = same_dyadic c (mid l h)
is_middle_of c (bool_domain f t) = false

-- c is the middle of the axis
abbrev pub is_middle_at : ℕ → Dyadic → Space → Bool
is_middle_at axis c [] = false
is_middle_at zero c (d ∷ space) = is_middle_of c d
is_middle_at (suc axis) c (d ∷ space) = is_middle_at axis c space

-- ---- small axes

abbrev pub is_small_domain : ℕ → Domain → Bool
is_small_domain w (real_domain l h) = not (can_be_halved (real_domain l h)) || at_most (difference_of (exact h) (exact l)) (exact (two_to_minus w))
is_small_domain w (bool_domain f t) = not (f && t)

-- each axis that can be halved has a side of at most 2^-w, and every Bool is decided
abbrev pub is_small : ℕ → Space → Bool
is_small w [] = true
is_small w (d ∷ space) = is_small_domain w d && is_small w space

-- a Real axis that can be halved, with a side above 2^-w
abbrev pub is_wide_domain : ℕ → Domain → Bool
is_wide_domain w (real_domain l h) = not (is_small_domain w (real_domain l h))
is_wide_domain w (bool_domain f t) = false

-- ---- cuts

-- The axis has a side above 2^-w. Before version 5 it is the widest, too.
abbrev pub may_be_cut : ℕ → Loosenings → ℕ → Space → Bool
may_be_cut w s axis space = cond (has_version_5 s) (test_axis (is_wide_domain w) axis space) (is_wide w axis (widest space))

-- ---- stuck states

-- no atom below j meets the condition of the line for stuck states
abbrev pub none_below : Problem → Loosenings → State → ℕ → Bool
none_below p s S zero = true
none_below p s S (suc j) = not (is_stuck_atom p s S j) && none_below p s S j

-- ---- groups

-- no enclosure of these atoms misses its range
abbrev pub none_misses : Problem → Loosenings → State → List ℕ → Bool
none_misses p s S [] = true
none_misses p s S (j ∷ js) = not (misses p (margin_of s) S.space j) && none_misses p s S js

-- ---- honesty, where w is the number of bits of the least width

abbrev pub is_honest : Problem → ℕ → Loosenings → State → Line → Bool
is_honest p w s S (branch_by (cut_axis axis c)) = not_shown p s S && settled p s S && may_be_cut w s axis S.space && is_middle_at axis c S.space
is_honest p w s S (branch_by (flip_axis axis)) = not_shown p s S && settled p s S
is_honest p w s S (branch_by (case_atom j)) = not_shown p s S && settled p s S && may p s (with_no S j) && not (misses p (margin_of s) S.space j)
is_honest p w s S (branch_by (either_group js ks)) = not_shown p s S && settled p s S && none_misses p s S js && none_misses p s S ks
is_honest p w s S (stay_by (stuck_atom j)) = not_shown p s S && settled p s S && is_small w S.space && none_below p s S j
is_honest p w s S (stay_by open_state) = not_shown p s S
is_honest p w s S l = true

-- one for a branch, else none
abbrev pub branch_count : Line → ℕ
branch_count (branch_by b) = 1
branch_count l = 0
