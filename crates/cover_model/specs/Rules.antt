-- The lines of a cover, each with its condition on a state and the states that it leaves.
use Rattle.std.specs.Prelude.{ℕ, ◌*◌, List, [], ◌∷◌, length, Bool, true, false, cond, not, ◌&&◌, ◌||◌, Option, Some, None, nat_le, nat_lt, slice_get}
pub use Rattle.cover_line.specs.Line.{Block, Line, narrow_by, end_by, mark_by, branch_by, stay_by, Narrowing, by_range, by_off_range, by_combination, Ending, void_by, by_squares, false_form, by_lemma, Marking, unit_atom, ban_atom, Branching, cut_axis, flip_axis, case_atom, either_group, Staying, open_state, stuck_atom, pull, unit, void, push, void_no, combine, void_combine, void_squares, ban, make_false, by, cut, flip, case, either, open_line, stuck}
use Rattle.interval_model.specs.Interval.{misses_nought}
use Rattle.poly_graph.specs.Term.{Kind, le, ge, eq}
use Rattle.interval_model.specs.Space.{Domain, Space, middle, strictly_inside, lower_part, upper_part, is_undecided, keep, changed, test_axis}
use Rattle.cover_model.specs.Space.{range}
use Rattle.poly_graph.specs.Problem.{Problem, atom_at}
use Rattle.cover_model.specs.State.{State, Loosenings, margin_of, delta_of, in_yes, in_no, undecided, with_yes, with_no, with_space, may, misses, sure_at, covers}
use Rattle.cover_model.specs.Narrowed.{narrowed_by}
use Rattle.cover_model.specs.OffRange.{off_range}
use Rattle.cover_model.specs.Combination.{Multipliers, only, combined, marked_range}
use Rattle.square_model.specs.Positive.{is_positive}

-- what a rule leaves of a state, where its condition holds
pub data Left : Type 0 where
  closed : Left
  one : State → Left
  two : State → State → Left
  stays : Left

-- the space narrowed by atom j, none where nothing is left
abbrev pub narrowing : Problem → Loosenings → State → ℕ → Option Space
narrowing p s S j = narrowed_by p.nodes (atom_at p j).0 (range (margin_of s) (atom_at p j).1) S.space

-- the same by its off-range, where it fails
abbrev pub narrowing_off : Problem → Loosenings → State → ℕ → Option Space
narrowing_off p s S j = narrowed_by p.nodes (atom_at p j).0 (off_range (margin_of s) (atom_at p j).1) S.space

-- an inequality, whose off-range is less than all values
abbrev pub is_one_sided : Kind → Bool
is_one_sided le = true
is_one_sided ge = true
is_one_sided eq = false

-- atom j is marked no, and is an inequality
abbrev pub in_no_one_sided : Problem → State → ℕ → Bool
in_no_one_sided p S j = in_no S j && is_one_sided (atom_at p j).1

-- the lines of version 2 are among those that are read
abbrev pub has_version_2 : Loosenings → Bool
has_version_2 s = nat_le 2 s.version

-- so are those of version 5
abbrev pub has_version_5 : Loosenings → Bool
has_version_5 s = nat_le 5 s.version

-- atom j, which fails, may narrow the space
abbrev pub can_push : Problem → Loosenings → State → ℕ → Bool
can_push p s S j = has_version_2 s && in_no_one_sided p S j

-- ---- combinations

-- what a combination of marked atoms leaves of the space, none where nothing is left
abbrev pub combining : Problem → Loosenings → State → Multipliers → Option Space
combining p s S ms = combined p (margin_of s) S.marks S.space ms

-- each is an atom that is marked yes, or that is marked no and is an inequality
abbrev pub are_combinable : Problem → State → Multipliers → Bool
are_combinable p S [] = true
are_combinable p S ((j, l) ∷ rest) = (nat_lt j (length p.atoms) && (in_yes S j || in_no_one_sided p S j)) && are_combinable p S rest

-- the atoms' numbers ascend, and no multiplier is 0
abbrev pub are_ordered : Multipliers → Bool
are_ordered [] = true
are_ordered ((j, l) ∷ []) = misses_nought (only l)
are_ordered ((j, l) ∷ (k, m) ∷ rest) = misses_nought (only l) && nat_lt j k && are_ordered ((k, m) ∷ rest)

-- a combination has at most so many pairs
abbrev pub most_pairs : Loosenings → ℕ
most_pairs s = cond (has_version_5 s) 512 64

-- one pair or more, in order
abbrev pub is_combination : Loosenings → Multipliers → Bool
is_combination s ms = nat_lt 0 (length ms) && nat_le (length ms) (most_pairs s) && are_ordered ms

-- these atoms may be combined at the state
abbrev pub can_combine : Problem → Loosenings → State → Multipliers → Bool
can_combine p s S ms = has_version_2 s && is_combination s ms && are_combinable p S ms

-- ---- sums of squares

-- these atoms may be combined, and what is left of the combination without the blocks is above what the atoms allow, so that the
-- space has no point at which each value lies where its mark says
abbrev pub is_void_by_squares : Problem → Loosenings → State → Multipliers → List Block → Bool
is_void_by_squares p s S ms bs = has_version_5 s && can_combine p s S ms && is_positive p (marked_range p (margin_of s) S.marks) S.space (middle S.space) ms bs

-- ---- lemmas

abbrev pub covers_by : Option State → State → Bool
covers_by None S = false
covers_by (Some L) S = covers L S

-- lemma i covers the state
abbrev pub lemma_covers : List State → ℕ → State → Bool
lemma_covers lemmas i S = covers_by (slice_get lemmas i) S

-- ---- groups of atoms

-- no atom of the group is marked
abbrev pub are_undecided : State → List ℕ → Bool
are_undecided S [] = true
are_undecided S (j ∷ js) = undecided S j && are_undecided S js

abbrev pub with_all_yes : State → List ℕ → State
with_all_yes S [] = S
with_all_yes S (j ∷ js) = with_all_yes (with_yes S j) js

-- the atoms' numbers ascend
abbrev pub is_ascending : List ℕ → Bool
is_ascending [] = true
is_ascending (j ∷ []) = true
is_ascending (j ∷ k ∷ rest) = nat_lt j k && is_ascending (k ∷ rest)

-- an atom of the one group with one of the other can be chosen in so many ways at most
abbrev pub most_choices : ℕ
most_choices = 64

-- two groups of one atom or more each, in order, with few choices
abbrev pub are_groups : List ℕ → List ℕ → Bool
are_groups js ks = is_ascending js && is_ascending ks && nat_lt 0 (length js * length ks) && nat_le (length js * length ks) most_choices

-- the form may not hold where any atom of the group fails
abbrev pub none_may_fail : Problem → Loosenings → State → List ℕ → Bool
none_may_fail p s S [] = true
none_may_fail p s S (j ∷ js) = not (may p s (with_no S j)) && none_may_fail p s S js

-- the form may not hold where an atom of each group fails, so that one group holds as a whole where the form does
abbrev pub one_holds : Problem → Loosenings → State → List ℕ → List ℕ → Bool
one_holds p s S [] ks = true
one_holds p s S (j ∷ js) ks = none_may_fail p s (with_no S j) ks && one_holds p s S js ks

-- ---- branches

abbrev pub with_changed : State → (Domain → Domain) → ℕ → State
with_changed S f axis = with_space S (changed f axis S.space)

-- ---- shapes

-- narrowing by it is lawful
abbrev pub can_narrow : Problem → Loosenings → State → Narrowing → Bool
can_narrow p s S (by_range j) = in_yes S j
can_narrow p s S (by_off_range j) = can_push p s S j
can_narrow p s S (by_combination ms) = can_combine p s S ms

-- what it leaves of the space, none where nothing is left
abbrev pub narrowed_to : Problem → Loosenings → State → Narrowing → Option Space
narrowed_to p s S (by_range j) = narrowing p s S j
narrowed_to p s S (by_off_range j) = narrowing_off p s S j
narrowed_to p s S (by_combination ms) = combining p s S ms

-- the atom may be marked so
abbrev pub can_mark : Problem → Loosenings → List State → State → Marking → Bool
can_mark p s lemmas S (unit_atom j) = undecided S j && not (may p s (with_no S j))
can_mark p s lemmas S (ban_atom j i) = undecided S j && lemma_covers lemmas i (with_yes S j)

abbrev pub marked : State → Marking → State
marked S (unit_atom j) = with_yes S j
marked S (ban_atom j i) = with_no S j

-- the state can be parted there
abbrev pub can_part : State → Branching → Bool
can_part S (cut_axis axis c) = test_axis (strictly_inside c) axis S.space
can_part S (flip_axis axis) = test_axis is_undecided axis S.space
can_part S (case_atom j) = undecided S j
can_part S (either_group js ks) = are_undecided S js && are_undecided S ks

-- each point of the state that meets the form is one of a part
abbrev pub is_parted : Problem → Loosenings → State → Branching → Bool
is_parted p s S (either_group js ks) = has_version_5 s && are_groups js ks && one_holds p s S js ks
is_parted p s S b = true

abbrev pub can_branch : Problem → Loosenings → State → Branching → Bool
can_branch p s S b = can_part S b && is_parted p s S b

abbrev pub first_child : State → Branching → State
first_child S (cut_axis axis c) = with_changed S (lower_part c) axis
first_child S (flip_axis axis) = with_changed S (keep false) axis
first_child S (case_atom j) = with_yes S j
first_child S (either_group js ks) = with_all_yes S js

abbrev pub second_child : State → Branching → State
second_child S (cut_axis axis c) = with_changed S (upper_part c) axis
second_child S (flip_axis axis) = with_changed S (keep true) axis
second_child S (case_atom j) = with_no S j
second_child S (either_group js ks) = with_all_yes S ks

-- atom j may hold and does not surely hold
abbrev pub is_stuck_atom : Problem → Loosenings → State → ℕ → Bool
is_stuck_atom p s S j = not (in_no S j) && not (misses p (margin_of s) S.space j) && not (sure_at p (delta_of s) S.space j)

-- the state may stay so
abbrev pub can_stay : Problem → Loosenings → State → Staying → Bool
can_stay p s S open_state = true
can_stay p s S (stuck_atom j) = is_stuck_atom p s S j

-- ---- the rules

abbrev pub when : Bool → Left → Option Left
when true l = Some l
when false l = None

abbrev pub pulled : State → Option Space → Option Left
pulled S None = None
pulled S (Some space) = Some (one (with_space S space))

abbrev pub voided : Option Space → Option Left
voided None = Some closed
voided (Some space) = None

abbrev pub ending : Problem → Loosenings → List State → State → Ending → Option Left
ending p s lemmas S (void_by n) = cond (can_narrow p s S n) (voided (narrowed_to p s S n)) None
ending p s lemmas S (by_squares ms bs) = when (is_void_by_squares p s S ms bs) closed
ending p s lemmas S false_form = when (not (may p s S)) closed
ending p s lemmas S (by_lemma i) = when (lemma_covers lemmas i S) closed

-- none, where the line's condition fails
abbrev pub rule : Problem → Loosenings → List State → State → Line → Option Left
rule p s lemmas S (narrow_by n) = cond (can_narrow p s S n) (pulled S (narrowed_to p s S n)) None
rule p s lemmas S (end_by e) = ending p s lemmas S e
rule p s lemmas S (mark_by m) = when (can_mark p s lemmas S m) (one (marked S m))
rule p s lemmas S (branch_by b) = when (can_branch p s S b) (two (first_child S b) (second_child S b))
rule p s lemmas S (stay_by t) = when (can_stay p s S t) stays
