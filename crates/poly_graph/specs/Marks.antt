-- Marks of atoms: what is said of each, by number.
use Rattle.std.specs.Prelude.{ℕ, zero, suc, List, [], ◌∷◌, Bool, true, false, cond, ◌&&◌, ◌||◌, nat_eq, slice_index_or}

-- what is said of an atom: it holds, it does not, or neither
pub data Mark : Type 0 where
  marked_yes marked_no unmarked : Mark

abbrev pub is_yes : Mark → Bool
is_yes marked_yes = true
is_yes m = false

abbrev pub is_no : Mark → Bool
is_no marked_no = true
is_no m = false

abbrev pub is_unmarked : Mark → Bool
is_unmarked unmarked = true
is_unmarked m = false

-- an atom that there is not has no mark
abbrev pub mark_at : List Mark → ℕ → Mark
mark_at marks j = slice_index_or marks j unmarked

-- there is an atom j without a mark
abbrev pub undecided_in : List Mark → ℕ → Bool
undecided_in [] j = false
undecided_in (m ∷ marks) zero = is_unmarked m
undecided_in (m ∷ marks) (suc j) = undecided_in marks j

-- ---- marks as two lists of atom numbers

abbrev pub member : ℕ → List ℕ → Bool
member j [] = false
member j (i ∷ rest) = nat_eq i j || member j rest

abbrev pub mark_in : List ℕ → List ℕ → ℕ → Mark
mark_in ys ns j = cond (member j ys) marked_yes (cond (member j ns) marked_no unmarked)

-- the marks of so many atoms, from number j on
abbrev pub marks_from : ℕ → ℕ → List ℕ → List ℕ → List Mark
marks_from j zero ys ns = []
marks_from j (suc n) ys ns = mark_in ys ns j ∷ marks_from (suc j) n ys ns

-- the marks of n atoms, of which those of the first list are marked yes, those of the second no
abbrev pub marks_of : ℕ → List ℕ → List ℕ → List Mark
marks_of n ys ns = marks_from 0 n ys ns

-- the numbers of the atoms whose marks pass the test, rising, where the first has number j
abbrev pub numbers_from : (Mark → Bool) → ℕ → List Mark → List ℕ
numbers_from test j [] = []
numbers_from test j (m ∷ marks) = cond (test m) (j ∷ numbers_from test (suc j) marks) (numbers_from test (suc j) marks)

abbrev pub yes_of : List Mark → List ℕ
yes_of marks = numbers_from is_yes 0 marks

abbrev pub no_of : List Mark → List ℕ
no_of marks = numbers_from is_no 0 marks

-- ---- covering

abbrev pub mark_within : Mark → Mark → Bool
mark_within unmarked m = true
mark_within marked_yes m = is_yes m
mark_within marked_no m = is_no m

-- each yes and each no of the first is one of the second
abbrev pub marks_within : List Mark → List Mark → Bool
marks_within [] ms = true
marks_within (l ∷ ls) [] = false
marks_within (l ∷ ls) (m ∷ ms) = mark_within l m && marks_within ls ms
