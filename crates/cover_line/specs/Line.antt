-- The lines of a cover's tree by shape, with what each names.
use Rattle.std.specs.Prelude.{ℕ, List}
use Rattle.dyadic.specs.Rounding.{Dyadic}

-- numbers of atoms, each with its multiplier
abbrev pub Multipliers : Type 0
Multipliers = List (ℕ × Dyadic)

-- ---- squares

-- what the squares of a block are times
pub data Factor : Type 0 where
  no_factor : Factor
  -- h - d^2, where d is the difference of this axis to the centre and h the greatest of d^2
  bound_of : ℕ → Factor

-- The squares of polynomials over these monomials, each a list of axes, one for each factor: row k has the coefficients of the
-- k-th polynomial, of the k-th monomial and those after it.
pub record Block : Type 0 where
  pub factor : Factor
  pub monomials : List (List ℕ)
  pub rows : List (List Dyadic)

-- ---- shapes

-- what makes the box smaller: the range of an atom, the off-range of one that fails, a combination of atoms
pub data Narrowing : Type 0 where
  by_range by_off_range : ℕ → Narrowing
  by_combination : Multipliers → Narrowing

-- what closes the state: a narrowing leaves nothing, a combination less sums of squares is above what its atoms allow, the form may
-- not hold, a lemma covers it
pub data Ending : Type 0 where
  void_by : Narrowing → Ending
  by_squares : Multipliers → List Block → Ending
  false_form : Ending
  by_lemma : ℕ → Ending

-- what marks an atom: it has to hold; by a lemma it may not
pub data Marking : Type 0 where
  unit_atom : ℕ → Marking
  ban_atom : ℕ → ℕ → Marking

-- what parts the state: an axis at a place, a Bool axis, an atom, two groups of atoms of which one holds as a whole
pub data Branching : Type 0 where
  cut_axis : ℕ → Dyadic → Branching
  flip_axis case_atom : ℕ → Branching
  either_group : List ℕ → List ℕ → Branching

-- what leaves the state as it is: open, or stuck with an atom
pub data Staying : Type 0 where
  open_state : Staying
  stuck_atom : ℕ → Staying

pub data Line : Type 0 where
  narrow_by : Narrowing → Line
  end_by : Ending → Line
  mark_by : Marking → Line
  branch_by : Branching → Line
  stay_by : Staying → Line

-- ---- rules

abbrev pub pull : ℕ → Line
pull j = narrow_by (by_range j)

abbrev pub push : ℕ → Line
push j = narrow_by (by_off_range j)

abbrev pub combine : Multipliers → Line
combine ms = narrow_by (by_combination ms)

abbrev pub void : ℕ → Line
void j = end_by (void_by (by_range j))

abbrev pub void_no : ℕ → Line
void_no j = end_by (void_by (by_off_range j))

abbrev pub void_combine : Multipliers → Line
void_combine ms = end_by (void_by (by_combination ms))

abbrev pub void_squares : Multipliers → List Block → Line
void_squares ms bs = end_by (by_squares ms bs)

abbrev pub make_false : Line
make_false = end_by false_form

abbrev pub by : ℕ → Line
by i = end_by (by_lemma i)

abbrev pub unit : ℕ → Line
unit j = mark_by (unit_atom j)

abbrev pub ban : ℕ → ℕ → Line
ban j i = mark_by (ban_atom j i)

abbrev pub cut : ℕ → Dyadic → Line
cut axis c = branch_by (cut_axis axis c)

abbrev pub flip : ℕ → Line
flip axis = branch_by (flip_axis axis)

abbrev pub case : ℕ → Line
case j = branch_by (case_atom j)

abbrev pub either : List ℕ → List ℕ → Line
either js ks = branch_by (either_group js ks)

abbrev pub open_line : Line
open_line = stay_by open_state

abbrev pub stuck : ℕ → Line
stuck j = stay_by (stuck_atom j)
