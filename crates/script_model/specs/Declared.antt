-- The declared box: the bounds that the assertions give to the Real constants.
use Rattle.std.specs.Prelude.{ℕ, suc, List, [], ◌∷◌, ◌++◌, map, Bool, true, false, not, Option, Some, None, nat_eq, cond, ◌&&◌, ◌||◌, ◌^◌, IsTrue, pos, neg_ℤ, nat_abs}
use Rattle.dyadic.specs.Fraction.{Fraction, IsFraction, zero_fraction, at_most, whole}
use Rattle.script_model.specs.Reading.{Operator, conjunction, equality, choice, minus, plus, times, divide, at_most_op, below_op, at_least_op, above_op, Meanings}
use Rattle.dyadic.specs.Point.{Sort, real_sort, bool_sort, Coordinate, at_fraction, at_bool}
use Rattle.dyadic.specs.Rounding.{Ext, finite, exact, down}
use Rattle.script_model.specs.Meaning.{Value, real, fraction_of, operation, neighbours}
use Rattle.script_model.specs.Script.{Command, claims, sorts_of, Constant, constants_of}

pub data Side : Type 0 where
  lower upper : Side

-- the constant of this number is at least, or at most, this
pub record Bound : Type 0 where
  pub axis : ℕ
  pub side : Side
  pub value : Fraction

-- what an expression is to the declared box
pub data Bounding : Type 0 where
  -- an expression without a Real constant, with its value
  known : Fraction → Bounding
  -- a Real constant alone
  constant_of : ℕ → Bounding
  -- another Real expression
  other : Bounding
  -- a Bool expression: the bounds that are its conjuncts
  bounds : List Bound → Bounding

abbrev pub one_side : Side → ℕ → Fraction → List Bound
one_side s axis q = record { axis = axis; side = s; value = q } ∷ []

-- what `a <= b` gives
abbrev pub at_most_bounds : Bounding → Bounding → List Bound
at_most_bounds (constant_of axis) (known q) = one_side upper axis q
at_most_bounds (known q) (constant_of axis) = one_side lower axis q
at_most_bounds _ _ = []

abbrev pub at_least_bounds : Bounding → Bounding → List Bound
at_least_bounds a b = at_most_bounds b a

abbrev pub equal_bounds : Bounding → Bounding → List Bound
equal_bounds a b = at_most_bounds a b ++ at_most_bounds b a

abbrev pub concat : List (List Bound) → List Bound
concat [] = []
concat (bs ∷ rest) = bs ++ concat rest

-- the bounds of a Bool expression
abbrev pub bounds_in : Bounding → List Bound
bounds_in (bounds bs) = bs
bounds_in _ = []

abbrev pub with_first : Fraction → Option (List Value) → Option (List Value)
with_first q None = None
with_first q (Some qs) = Some (real q ∷ qs)

-- the values, where all are known
abbrev pub all_known : List Bounding → Option (List Value)
all_known [] = Some []
all_known (known q ∷ rest) = with_first q (all_known rest)
all_known (_ ∷ rest) = None

-- an operator on constant expressions
abbrev pub computed : Operator → Option (List Value) → Bounding
computed op None = other
computed op (Some qs) = known (fraction_of (operation zero_fraction op qs))

-- `+` and `*` of one argument are that argument
abbrev pub alone : Operator → List Bounding → Bounding
alone op (b ∷ []) = b
alone op bs = computed op (all_known bs)

-- a Real `ite` is no constant expression
abbrev pub arm_bounding : Bounding → Bounding
arm_bounding (bounds bs) = bounds []
arm_bounding _ = other

abbrev pub choice_bounding : List Bounding → Bounding
choice_bounding (c ∷ a ∷ b ∷ _) = arm_bounding a
choice_bounding _ = bounds []

-- bounds come from comparisons under conjunctions alone
abbrev pub bounding_operation : Operator → List Bounding → Bounding
bounding_operation conjunction bs = bounds (concat (map bounds_in bs))
bounding_operation at_most_op bs = bounds (concat (neighbours at_most_bounds bs))
bounding_operation below_op bs = bounds (concat (neighbours at_most_bounds bs))
bounding_operation at_least_op bs = bounds (concat (neighbours at_least_bounds bs))
bounding_operation above_op bs = bounds (concat (neighbours at_least_bounds bs))
bounding_operation equality bs = bounds (concat (neighbours equal_bounds bs))
bounding_operation choice bs = choice_bounding bs
bounding_operation plus bs = alone plus bs
bounding_operation times bs = alone times bs
bounding_operation minus bs = computed minus (all_known bs)
bounding_operation divide bs = computed divide (all_known bs)
bounding_operation op bs = bounds []

abbrev pub bounding : Meanings Bounding
bounding = record {
  literal = λ at q. known q;
  named = λ at b. b;
  apply = λ at op bs. bounding_operation op bs;
  annotated = λ at b. b;
  bind = λ at names vs b. b;
  call = λ at vs b. b;
  nothing = λ at why. other;
}

-- a declared constant, by its number
abbrev pub constant_bounding : ℕ → Sort → Bounding
constant_bounding axis real_sort = constant_of axis
constant_bounding axis bool_sort = bounds []

-- f at each element and its number, from n on
abbrev pub numbered : {A B : Type 0} → (ℕ → A → B) → ℕ → List A → List B
numbered f n [] = []
numbered f n (a ∷ rest) = f n a ∷ numbered f (suc n) rest

-- all bounds that the script's assertions give
abbrev pub script_bounds : List Command → List Bound
script_bounds script = concat (map bounds_in (claims bounding [] (numbered constant_bounding 0 (sorts_of script)) script))

abbrev pub is_side : Side → Side → Bool
is_side lower lower = true
is_side upper upper = true
is_side _ _ = false

-- the bounds of an axis on a side
abbrev pub values_on : Side → ℕ → List Bound → List Fraction
values_on s axis [] = []
values_on s axis (b ∷ rest) = cond (is_side s b.side && nat_eq axis b.axis) (b.value ∷ []) [] ++ values_on s axis rest

-- the greatest of these
abbrev pub greatest : Fraction → List Fraction → Fraction
greatest q [] = q
greatest q (r ∷ rest) = greatest (cond (at_most q r) r q) rest

-- the least of these
abbrev pub least : Fraction → List Fraction → Fraction
least q [] = q
least q (r ∷ rest) = least (cond (at_most r q) r q) rest

-- the end of an axis on a side: the tightest bound, or that of the words, or none
abbrev pub tightest_end : (Fraction → List Fraction → Fraction) → Option Fraction → List Fraction → Option Fraction
tightest_end tightest default [] = default
tightest_end tightest default (q ∷ rest) = Some (tightest q rest)

-- the ends of an axis, where it has them
pub record DeclaredInterval : Type 0 where
  pub low : Option Fraction
  pub high : Option Fraction

-- minus N and N, where N was given
abbrev pub default_low : Option ℕ → Option Fraction
default_low None = None
default_low (Some n) = Some (whole (neg_ℤ (pos n)))

abbrev pub default_high : Option ℕ → Option Fraction
default_high None = None
default_high (Some n) = Some (whole (pos n))

-- the greatest lower and the least upper bound of an axis
abbrev pub declared_interval : Option ℕ → List Command → ℕ → DeclaredInterval
declared_interval bound script axis = record {
  low = tightest_end greatest (default_low bound) (values_on lower axis (script_bounds script));
  high = tightest_end least (default_high bound) (values_on upper axis (script_bounds script));
}

-- the end is there, and it is not above v
abbrev pub IfBelow : Option Fraction → Fraction → Type 0
IfBelow None v = ⊥
IfBelow (Some q) v = IsTrue (at_most q v)

-- the end is there, and it is not below v
abbrev pub IfAbove : Option Fraction → Fraction → Type 0
IfAbove None v = ⊥
IfAbove (Some q) v = IsTrue (at_most v q)

-- the coordinate is of this sort, and a Real one lies in the interval
abbrev pub InDeclared : DeclaredInterval → Sort → Coordinate → Type 0
InDeclared i real_sort (at_fraction q) = IsFraction q × IfBelow i.low q × IfAbove i.high q
InDeclared i bool_sort (at_bool b) = Unit {0}
InDeclared i _ _ = ⊥

-- from this axis on: each coordinate is of its sort, and a Real one lies in its declared interval
abbrev pub InBox : (ℕ → DeclaredInterval) → ℕ → List Sort → List Coordinate → Type 0
InBox box axis [] [] = Unit {0}
InBox box axis (s ∷ sorts) (c ∷ point) = InDeclared (box axis) s c × InBox box (suc axis) sorts point
InBox box axis _ _ = ⊥

-- the point is one of the script's declared box
abbrev pub InDeclaredBox : Option ℕ → List Command → List Coordinate → Type 0
InDeclaredBox bound script point = InBox (declared_interval bound script) 0 (sorts_of script) point

-- ---- faults of bounds

pub data BoundFault : Type 0 where
  -- an end is missing
  no_bound : BoundFault
  -- an end is not kept and its size is above 2^32
  bound_too_wide : BoundFault

-- e is q, where e is q rounded down
abbrev pub is_exactly : Fraction → Ext → Bool
is_exactly q (finite d) = at_most q (exact d)
is_exactly q _ = false

-- q is one of the numbers that are kept
abbrev pub is_kept : Fraction → Bool
is_kept q = is_exactly q (down q)

-- the size of q is above 2^32
abbrev pub is_far : Fraction → Bool
is_far q = not (at_most (record { num = pos (nat_abs q.num); den = q.den }) (whole (pos (2 ^ 32))))

-- neither kept nor of size at most 2^32
abbrev pub too_wide_end : Fraction → Bool
too_wide_end q = not (is_kept q) && is_far q

-- a missing end comes first
abbrev pub ends_fault : Option Fraction → Option Fraction → Option BoundFault
ends_fault (Some l) (Some h) = cond (too_wide_end l || too_wide_end h) (Some bound_too_wide) None
ends_fault _ _ = Some no_bound

-- of the interval of a constant of this sort
abbrev pub axis_fault : Sort → DeclaredInterval → Option BoundFault
axis_fault real_sort i = ends_fault i.low i.high
axis_fault bool_sort i = None

abbrev pub or_later : Constant → Option BoundFault → Option (Constant × BoundFault) → Option (Constant × BoundFault)
or_later c (Some f) later = Some (c, f)
or_later c None later = later

-- from this axis on: the first constant whose bounds have a fault
abbrev pub bound_fault_from : (ℕ → DeclaredInterval) → ℕ → List Constant → Option (Constant × BoundFault)
bound_fault_from box axis [] = None
bound_fault_from box axis (c ∷ rest) = or_later c (axis_fault c.sort (box axis)) (bound_fault_from box (suc axis) rest)

-- the first fault of the bounds of a script, axis by axis
abbrev pub bound_fault : Option ℕ → List Command → Option (Constant × BoundFault)
bound_fault bound script = bound_fault_from (declared_interval bound script) 0 (constants_of script)
