-- What is proved of the interval operations and of their inverses.
use Rattle.std.specs.Prelude.{IsTrue}
use Rattle.dyadic.specs.Fraction.{Fraction, IsFraction, sum_of, product_of, negated}
use Rattle.interval_model.specs.Interval.{Interval, IsKept, holds_fraction, interval_sum, interval_negated, interval_product, interval_square, within, IsProper, inverse_sum, inverse_product, inverse_square}

-- ---- an operation's interval holds every exact result over its arguments

abbrev pub SumHolds : Type 0
SumHolds = (i j : Interval) (x y : Fraction) → IsTrue (holds_fraction i x) → IsTrue (holds_fraction j y) →
    IsTrue (holds_fraction (interval_sum i j) (sum_of x y))

abbrev pub NegationHolds : Type 0
NegationHolds = (i : Interval) (x : Fraction) → IsTrue (holds_fraction i x) → IsTrue (holds_fraction (interval_negated i) (negated x))

abbrev pub ProductHolds : Type 0
ProductHolds = (i j : Interval) (x y : Fraction) → IsFraction x → IsFraction y → IsTrue (holds_fraction i x) → IsTrue (holds_fraction j y) →
    IsTrue (holds_fraction (interval_product i j) (product_of x y))

abbrev pub SquareHolds : Type 0
SquareHolds = (i : Interval) (x : Fraction) → IsFraction x → IsTrue (holds_fraction i x) → IsTrue (holds_fraction (interval_square i) (product_of x x))

-- ---- what is left to an operand holds it, where the result and the other operand lie in their intervals

abbrev pub InverseSumHolds : Type 0
InverseSumHolds = (n o : Interval) (x y : Fraction) → IsFraction x → IsFraction y → IsTrue (holds_fraction n (sum_of x y)) → IsTrue (holds_fraction o y) →
    IsTrue (holds_fraction (inverse_sum n o) x)

abbrev pub InverseProductHolds : Type 0
InverseProductHolds = (n o : Interval) (x y : Fraction) → IsFraction x → IsFraction y → IsTrue (holds_fraction n (product_of x y)) → IsTrue (holds_fraction o y) →
    IsTrue (holds_fraction (inverse_product n o) x)

abbrev pub InverseSquareHolds : Type 0
InverseSquareHolds = (own n : Interval) (x : Fraction) → IsKept n → IsFraction x → IsTrue (holds_fraction own x) → IsTrue (holds_fraction n (product_of x x)) →
    IsTrue (holds_fraction (inverse_square own n) x)

-- ---- smaller arguments give an interval inside

abbrev pub SumIsIsotone : Type 0
SumIsIsotone = (i j i' j' : Interval) → IsTrue (within i i') → IsTrue (within j j') → IsTrue (within (interval_sum i j) (interval_sum i' j'))

abbrev pub NegationIsIsotone : Type 0
NegationIsIsotone = (i i' : Interval) → IsTrue (within i i') → IsTrue (within (interval_negated i) (interval_negated i'))

abbrev pub ProductIsIsotone : Type 0
ProductIsIsotone = (i j i' j' : Interval) → IsProper i → IsProper j → IsTrue (within i i') → IsTrue (within j j') →
    IsTrue (within (interval_product i j) (interval_product i' j'))

abbrev pub SquareIsIsotone : Type 0
SquareIsIsotone = (i i' : Interval) → IsProper i → IsTrue (within i i') → IsTrue (within (interval_square i) (interval_square i'))

abbrev pub InverseSumIsIsotone : Type 0
InverseSumIsIsotone = (n o n' o' : Interval) → IsTrue (within n n') → IsTrue (within o o') → IsTrue (within (inverse_sum n o) (inverse_sum n' o'))

abbrev pub InverseProductIsIsotone : Type 0
InverseProductIsIsotone = (n o n' o' : Interval) → IsProper n → IsProper o → IsTrue (within n n') → IsTrue (within o o') →
    IsTrue (within (inverse_product n o) (inverse_product n' o'))

abbrev pub InverseSquareIsIsotone : Type 0
InverseSquareIsIsotone = (own n own' n' : Interval) → IsKept n → IsKept n' → IsProper n → IsTrue (within own own') → IsTrue (within n n') →
    IsTrue (within (inverse_square own n) (inverse_square own' n'))
