-- Rewritten scripts, as one writes them by hand.
use Rattle.std.proofs.Common.{◌≡◌, ℕ, ◌^◌, List, [], ◌∷◌, codes, Some, None, refl, arith, ℤ, pos, ◌*ℤ◌, neg_ℤ}
use Rattle.dyadic.specs.Fraction.{Fraction, zero_fraction}
use Rattle.dyadic.specs.Point.{real_sort, at_fraction}
use Rattle.dyadic.specs.Rounding.{Ext, finite}
use Rattle.interval_model.specs.Interval.{between}
use Rattle.script_model.specs.Sexp.{Place, numeral, decimal, symbol, Sexp, leaf, group, none, more}
use Rattle.script_model.specs.Script.{Command, declare, define, claim}
use Rattle.script_roots.specs.Tree.{atomic, root}
use Rattle.script_roots.specs.TreeBounds.{declared_ranges}
use Rattle.script_roots.specs.Rewritten.{rewritten, script_table}
use Rattle.script_roots.specs.Laws.{SatisfiesWith, HasRoots, IsRewritable}

abbrev here : Place
here = record { line = 1; column = 1 }

abbrev name : List ℕ → Sexp
name x = leaf here (symbol x)

abbrev number : List ℕ → Sexp
number digits = leaf here (numeral digits)

abbrev one_of : List ℕ → Sexp → Sexp
one_of f a = group here (more (name f) (more a none))

abbrev two_of : List ℕ → Sexp → Sexp → Sexp
two_of f a b = group here (more (name f) (more a (more b none)))

abbrev x : Sexp
x = name (codes "x")

-- x is from 0 to 4
abbrev bounded : List Command → List Command
bounded rest = declare here (codes "x") real_sort ∷ claim here (two_of (codes ">=") x (number (codes "0"))) ∷ claim here (two_of (codes "<=") x (number (codes "4"))) ∷ rest

-- 1.5
abbrev one_and_half : Sexp
one_and_half = leaf here (decimal (codes "1") (codes "5"))

abbrev root_is : List Command
root_is = bounded (claim here (two_of (codes "=") (one_of (codes "sqrt") x) one_and_half) ∷ [])

abbrev root_0 : Sexp
root_0 = name (codes "|sqrt(0)")

abbrev times_1 : Sexp → Sexp
times_1 c = two_of (codes "*") c (number (codes "1"))

abbrev without_root : List Command
without_root =
    declare here (codes "x") real_sort ∷ declare here (codes "|sqrt(0)") real_sort ∷
    claim here (two_of (codes ">=") root_0 (number (codes "0"))) ∷ claim here (two_of (codes "<=") root_0 (number (codes "2"))) ∷
    claim here (two_of (codes "=") (two_of (codes "*") root_0 root_0) x) ∷
    claim here (two_of (codes ">=") x (number (codes "0"))) ∷ claim here (two_of (codes "<=") x (number (codes "4"))) ∷
    claim here (two_of (codes "=") (times_1 root_0) one_and_half) ∷ []

-- `(= (sqrt x) 1.5)` with x from 0 to 4
pub root_rewritten : rewritten None root_is ≡ without_root
unfolding Rattle.std.specs.Fmt.digits Rattle.dyadic.specs.Fraction.at_most
root_rewritten = refl

-- `(define-fun half ((t Real)) Real (/ (sqrt t) 2))`, called twice with the same argument, has one constant
abbrev called_twice : List Command
called_twice = bounded
    (define here (codes "half") (record { at = here; name = codes "t"; sort = real_sort } ∷ []) real_sort (two_of (codes "/") (one_of (codes "sqrt") (name (codes "t"))) (number (codes "2"))) ∷
    claim here (two_of (codes "<") (one_of (codes "half") x) (two_of (codes "+") x (one_of (codes "half") x))) ∷ [])

pub one_constant : script_table None called_twice ≡ (codes "|sqrt(0)", root here (atomic here (symbol (codes "x")))) ∷ []
unfolding Rattle.std.specs.Fmt.digits Rattle.dyadic.specs.Fraction.at_most
one_constant = refl

-- ---- quotients

abbrev from_to : List ℕ → List ℕ → List Command → List Command
from_to low high rest = declare here (codes "x") real_sort ∷ claim here (two_of (codes ">=") x (number low)) ∷ claim here (two_of (codes "<=") x (number high)) ∷ rest

abbrev inverse_is_one : Command
inverse_is_one = claim here (two_of (codes "=") (two_of (codes "/") (number (codes "1")) x) (number (codes "1")))

abbrev quotient_0 : Sexp
quotient_0 = name (codes "|quotient(0)")

-- so many 2^20ths
abbrev parts : List ℕ → Sexp
parts n = two_of (codes "/") (number n) (number (codes "1048576"))

-- `(= (/ 1 x) 1)` with x from 1 to 2
pub quotient_rewritten : rewritten None (from_to (codes "1") (codes "2") (inverse_is_one ∷ [])) ≡
    declare here (codes "x") real_sort ∷ declare here (codes "|quotient(0)") real_sort ∷
    claim here (two_of (codes ">=") quotient_0 (parts (codes "524288"))) ∷ claim here (two_of (codes "<=") quotient_0 (parts (codes "1048576"))) ∷
    claim here (two_of (codes "=") (two_of (codes "*") quotient_0 x) (number (codes "1"))) ∷
    claim here (two_of (codes ">=") x (number (codes "1"))) ∷ claim here (two_of (codes "<=") x (number (codes "2"))) ∷
    claim here (two_of (codes "=") (times_1 quotient_0) (number (codes "1"))) ∷ []
unfolding Rattle.std.specs.Fmt.digits Rattle.dyadic.specs.Fraction.at_most Rattle.dyadic.specs.Fraction.quotient_of
quotient_rewritten = refl

-- with x from 0 to 2 it stays as it is
pub quotient_stays : rewritten None (from_to (codes "0") (codes "2") (inverse_is_one ∷ [])) ≡ from_to (codes "0") (codes "2") (inverse_is_one ∷ [])
unfolding Rattle.std.specs.Fmt.digits Rattle.dyadic.specs.Fraction.at_most Rattle.dyadic.specs.Fraction.quotient_of
quotient_stays = refl

-- with x from 2 to 0, where nothing lies, the constant is 0
pub quotient_in_empty_box : rewritten None (from_to (codes "2") (codes "0") (inverse_is_one ∷ [])) ≡
    declare here (codes "x") real_sort ∷ declare here (codes "|quotient(0)") real_sort ∷
    claim here (two_of (codes ">=") quotient_0 (number (codes "0"))) ∷ claim here (two_of (codes "<=") quotient_0 (number (codes "0"))) ∷
    claim here (two_of (codes "=") (two_of (codes "*") quotient_0 x) (number (codes "1"))) ∷
    claim here (two_of (codes ">=") x (number (codes "2"))) ∷ claim here (two_of (codes "<=") x (number (codes "0"))) ∷
    claim here (two_of (codes "=") (times_1 quotient_0) (number (codes "1"))) ∷ []
unfolding Rattle.std.specs.Fmt.digits Rattle.dyadic.specs.Fraction.at_most Rattle.dyadic.specs.Fraction.quotient_of
quotient_in_empty_box = refl

-- ---- ranges

-- so many halves
abbrev halves : ℤ → Ext
halves n = finite (record { units = n *ℤ pos (2 ^ 119) })

-- `(and (<= (- 1) x (* 3 (/ 1 2))) (< y 2))`
abbrev chain_and_one : Sexp
chain_and_one =
    let low = one_of (codes "-") (number (codes "1")) in
    let high = two_of (codes "*") (number (codes "3")) (two_of (codes "/") (number (codes "1")) (number (codes "2"))) in
    two_of (codes "and") (group here (more (name (codes "<=")) (more low (more x (more high none))))) (two_of (codes "<") (name (codes "y")) (number (codes "2")))

-- x is from -1 to 3/2, and y from -10, the words' bound, to 2
pub ranges_are : declared_ranges (Some 10) (declare here (codes "x") real_sort ∷ declare here (codes "y") real_sort ∷ claim here chain_and_one ∷ []) ≡
    (codes "y", between (halves (neg_ℤ (pos 20))) (halves (pos 4))) ∷ (codes "x", between (halves (neg_ℤ (pos 2))) (halves (pos 3))) ∷ []
unfolding Rattle.std.specs.Fmt.digits Rattle.dyadic.specs.Fraction.at_most Rattle.dyadic.specs.Fraction.negated Rattle.dyadic.specs.Fraction.product_of Rattle.dyadic.specs.Fraction.quotient_of
ranges_are = refl

-- ---- at a point

pub is_rewritable : IsRewritable None root_is
unfolding Rattle.std.specs.Fmt.digits Rattle.dyadic.specs.Fraction.at_most Rattle.dyadic.specs.Fraction.negated Rattle.dyadic.specs.Fraction.quotient_of
is_rewritable = record { nothing_left_out = refl; distinct = refl; bounded = refl }

abbrev over_four : ℕ → Fraction
over_four n = record { num = pos n; den = 4 }

abbrev three_halves : Fraction
three_halves = record { num = pos 3; den = 2 }

-- 3/2 is the root of 9/4
pub has_root : HasRoots (λ q. three_halves) None root_is (at_fraction (over_four 9) ∷ [])
unfolding Rattle.std.specs.Fmt.digits Rattle.dyadic.specs.Fraction.at_most Rattle.dyadic.specs.Fraction.product_of
has_root = (record { fraction = omega arith; not_negative = refl; not_above = refl; not_below = refl }, tt)

pub holds_there : SatisfiesWith (λ q. three_halves) zero_fraction (at_fraction (over_four 9) ∷ []) root_is
unfolding Rattle.dyadic.specs.Fraction.at_most Rattle.dyadic.specs.Fraction.negated Rattle.dyadic.specs.Fraction.sum_of
holds_there = (refl, (refl, (refl, tt)))
