-- Fractions with their proofs that they are, and the equations between them that polynomials need.
use Rattle.std.proofs.Common.{◌≡◌, ℕ, ◌*◌, arith, refl, ℤ, pos, ◌+ℤ◌, ◌*ℤ◌, neg_ℤ, lit<}
use Rattle.dyadic.specs.Fraction.{Fraction, IsFraction, whole, zero_fraction, sum_of, product_of, negated}
use Rattle.dyadic.specs.Rounding.{Dyadic, exact}
use Rattle.dyadic.proofs.Ring.{atom, natural, plus, minus, times, same}
use Rattle.dyadic.proofs.Equal.{◌≈◌, ≈_refl, ≈_sym, ≈_trans, sum_same, product_same, negated_same}
use Rattle.interval_model.proofs.Ends.{product_is_good}
use Rattle.interval_model.proofs.EndsSums.{sum_is_good, negated_is_good}

pub record Number : Type 0 where
  pub value : Fraction
  pub good : IsFraction value

abbrev pub nought : Number
nought = record { value = zero_fraction; good = lit< tt }

abbrev pub one : Number
one = record { value = whole (pos 1); good = lit< tt }

abbrev pub number : Dyadic → Number
number d = record { value = exact d; good = lit< tt }

abbrev pub plus_of : Number → Number → Number
plus_of x y = record { value = sum_of x.value y.value; good = sum_is_good x.value y.value x.good y.good }

abbrev pub times_of : Number → Number → Number
times_of x y = record { value = product_of x.value y.value; good = product_is_good x.value y.value x.good y.good }

abbrev pub opposite_of : Number → Number
opposite_of x = record { value = negated x.value; good = negated_is_good x.value x.good }

abbrev pub less : Number → Number → Number
less x y = plus_of x (opposite_of y)

-- ---- equal numbers

infix 50 ◌≃◌
abbrev pub ◌≃◌ : Number → Number → Type 0
◌≃◌ x y = x.value ≈ y.value

pub same_number : (x : Number) → x ≃ x
same_number x = ≈_refl x.value

pub turned : (x y : Number) → x ≃ y → y ≃ x
turned x y e = ≈_sym e

pub then : (x y z : Number) → x ≃ y → y ≃ z → x ≃ z
then x y z e f = ≈_trans y.good e f

pub plus_same : (x x' y y' : Number) → x ≃ x' → y ≃ y' → plus_of x y ≃ plus_of x' y'
plus_same x x' y y' e f = sum_same e f

pub times_same : (x x' y y' : Number) → x ≃ x' → y ≃ y' → times_of x y ≃ times_of x' y'
times_same x x' y y' e f = product_same e f

pub opposite_same : (x x' : Number) → x ≃ x' → opposite_of x ≃ opposite_of x'
opposite_same x x' e = negated_same e

pub less_same : (x x' y y' : Number) → x ≃ x' → y ≃ y' → less x y ≃ less x' y'
less_same x x' y y' e f = sum_same e (negated_same f)

-- ---- equations

nought-left-at : (v : ℤ) (v' : ℕ) → (((pos 0) *ℤ pos v') +ℤ (v *ℤ pos 1)) *ℤ pos v' ≡ v *ℤ pos (1 * v')
nought-left-at v v' = same (times (plus (times (natural 0) (natural v')) (times (atom v) (natural 1))) (natural v')) (times (atom v) (natural (1 * v'))) (omega arith)

-- 0 + v is v
pub nought_left : (v : Number) → plus_of nought v ≃ v
unfolding sum_of product_of negated
nought_left v = record { same = nought-left-at v.value.num v.value.den }

nought-right-at : (v : ℤ) (v' : ℕ) → ((v *ℤ pos 1) +ℤ ((pos 0) *ℤ pos v')) *ℤ pos v' ≡ v *ℤ pos (v' * 1)
nought-right-at v v' = same (times (plus (times (atom v) (natural 1)) (times (natural 0) (natural v'))) (natural v')) (times (atom v) (natural (v' * 1))) (omega arith)

-- v + 0 is v
pub nought_right : (v : Number) → plus_of v nought ≃ v
unfolding sum_of product_of negated
nought_right v = record { same = nought-right-at v.value.num v.value.den }

taken-back-at : (v x : ℤ) (v' x' : ℕ) → ((((v *ℤ pos x') +ℤ (x *ℤ pos v')) *ℤ pos x') +ℤ ((neg_ℤ x) *ℤ pos (v' * x'))) *ℤ pos v' ≡ v *ℤ pos ((v' * x') * x')
taken-back-at v x v' x' = same (times (plus (times (plus (times (atom v) (natural x')) (times (atom x) (natural v'))) (natural x')) (times (minus (atom x)) (natural (v' * x')))) (natural v')) (times (atom v) (natural ((v' * x') * x'))) (omega arith)

-- (v + x) - x is v
pub taken_back : (v x : Number) → plus_of (plus_of v x) (opposite_of x) ≃ v
unfolding sum_of product_of negated
taken_back v x = record { same = taken-back-at v.value.num x.value.num v.value.den x.value.den }

put-back-at : (v x : ℤ) (v' x' : ℕ) → ((x *ℤ pos (v' * x')) +ℤ (((v *ℤ pos x') +ℤ ((neg_ℤ x) *ℤ pos v')) *ℤ pos x')) *ℤ pos v' ≡ v *ℤ pos (x' * (v' * x'))
put-back-at v x v' x' = same (times (plus (times (atom x) (natural (v' * x'))) (times (plus (times (atom v) (natural x')) (times (minus (atom x)) (natural v'))) (natural x'))) (natural v')) (times (atom v) (natural (x' * (v' * x')))) (omega arith)

-- x + (v - x) is v
pub put_back : (v x : Number) → plus_of x (plus_of v (opposite_of x)) ≃ v
unfolding sum_of product_of negated
put_back v x = record { same = put-back-at v.value.num x.value.num v.value.den x.value.den }

taken-front-at : (v x : ℤ) (v' x' : ℕ) → ((((x *ℤ pos v') +ℤ (v *ℤ pos x')) *ℤ pos x') +ℤ ((neg_ℤ x) *ℤ pos (x' * v'))) *ℤ pos v' ≡ v *ℤ pos ((x' * v') * x')
taken-front-at v x v' x' = same (times (plus (times (plus (times (atom x) (natural v')) (times (atom v) (natural x'))) (natural x')) (times (minus (atom x)) (natural (x' * v')))) (natural v')) (times (atom v) (natural ((x' * v') * x'))) (omega arith)

-- (x + v) - x is v
pub taken_front : (v x : Number) → plus_of (plus_of x v) (opposite_of x) ≃ v
unfolding sum_of product_of negated
taken_front v x = record { same = taken-front-at v.value.num x.value.num v.value.den x.value.den }

less-nought-at : (v : ℤ) (v' : ℕ) → ((v *ℤ pos 1) +ℤ ((neg_ℤ (pos 0)) *ℤ pos v')) *ℤ pos v' ≡ v *ℤ pos (v' * 1)
less-nought-at v v' = same (times (plus (times (atom v) (natural 1)) (times (minus (natural 0)) (natural v'))) (natural v')) (times (atom v) (natural (v' * 1))) (omega arith)

-- v - 0 is v
pub less_nought : (v : Number) → plus_of v (opposite_of nought) ≃ v
unfolding sum_of product_of negated
less_nought v = record { same = less-nought-at v.value.num v.value.den }

less-both-at : (v x y : ℤ) (v' x' y' : ℕ) → ((((v *ℤ pos x') +ℤ ((neg_ℤ x) *ℤ pos v')) *ℤ pos y') +ℤ ((neg_ℤ y) *ℤ pos (v' * x'))) *ℤ pos (v' * (x' * y')) ≡ ((v *ℤ pos (x' * y')) +ℤ ((neg_ℤ ((x *ℤ pos y') +ℤ (y *ℤ pos x'))) *ℤ pos v')) *ℤ pos ((v' * x') * y')
less-both-at v x y v' x' y' = same (times (plus (times (plus (times (atom v) (natural x')) (times (minus (atom x)) (natural v'))) (natural y')) (times (minus (atom y)) (natural (v' * x')))) (natural (v' * (x' * y')))) (times (plus (times (atom v) (natural (x' * y'))) (times (minus (plus (times (atom x) (natural y')) (times (atom y) (natural x')))) (natural v'))) (natural ((v' * x') * y'))) (omega arith)

-- (v - x) - y is v - (x + y)
pub less_both : (v x y : Number) → plus_of (plus_of v (opposite_of x)) (opposite_of y) ≃ plus_of v (opposite_of (plus_of x y))
unfolding sum_of product_of negated
less_both v x y = record { same = less-both-at v.value.num x.value.num y.value.num v.value.den x.value.den y.value.den }

taken-after-at : (v x y : ℤ) (v' x' y' : ℕ) → ((((v *ℤ pos x') +ℤ (x *ℤ pos v')) *ℤ pos y') +ℤ ((neg_ℤ y) *ℤ pos (v' * x'))) *ℤ pos ((v' * y') * x') ≡ ((((v *ℤ pos y') +ℤ ((neg_ℤ y) *ℤ pos v')) *ℤ pos x') +ℤ (x *ℤ pos (v' * y'))) *ℤ pos ((v' * x') * y')
taken-after-at v x y v' x' y' = same (times (plus (times (plus (times (atom v) (natural x')) (times (atom x) (natural v'))) (natural y')) (times (minus (atom y)) (natural (v' * x')))) (natural ((v' * y') * x'))) (times (plus (times (plus (times (atom v) (natural y')) (times (minus (atom y)) (natural v'))) (natural x')) (times (atom x) (natural (v' * y')))) (natural ((v' * x') * y'))) (omega arith)

-- (v + x) - y is (v - y) + x
pub taken_after : (v x y : Number) → plus_of (plus_of v x) (opposite_of y) ≃ plus_of (plus_of v (opposite_of y)) x
unfolding sum_of product_of negated
taken_after v x y = record { same = taken-after-at v.value.num x.value.num y.value.num v.value.den x.value.den y.value.den }

taken-joined-at : (a b m v : ℤ) (a' b' m' v' : ℕ) → ((((v *ℤ pos (a' * m')) +ℤ ((a *ℤ m) *ℤ pos v')) *ℤ pos ((b' * a') * m')) +ℤ ((neg_ℤ (((b *ℤ pos a') +ℤ (a *ℤ pos b')) *ℤ m)) *ℤ pos (v' * (a' * m')))) *ℤ pos (v' * (b' * m')) ≡ ((v *ℤ pos (b' * m')) +ℤ ((neg_ℤ (b *ℤ m)) *ℤ pos v')) *ℤ pos ((v' * (a' * m')) * ((b' * a') * m'))
taken-joined-at a b m v a' b' m' v' = same (times (plus (times (plus (times (atom v) (natural (a' * m'))) (times (times (atom a) (atom m)) (natural v'))) (natural ((b' * a') * m'))) (times (minus (times (plus (times (atom b) (natural a')) (times (atom a) (natural b'))) (atom m))) (natural (v' * (a' * m'))))) (natural (v' * (b' * m')))) (times (plus (times (atom v) (natural (b' * m'))) (times (minus (times (atom b) (atom m))) (natural v'))) (natural ((v' * (a' * m')) * ((b' * a') * m')))) (omega arith)

-- (v + a m) - (b + a) m is v - b m
pub taken_joined : (a b m v : Number) → plus_of (plus_of v (times_of a m)) (opposite_of (times_of (plus_of b a) m)) ≃ plus_of v (opposite_of (times_of b m))
unfolding sum_of product_of negated
taken_joined a b m v = record { same = taken-joined-at a.value.num b.value.num m.value.num v.value.num a.value.den b.value.den m.value.den v.value.den }

cancelled-at : (x : ℤ) (x' : ℕ) → ((x *ℤ pos x') +ℤ ((neg_ℤ x) *ℤ pos x')) *ℤ pos 1 ≡ (pos 0) *ℤ pos (x' * x')
cancelled-at x x' = same (times (plus (times (atom x) (natural x')) (times (minus (atom x)) (natural x'))) (natural 1)) (times (natural 0) (natural (x' * x'))) (omega arith)

-- x - x is 0
pub cancelled : (x : Number) → plus_of x (opposite_of x) ≃ nought
unfolding sum_of product_of negated
cancelled x = record { same = cancelled-at x.value.num x.value.den }

passed-on-at : (v w x : ℤ) (v' w' x' : ℕ) → ((((v *ℤ pos x') +ℤ (x *ℤ pos v')) *ℤ pos (w' * x')) +ℤ (((w *ℤ pos x') +ℤ ((neg_ℤ x) *ℤ pos w')) *ℤ pos (v' * x'))) *ℤ pos (v' * w') ≡ ((v *ℤ pos w') +ℤ (w *ℤ pos v')) *ℤ pos ((v' * x') * (w' * x'))
passed-on-at v w x v' w' x' = same (times (plus (times (plus (times (atom v) (natural x')) (times (atom x) (natural v'))) (natural (w' * x'))) (times (plus (times (atom w) (natural x')) (times (minus (atom x)) (natural w'))) (natural (v' * x')))) (natural (v' * w'))) (times (plus (times (atom v) (natural w')) (times (atom w) (natural v'))) (natural ((v' * x') * (w' * x')))) (omega arith)

-- (v + x) + (w - x) is v + w
pub passed_on : (v w x : Number) → plus_of (plus_of v x) (plus_of w (opposite_of x)) ≃ plus_of v w
unfolding sum_of product_of negated
passed_on v w x = record { same = passed-on-at v.value.num w.value.num x.value.num v.value.den w.value.den x.value.den }

over-less-at : (k w z : ℤ) (k' w' z' : ℕ) → (k *ℤ ((w *ℤ pos z') +ℤ ((neg_ℤ z) *ℤ pos w'))) *ℤ pos ((k' * w') * (k' * z')) ≡ (((k *ℤ w) *ℤ pos (k' * z')) +ℤ ((neg_ℤ (k *ℤ z)) *ℤ pos (k' * w'))) *ℤ pos (k' * (w' * z'))
over-less-at k w z k' w' z' = same (times (times (atom k) (plus (times (atom w) (natural z')) (times (minus (atom z)) (natural w')))) (natural ((k' * w') * (k' * z')))) (times (plus (times (times (atom k) (atom w)) (natural (k' * z'))) (times (minus (times (atom k) (atom z))) (natural (k' * w')))) (natural (k' * (w' * z')))) (omega arith)

-- k (w - z) is k w - k z
pub over_less : (k w z : Number) → times_of k (plus_of w (opposite_of z)) ≃ plus_of (times_of k w) (opposite_of (times_of k z))
unfolding sum_of product_of negated
over_less k w z = record { same = over-less-at k.value.num w.value.num z.value.num k.value.den w.value.den z.value.den }

exchanged-at : (m n x y : ℤ) (m' n' x' y' : ℕ) → ((x *ℤ m) *ℤ (y *ℤ n)) *ℤ pos ((x' * y') * (m' * n')) ≡ ((x *ℤ y) *ℤ (m *ℤ n)) *ℤ pos ((x' * m') * (y' * n'))
exchanged-at m n x y m' n' x' y' = same (times (times (times (atom x) (atom m)) (times (atom y) (atom n))) (natural ((x' * y') * (m' * n')))) (times (times (times (atom x) (atom y)) (times (atom m) (atom n))) (natural ((x' * m') * (y' * n')))) (omega arith)

-- (x m) (y n) is (x y) (m n)
pub exchanged : (m n x y : Number) → times_of (times_of x m) (times_of y n) ≃ times_of (times_of x y) (times_of m n)
unfolding sum_of product_of negated
exchanged m n x y = record { same = exchanged-at m.value.num n.value.num x.value.num y.value.num m.value.den n.value.den x.value.den y.value.den }

-- (u + (x y) (m n)) + (x m) (w - y n) is u + (x m) w
pub multiple_passed_on : (m n u w x y : Number) → plus_of (plus_of u (times_of (times_of x y) (times_of m n))) (times_of (times_of x m) (less w (times_of y n))) ≃ plus_of u (times_of (times_of x m) w)
multiple_passed_on m n u w x y =
    let k : Number = times_of x m in let z : Number = times_of y n in let s : Number = times_of (times_of x y) (times_of m n) in let kw : Number = times_of k w in
    then (plus_of (plus_of u s) (times_of k (less w z))) (plus_of (plus_of u s) (less kw s)) (plus_of u kw)
    (plus_same (plus_of u s) (plus_of u s) (times_of k (less w z)) (less kw s) (same_number (plus_of u s))
    (then (times_of k (less w z)) (less kw (times_of k z)) (less kw s) (over_less k w z) (less_same kw kw (times_of k z) s (same_number kw) (exchanged m n x y))))
    (passed_on u kw s)

product-passed-on-at : (m u v w x : ℤ) (m' u' v' w' x' : ℕ) → ((((u *ℤ pos ((x' * m') * w')) +ℤ (((x *ℤ m) *ℤ w) *ℤ pos u')) *ℤ pos ((v' * (x' * m')) * w')) +ℤ ((((v *ℤ pos (x' * m')) +ℤ ((neg_ℤ (x *ℤ m)) *ℤ pos v')) *ℤ w) *ℤ pos (u' * ((x' * m') * w')))) *ℤ pos (u' * (v' * w')) ≡ ((u *ℤ pos (v' * w')) +ℤ ((v *ℤ w) *ℤ pos u')) *ℤ pos ((u' * ((x' * m') * w')) * ((v' * (x' * m')) * w'))
product-passed-on-at m u v w x m' u' v' w' x' = same (times (plus (times (plus (times (atom u) (natural ((x' * m') * w'))) (times (times (times (atom x) (atom m)) (atom w)) (natural u'))) (natural ((v' * (x' * m')) * w'))) (times (times (plus (times (atom v) (natural (x' * m'))) (times (minus (times (atom x) (atom m))) (natural v'))) (atom w)) (natural (u' * ((x' * m') * w'))))) (natural (u' * (v' * w')))) (times (plus (times (atom u) (natural (v' * w'))) (times (times (atom v) (atom w)) (natural u'))) (natural ((u' * ((x' * m') * w')) * ((v' * (x' * m')) * w')))) (omega arith)

-- (u + (x m) w) + (v - x m) w is u + v w
pub product_passed_on : (m u v w x : Number) → plus_of (plus_of u (times_of (times_of x m) w)) (times_of (plus_of v (opposite_of (times_of x m))) w) ≃ plus_of u (times_of v w)
unfolding sum_of product_of negated
product_passed_on m u v w x = record { same = product-passed-on-at m.value.num u.value.num v.value.num w.value.num x.value.num m.value.den u.value.den v.value.den w.value.den x.value.den }

times-nought-at : (x : ℤ) (x' : ℕ) → (x *ℤ (pos 0)) *ℤ pos 1 ≡ (pos 0) *ℤ pos (x' * 1)
times-nought-at x x' = same (times (times (atom x) (natural 0)) (natural 1)) (times (natural 0) (natural (x' * 1))) (omega arith)

-- x 0 is 0
pub times_nought : (x : Number) → times_of x nought ≃ nought
unfolding sum_of product_of negated
times_nought x = record { same = times-nought-at x.value.num x.value.den }

nought-times-at : (x : ℤ) (x' : ℕ) → ((pos 0) *ℤ x) *ℤ pos 1 ≡ (pos 0) *ℤ pos (1 * x')
nought-times-at x x' = same (times (times (natural 0) (atom x)) (natural 1)) (times (natural 0) (natural (1 * x'))) (omega arith)

-- 0 x is 0
pub nought_times : (x : Number) → times_of nought x ≃ nought
unfolding sum_of product_of negated
nought_times x = record { same = nought-times-at x.value.num x.value.den }

times-one-at : (x : ℤ) (x' : ℕ) → (x *ℤ (pos 1)) *ℤ pos x' ≡ x *ℤ pos (x' * 1)
times-one-at x x' = same (times (times (atom x) (natural 1)) (natural x')) (times (atom x) (natural (x' * 1))) (omega arith)

-- x 1 is x
pub times_one : (x : Number) → times_of x one ≃ x
unfolding sum_of product_of negated
times_one x = record { same = times-one-at x.value.num x.value.den }

one-times-at : (x : ℤ) (x' : ℕ) → ((pos 1) *ℤ x) *ℤ pos x' ≡ x *ℤ pos (1 * x')
one-times-at x x' = same (times (times (natural 1) (atom x)) (natural x')) (times (atom x) (natural (1 * x'))) (omega arith)

-- 1 x is x
pub one_times : (x : Number) → times_of one x ≃ x
unfolding sum_of product_of negated
one_times x = record { same = one-times-at x.value.num x.value.den }

opposite-taken-at : (a m v : ℤ) (a' m' v' : ℕ) → (((neg_ℤ v) *ℤ pos (a' * m')) +ℤ ((neg_ℤ ((neg_ℤ a) *ℤ m)) *ℤ pos v')) *ℤ pos (v' * (a' * m')) ≡ (neg_ℤ ((v *ℤ pos (a' * m')) +ℤ ((neg_ℤ (a *ℤ m)) *ℤ pos v'))) *ℤ pos (v' * (a' * m'))
opposite-taken-at a m v a' m' v' = same (times (plus (times (minus (atom v)) (natural (a' * m'))) (times (minus (times (minus (atom a)) (atom m))) (natural v'))) (natural (v' * (a' * m')))) (times (minus (plus (times (atom v) (natural (a' * m'))) (times (minus (times (atom a) (atom m))) (natural v')))) (natural (v' * (a' * m')))) (omega arith)

-- -v - (-a) m is -(v - a m)
pub opposite_taken : (a m v : Number) → plus_of (opposite_of v) (opposite_of (times_of (opposite_of a) m)) ≃ opposite_of (plus_of v (opposite_of (times_of a m)))
unfolding sum_of product_of negated
opposite_taken a m v = record { same = opposite-taken-at a.value.num m.value.num v.value.num a.value.den m.value.den v.value.den }

-- -0 is 0
pub opposite_of_nought : opposite_of nought ≃ nought
unfolding negated
opposite_of_nought = record { same = refl }

swapped-at : (m x y : ℤ) (m' x' y' : ℕ) → (x *ℤ (y *ℤ m)) *ℤ pos (y' * (x' * m')) ≡ (y *ℤ (x *ℤ m)) *ℤ pos (x' * (y' * m'))
swapped-at m x y m' x' y' = same (times (times (atom x) (times (atom y) (atom m))) (natural (y' * (x' * m')))) (times (times (atom y) (times (atom x) (atom m))) (natural (x' * (y' * m')))) (omega arith)

-- x (y m) is y (x m)
pub swapped : (m x y : Number) → times_of x (times_of y m) ≃ times_of y (times_of x m)
unfolding sum_of product_of negated
swapped m x y = record { same = swapped-at m.value.num x.value.num y.value.num m.value.den x.value.den y.value.den }

regrouped-at : (m x y : ℤ) (m' x' y' : ℕ) → (x *ℤ (y *ℤ m)) *ℤ pos ((x' * y') * m') ≡ ((x *ℤ y) *ℤ m) *ℤ pos (x' * (y' * m'))
regrouped-at m x y m' x' y' = same (times (times (atom x) (times (atom y) (atom m))) (natural ((x' * y') * m'))) (times (times (times (atom x) (atom y)) (atom m)) (natural (x' * (y' * m')))) (omega arith)

-- x (y m) is (x y) m
pub regrouped : (m x y : Number) → times_of x (times_of y m) ≃ times_of (times_of x y) m
unfolding sum_of product_of negated
regrouped m x y = record { same = regrouped-at m.value.num x.value.num y.value.num m.value.den x.value.den y.value.den }

squared-at : (d m u : ℤ) (d' m' u' : ℕ) → ((u *ℤ (d *ℤ d)) *ℤ m) *ℤ pos ((u' * d') * (d' * m')) ≡ ((u *ℤ d) *ℤ (d *ℤ m)) *ℤ pos ((u' * (d' * d')) * m')
squared-at d m u d' m' u' = same (times (times (times (atom u) (times (atom d) (atom d))) (atom m)) (natural ((u' * d') * (d' * m')))) (times (times (times (atom u) (atom d)) (times (atom d) (atom m))) (natural ((u' * (d' * d')) * m'))) (omega arith)

-- (u (d d)) m is (u d) (d m)
pub squared : (d m u : Number) → times_of (times_of u (times_of d d)) m ≃ times_of (times_of u d) (times_of d m)
unfolding sum_of product_of negated
squared d m u = record { same = squared-at d.value.num m.value.num u.value.num d.value.den m.value.den u.value.den }

constant-taken-at : (v : ℤ) (v' : ℕ) → ((v *ℤ pos (v' * 1)) +ℤ ((neg_ℤ (v *ℤ (pos 1))) *ℤ pos v')) *ℤ pos 1 ≡ (pos 0) *ℤ pos (v' * (v' * 1))
constant-taken-at v v' = same (times (plus (times (atom v) (natural (v' * 1))) (times (minus (times (atom v) (natural 1))) (natural v'))) (natural 1)) (times (natural 0) (natural (v' * (v' * 1)))) (omega arith)

-- v - v 1 is 0
pub constant_taken : (v : Number) → plus_of v (opposite_of (times_of v one)) ≃ nought
unfolding sum_of product_of negated
constant_taken v = record { same = constant-taken-at v.value.num v.value.den }

axis-taken-at : (c x : ℤ) (c' x' : ℕ) → ((((x *ℤ pos (c' * 1)) +ℤ ((neg_ℤ (c *ℤ (pos 1))) *ℤ pos x')) *ℤ pos (1 * ((x' * c') * 1))) +ℤ ((neg_ℤ ((pos 1) *ℤ (((x *ℤ pos c') +ℤ ((neg_ℤ c) *ℤ pos x')) *ℤ (pos 1)))) *ℤ pos (x' * (c' * 1)))) *ℤ pos 1 ≡ (pos 0) *ℤ pos ((x' * (c' * 1)) * (1 * ((x' * c') * 1)))
axis-taken-at c x c' x' = same (times (plus (times (plus (times (atom x) (natural (c' * 1))) (times (minus (times (atom c) (natural 1))) (natural x'))) (natural (1 * ((x' * c') * 1)))) (times (minus (times (natural 1) (times (plus (times (atom x) (natural c')) (times (minus (atom c)) (natural x'))) (natural 1)))) (natural (x' * (c' * 1))))) (natural 1)) (times (natural 0) (natural ((x' * (c' * 1)) * (1 * ((x' * c') * 1))))) (omega arith)

-- (x - c 1) - 1 ((x - c) 1) is 0
pub axis_taken : (c x : Number) → plus_of (plus_of x (opposite_of (times_of c one))) (opposite_of (times_of one (times_of (plus_of x (opposite_of c)) one))) ≃ nought
unfolding sum_of product_of negated
axis_taken c x = record { same = axis-taken-at c.value.num x.value.num c.value.den x.value.den }

bound-taken-at : (d h : ℤ) (d' h' : ℕ) → ((((((h *ℤ pos (d' * d')) +ℤ ((neg_ℤ (d *ℤ d)) *ℤ pos h')) *ℤ pos (h' * 1)) +ℤ ((neg_ℤ (h *ℤ (pos 1))) *ℤ pos (h' * (d' * d')))) *ℤ pos (1 * (d' * (d' * 1)))) +ℤ ((neg_ℤ ((neg_ℤ (pos 1)) *ℤ (d *ℤ (d *ℤ (pos 1))))) *ℤ pos ((h' * (d' * d')) * (h' * 1)))) *ℤ pos 1 ≡ (pos 0) *ℤ pos (((h' * (d' * d')) * (h' * 1)) * (1 * (d' * (d' * 1))))
bound-taken-at d h d' h' = same (times (plus (times (plus (times (plus (times (atom h) (natural (d' * d'))) (times (minus (times (atom d) (atom d))) (natural h'))) (natural (h' * 1))) (times (minus (times (atom h) (natural 1))) (natural (h' * (d' * d'))))) (natural (1 * (d' * (d' * 1))))) (times (minus (times (minus (natural 1)) (times (atom d) (times (atom d) (natural 1))))) (natural ((h' * (d' * d')) * (h' * 1))))) (natural 1)) (times (natural 0) (natural (((h' * (d' * d')) * (h' * 1)) * (1 * (d' * (d' * 1)))))) (omega arith)

-- ((h - d d) - h 1) - (-1) (d (d 1)) is 0
pub bound_taken : (d h : Number) → plus_of (plus_of (plus_of h (opposite_of (times_of d d))) (opposite_of (times_of h one))) (opposite_of (times_of (opposite_of one) (times_of d (times_of d one)))) ≃ nought
unfolding sum_of product_of negated
bound_taken d h = record { same = bound-taken-at d.value.num h.value.num d.value.den h.value.den }
