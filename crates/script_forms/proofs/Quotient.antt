-- A quotient by a constant is the product with its inverse.
use Rattle.std.proofs.Common.{List, ◌≡◌, ℕ, suc, zero, ◌+◌, ◌*◌, ◌<◌, cond, ap, arith, ℤ, pos, negsuc, ◌*ℤ◌, neg_ℤ, nat_eq, mul-pos}
use lib.Dec.{eqb-suc-zero}
use borrow.Author.Differences.{up, down}
use Rattle.dyadic.specs.Fraction.{Fraction, IsFraction, quotient_of, product_of}
use Rattle.script_model.specs.Sexp.{Place}
use Rattle.poly_graph.specs.Term.{Term, constant}
use Rattle.dyadic.specs.Point.{Coordinate}
use Rattle.script_model.specs.Meaning.{real}
use Rattle.script_forms.specs.Terms.{Unfolded, term, formula, refused, either, divide_tree, multiply_tree, zero_divisor}
use Rattle.dyadic.specs.Lowest.{reduced}
use Rattle.dyadic.proofs.Equal.{◌≈◌, ≈_trans}
use Rattle.dyadic.proofs.Ring.{atom, natural, minus, times, same, read}
use Rattle.script_forms.proofs.Lowest.{reduced_same}
use Rattle.script_forms.proofs.Means.{Means, Num, product_means}

module _ (m : Fraction) (point : List Coordinate) where
  pub along : (x y : Fraction) (u : Unfolded) → IsFraction x → x ≈ y → Means m point (real y) u → Means m point (real x) u
  along x y (term t) f e h = record { one = f; other = h.other; equal = ≈_trans h.one e h.equal }
  along x y (refused w) f e h = tt
  along x y (formula f g) i e h = elim h [ ]
  along x y (either f g t u) i e h = elim h [ ]

  by-quotient : (at : Place) (p : Fraction) (t : Term) → Num m point p t → (x : Fraction) (c : ℕ) (z : ℤ) (n : ℕ) → IsFraction x → 0 < n →
      x ≈ product_of p (record { num = z; den = n }) →
      Means m point (real x) (cond (nat_eq (suc c) 0) (refused (zero_divisor at)) (multiply_tree at t (constant (reduced (record { num = z; den = n })))))
  by-quotient at p t h x c z n f g e = let k = reduced_same (record { num = z; den = n }) g in rw (eqb-suc-zero c)
      (along x (product_of p (record { num = z; den = n })) (multiply_tree at t (constant (reduced (record { num = z; den = n })))) f e
      (product_means m point at p (record { num = z; den = n }) t (constant (reduced (record { num = z; den = n }))) h (record { one = g; other = k.0; equal = k.1 })))

  -- a d = c b makes (p b) / a and p (d / c) one
  positive : (p : Fraction) (a b c d : ℕ) → a * d + 0 ≡ c * b + 0 →
      record { num = p.num *ℤ pos b; den = p.den * a } ≈ product_of p (record { num = pos (1 * d); den = 1 * c })
  unfolding product_of
  positive p a b c d e = record {
    same = same (times (times (atom p.num) (natural b)) (natural (p.den * (1 * c))))
        (times (times (atom p.num) (natural (1 * d))) (natural (p.den * a)))
        (omega (arith, ap (λ x. x * (up p.num * p.den)) e, ap (λ x. x * (down p.num * p.den)) e));
  }

  negative : (p : Fraction) (a b c d : ℕ) → 0 + c * b ≡ 0 + a * d →
      record { num = neg_ℤ (p.num *ℤ pos b); den = p.den * a } ≈ product_of p (record { num = neg_ℤ (pos (1 * d)); den = 1 * c })
  unfolding product_of
  negative p a b c d e = record {
    same = same (times (minus (times (atom p.num) (natural b))) (natural (p.den * (1 * c))))
        (times (times (atom p.num) (minus (natural (1 * d)))) (natural (p.den * a)))
        (omega (arith, ap (λ x. x * (up p.num * p.den)) e, ap (λ x. x * (down p.num * p.den)) e));
  }

  pub divide_constant : (at : Place) (p : Fraction) (a : ℤ) (b : ℕ) (t : Term) (c : ℤ) (d : ℕ) → Num m point p t →
      Num m point (record { num = a; den = b }) (constant (record { num = c; den = d })) →
      Means m point (real (quotient_of p (record { num = a; den = b }))) (divide_tree at t (constant (record { num = c; den = d })))
  unfolding quotient_of
  divide_constant at p a b t (pos zero) d h k = tt
  divide_constant at p (pos zero) b t (pos (suc c)) d h k =
      absurd (omega (arith, mul-pos {m = suc c} {n = b} (omega arith) k.one, read (natural (0 * d)) (natural (suc c * b)) k.equal.same))
  divide_constant at p (pos zero) b t (negsuc c) d h k =
      absurd (omega (arith, mul-pos {m = suc c} {n = b} (omega arith) k.one, read (natural (0 * d)) (minus (natural (suc c * b))) k.equal.same))
  divide_constant at p (pos (suc a)) b t (pos (suc c)) d h k =
      by-quotient at p t h (record { num = p.num *ℤ pos b; den = p.den * suc a }) c (pos (1 * d)) (1 * suc c)
      (mul-pos h.one (omega arith)) (omega arith)
      (positive p (suc a) b (suc c) d (read (natural (suc a * d)) (natural (suc c * b)) k.equal.same))
  divide_constant at p (pos (suc a)) b t (negsuc c) d h k =
      absurd (omega (arith, mul-pos {m = suc a} {n = d} (omega arith) k.other, read (natural (suc a * d)) (minus (natural (suc c * b))) k.equal.same))
  divide_constant at p (negsuc a) b t (pos (suc c)) d h k =
      absurd (omega (arith, mul-pos {m = suc a} {n = d} (omega arith) k.other, read (minus (natural (suc a * d))) (natural (suc c * b)) k.equal.same))
  divide_constant at p (negsuc a) b t (negsuc c) d h k =
      by-quotient at p t h (record { num = neg_ℤ (p.num *ℤ pos b); den = p.den * suc a }) c (neg_ℤ (pos (1 * d))) (1 * suc c)
      (mul-pos h.one (omega arith)) (omega arith)
      (negative p (suc a) b (suc c) d (read (minus (natural (suc a * d))) (minus (natural (suc c * b))) k.equal.same))
