-- The axes that a state's tests and squares name are there.
use Rattle.std.proofs.Common.{◌≡◌, ℕ, zero, suc, ◌<◌, List, [], ◌∷◌, length, Bool, not, ◌&&◌, nat_lt, nat_le, IsTrue, refl, sym, true≢false, arith}
use Rattle.std.proofs.lemmas.Bool.{le-leb}
use Rattle.dyadic.proofs.Equal.{both_true, both_pass}
use Rattle.interval_model.specs.Interval.{Interval}
use Rattle.interval_model.specs.Space.{Domain, Space, test_axis}
use Rattle.poly_graph.specs.Problem.{Problem}
use Rattle.square_model.specs.Block.{Factor, no_factor, bound_of, Block, block_polynomial, greatest_square, is_real, are_real_axes, is_ascending, is_monomial, is_among, are_monomials, is_finite, is_factor, are_rows, is_block}
use Rattle.square_model.specs.Polynomial.{Monomial, is_short}
use Rattle.square_model.specs.Positive.{Multipliers, are_blocks, is_small, is_above, is_positive, rest_polynomial, allowed_range}
use Rattle.square_model.specs.Range.{apart_range, polynomial_range}
use Rattle.cert_model.specs.Due.{is_axis, are_axes, are_all_axes, is_factor_there, are_blocks_there}

tested-below : (f : Domain → Bool) (axis : ℕ) (space : Space) → IsTrue (test_axis f axis space) → axis < length space
tested-below f axis [] h = absurd (true≢false (sym h))
tested-below f zero (d ∷ space) h = omega arith
tested-below f (suc axis) (d ∷ space) h = omega (arith, tested-below f axis space h)

module _ (p : Problem) (space : Space) (n : length space ≡ length p.axes) where
  pub axis_there : (f : Domain → Bool) (axis : ℕ) → IsTrue (test_axis f axis space) → IsTrue (is_axis p axis)
  axis_there f axis h = le-leb (suc axis) (length p.axes) (omega (arith, n, tested-below f axis space h))

  monomial-there : (m : Monomial) → IsTrue (are_real_axes space m) → IsTrue (are_axes p m)
  monomial-there [] h = refl
  monomial-there (i ∷ m) h =
      let a = both_true (test_axis is_real i space) (are_real_axes space m) h in
      both_pass (is_axis p i) (are_axes p m) (axis_there is_real i a.0) (monomial-there m a.1)

  monomials-there : (ms : List Monomial) → IsTrue (are_monomials space ms) → IsTrue (are_all_axes p ms)
  monomials-there [] h = refl
  monomials-there (m ∷ ms) h =
      let a = both_true (is_monomial space m && not (is_among m ms)) (are_monomials space ms) h in
      let b = both_true (is_monomial space m) (not (is_among m ms)) a.0 in
      let c = both_true (nat_le (length m) 32 && is_ascending m) (are_real_axes space m) b.0 in
      both_pass (are_axes p m) (are_all_axes p ms) (monomial-there m c.1) (monomials-there ms a.1)

  factor-there : (centre : Space) (f : Factor) → IsTrue (is_factor space centre f) → IsTrue (is_factor_there p f)
  factor-there centre no_factor h = refl
  factor-there centre (bound_of axis) h = axis_there is_real axis (both_true (test_axis is_real axis space) (is_finite (greatest_square space centre axis)) h).0

  block-there : (centre : Space) (b : Block) → IsTrue (is_block space centre b) → IsTrue (is_factor_there p b.factor && are_all_axes p b.monomials)
  block-there centre b h =
      let a = both_true (nat_lt 0 (length b.monomials) && are_monomials space b.monomials && are_rows b.monomials b.rows) (is_factor space centre b.factor) h in
      let c = both_true (nat_lt 0 (length b.monomials) && are_monomials space b.monomials) (are_rows b.monomials b.rows) a.0 in
      let d = both_true (nat_lt 0 (length b.monomials)) (are_monomials space b.monomials) c.0 in
      both_pass (is_factor_there p b.factor) (are_all_axes p b.monomials) (factor-there centre b.factor a.1) (monomials-there b.monomials d.1)

  blocks-there : (centre : Space) (bs : List Block) → IsTrue (are_blocks space centre bs) → IsTrue (are_blocks_there p bs)
  blocks-there centre [] h = refl
  blocks-there centre (b ∷ bs) h =
      let a = both_true (is_block space centre b && is_short (block_polynomial space centre b).polynomial) (are_blocks space centre bs) h in
      let c = both_true (is_block space centre b) (is_short (block_polynomial space centre b).polynomial) a.0 in
      both_pass (is_factor_there p b.factor && are_all_axes p b.monomials) (are_blocks_there p bs) (block-there centre b c.0) (blocks-there centre bs a.1)

  -- those of blocks whose line is positive
  pub positive_there : (ranges : ℕ → Interval) (centre : Space) (ms : Multipliers) (bs : List Block) → IsTrue (is_positive p ranges space centre ms bs) → IsTrue (are_blocks_there p bs)
  positive_there ranges centre ms bs h =
      let a = both_true (are_blocks space centre bs && is_small p space centre ms bs) (is_above (polynomial_range (apart_range space centre) (rest_polynomial p space centre ms bs).polynomial) (allowed_range ranges ms)) h in
      blocks-there centre bs (both_true (are_blocks space centre bs) (is_small p space centre ms bs) a.0).0
