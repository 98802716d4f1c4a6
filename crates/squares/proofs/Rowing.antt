-- The rows of a block, one place after the other.
use Rattle.std.proofs.Common.{◌≡◌, ℕ, suc, zero, ◌+◌, ◌*◌, ◌<◌, ◌≤◌, List, [], ◌∷◌, Vec, map, length, get_or, drop, min, refl, ap, ap₂, ◌∙◌, arith}
use Rattle.std.specs.declared.alloc.Global.{Global}
use Rattle.cover_line.specs.Views.{axes_of, numbers_of}
use Rattle.dyadic.specs.Rounding.{Dyadic}
use Rattle.dyadic.specs.Views.{dyadic_of}
use Rattle.dyadic.specs.declared.dy.Dy.{Dy}
use Rattle.square_model.specs.Polynomial.{Monomial, Polynomial}
use Rattle.square_model.specs.Block.{row_given, row_polynomial, squares_with}
use Rattle.square_model.specs.Steps.{Counted, counted_sum, counted_product}

-- ---- a row

no-numbers : (ms : List Monomial) (q : Polynomial) → row_given ms [] q ≡ q
no-numbers [] q = refl
no-numbers (m ∷ ms) q = refl

no-monomials : (vs : List Dyadic) (q : Polynomial) → row_given [] vs q ≡ q
no-monomials vs q = refl

pub row_done : (ms : List (Vec ℕ Global)) (vs : List Dy) (k : ℕ) (q : Polynomial) → min (length ms) (length vs) ≤ k → row_given (map axes_of (drop k ms)) (map dyadic_of (drop k vs)) q ≡ q
row_done [] vs zero q h = refl
row_done [] vs (suc k) q h = refl
row_done (m ∷ ms) [] zero q h = refl
row_done (m ∷ ms) [] (suc k) q h = no-numbers (map axes_of (drop k ms)) q
row_done (m ∷ ms) (v ∷ vs) zero q h = absurd (omega arith)
row_done (m ∷ ms) (v ∷ vs) (suc k) q h = row_done ms vs k q (omega arith)

-- ---- the squares

no-rows : (ms : List Monomial) (q : Counted) → squares_with ms [] q ≡ q
no-rows [] q = refl
no-rows (m ∷ ms) q = refl

pub squares_done : (ms : List (Vec ℕ Global)) (rows : List (Vec Dy Global)) (k : ℕ) (q : Counted) → min (length ms) (length rows) ≤ k → squares_with (map axes_of (drop k ms)) (map numbers_of (drop k rows)) q ≡ q
squares_done [] rows zero q h = refl
squares_done [] rows (suc k) q h = refl
squares_done (m ∷ ms) [] zero q h = refl
squares_done (m ∷ ms) [] (suc k) q h = no-rows (map axes_of (drop k ms)) q
squares_done (m ∷ ms) (r ∷ rows) zero q h = absurd (omega arith)
squares_done (m ∷ ms) (r ∷ rows) (suc k) q h = squares_done ms rows k q (omega arith)

-- with the square of this row
abbrev pub with_square : List Monomial → List Dyadic → Counted → Counted
with_square ms vs q = counted_sum q (counted_product (row_polynomial ms vs) (row_polynomial ms vs))

pub squares_next : (ms : List (Vec ℕ Global)) (rows : List (Vec Dy Global)) (k : ℕ) (r : Vec Dy Global) (q : Counted) → k < length ms → k < length rows →
    squares_with (map axes_of (drop k ms)) (map numbers_of (drop k rows)) q
    ≡ squares_with (map axes_of (drop (k + 1) ms)) (map numbers_of (drop (k + 1) rows)) (with_square (map axes_of (drop k ms)) (numbers_of (get_or rows k r)) q)
squares_next [] rows k r q h l = absurd (omega arith)
squares_next (m ∷ ms) [] k r q h l = absurd (omega arith)
squares_next (m ∷ ms) (r0 ∷ rows) zero r q h l = refl
squares_next (m ∷ ms) (r0 ∷ rows) (suc k) r q h l = let next : suc (k + 1) ≡ suc k + 1 = omega arith in
    squares_next ms rows k r q (omega arith) (omega arith)
    ∙ ap (λ (j : ℕ). squares_with (map axes_of (drop j (m ∷ ms))) (map numbers_of (drop j (r0 ∷ rows))) (with_square (map axes_of (drop k ms)) (numbers_of (get_or rows k r)) q)) next

-- steps only grow
pub squares_grow : (ms : List Monomial) (rows : List (List Dyadic)) (q : Counted) → q.steps ≤ (squares_with ms rows q).steps
squares_grow [] rows q = omega arith
squares_grow (m ∷ ms) [] q = omega arith
squares_grow (m ∷ ms) (vs ∷ rows) q = let h = squares_grow ms rows (with_square (m ∷ ms) vs q) in omega (arith, h)

-- ---- in numbers: what was left, what is taken, and the steps of the square and of the sum with it

pub over_product : (b left taken m n r t w : ℕ) → left + taken ≡ b → left < m * n → m ≡ r → n ≡ r → (taken + ((0 + 0) + r * r)) + t ≤ w → b < w
over_product b left taken m n r t w h l e f g = let p = ap₂ (λ (x y : ℕ). x * y) e f in omega (arith, h, l, g, p)

pub over_sum : (b left taken after m n r s q i j w : ℕ) → left + taken ≡ b → after + m * n ≡ left → after < i + j → m ≡ r → n ≡ r → i ≡ s → j ≡ q → (taken + ((0 + 0) + r * r)) + (s + q) ≤ w → b < w
over_sum b left taken after m n r s q i j w h k l e f e' f' g = let p = ap₂ (λ (x y : ℕ). x * y) e f in omega (arith, h, k, l, e', f', g, p)

pub balanced : (b left taken after last m n r s q i j : ℕ) → left + taken ≡ b → after + m * n ≡ left → last + (i + j) ≡ after → m ≡ r → n ≡ r → i ≡ s → j ≡ q → last + ((taken + ((0 + 0) + r * r)) + (s + q)) ≡ b
balanced b left taken after last m n r s q i j h k l e f e' f' = let p = ap₂ (λ (x y : ℕ). x * y) e f in omega (arith, h, k, l, e', f', p)
