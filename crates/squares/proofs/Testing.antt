-- A test of an axis by the axis' domain, and tests of monomials one after the other.
use Rattle.std.proofs.Common.{◌≡◌, ℕ, zero, suc, ◌+◌, ◌-◌, ◌<◌, ◌≤◌, List, [], ◌∷◌, Vec, length, map, drop, get_or, Bool, true, false, ◌&&◌, ◌||◌, nat_eq, nat_le, refl, ap, ap₂, sym, ◌∙◌, arith}
use Rattle.std.proofs.lemmas.List.{drop_all, drop_more, length-drop, length-map}
use Rattle.std.proofs.lemmas.Bool.Decides.{nat_tests}
use Rattle.std.specs.Cmp.Lexicographic.{slice_cmp}
use Rattle.std.specs.Ordering.{nat_cmp, is_eq}
use Rattle.std.specs.declared.alloc.Global.{Global}
use Rattle.cover_line.specs.Views.{axes_of, numbers_of}
use Rattle.dyadic.specs.Views.{dyadic_of}
use Rattle.dyadic.specs.declared.dy.Dy.{Dy}
use Rattle.interval_model.specs.Space.{Domain, Space, test_axis}
use Rattle.square_model.specs.Block.{is_real, are_real_axes, is_among, is_ascending, are_monomials, are_rows}
use Rattle.square_model.specs.Polynomial.{Monomial}
use Rattle.squares.specs.Conditions.{is_before, is_new_monomial}

-- ---- an axis

tested : (f : Domain → Bool) (i : ℕ) (space : Space) (d : Domain) → i < length space → f (get_or space i d) ≡ test_axis f i space
tested f i [] d l = absurd (omega (arith, l))
tested f zero (e ∷ space) d l = refl
tested f (suc i) (e ∷ space) d l = tested f i space d (omega (arith, l))

pub tested_domain : (f : Domain → Bool) (i : ℕ) (space : Space) (d : Domain) (b : Bool) → i < length space → d ≡ get_or space i d → b ≡ f d → b ≡ test_axis f i space
tested_domain f i space d b l e h = h ∙ ap f e ∙ tested f i space d l

pub tested_past : (f : Domain → Bool) (i : ℕ) (space : Space) (b : Bool) → length space ≤ i → b ≡ false → b ≡ test_axis f i space
tested_past f i [] b l h = h
tested_past f zero (e ∷ space) b l h = absurd (omega (arith, l))
tested_past f (suc i) (e ∷ space) b l h = tested_past f i space b (omega (arith, l)) h

-- ---- ascending axes

pub before_none : (axis : ℕ) (m : Monomial) → length m ≡ 0 → is_before axis m ≡ true
before_none axis [] h = refl
before_none axis (i ∷ m) h = absurd (omega (arith, h))

pub before_some : (axis : ℕ) (m : Monomial) (d : ℕ) → 0 < length m → is_before axis m ≡ nat_le axis (get_or m 0 d)
before_some axis [] d h = absurd (omega (arith, h))
before_some axis (i ∷ m) d h = refl

ascending-first : (axis : ℕ) (m : Monomial) → is_ascending (axis ∷ m) ≡ (is_before axis m && is_ascending m)
ascending-first axis [] = refl
ascending-first axis (i ∷ m) = refl

pub ascending_from : (m : Monomial) (i d : ℕ) → i < length m → is_ascending (drop i m) ≡ (is_before (get_or m i d) (drop (i + 1) m) && is_ascending (drop (i + 1) m))
ascending_from m i d h = ap is_ascending (drop_more m i d h) ∙ ascending-first (get_or m i d) (drop (i + 1) m)

-- ---- Real axes

pub real_axes_from : (space : Space) (m : Monomial) (i d : ℕ) → i < length m → are_real_axes space (drop i m) ≡ (test_axis is_real (get_or m i d) space && are_real_axes space (drop (i + 1) m))
real_axes_from space m i d h = ap (are_real_axes space) (drop_more m i d h)

-- ---- monomials

pub among_from : (m : Monomial) (ns : List (Vec ℕ Global)) (i : ℕ) (d : Vec ℕ Global) → i < length ns →
    is_among m (map axes_of (drop i ns)) ≡ (is_eq (slice_cmp nat_cmp m (axes_of (get_or ns i d))) || is_among m (map axes_of (drop (i + 1) ns)))
among_from m ns i d h = ap (λ (os : List (Vec ℕ Global)). is_among m (map axes_of os)) (drop_more ns i d h)

pub monomials_from : (space : Space) (ms : List (Vec ℕ Global)) (i : ℕ) (d : Vec ℕ Global) → i < length ms →
    are_monomials space (map axes_of (drop i ms)) ≡ (is_new_monomial space (axes_of (get_or ms i d)) (map axes_of (drop (i + 1) ms)) && are_monomials space (map axes_of (drop (i + 1) ms)))
monomials_from space ms i d h = ap (λ (ns : List (Vec ℕ Global)). are_monomials space (map axes_of ns)) (drop_more ms i d h)

-- ---- rows

then-false : (s t : Bool) → t ≡ false → (s && t) ≡ false
then-false true t h = h
then-false false t h = refl

alike : (i j : ℕ) → i ≡ j → nat_eq i j ≡ true
alike i j e = grind (arith, nat_tests, e)

unlike : (i j : ℕ) → (i ≡ j → ⊥) → nat_eq i j ≡ false
unlike i j f = grind (arith, nat_tests, f)

pub rows_uneven : (ms : List (Vec ℕ Global)) (rows : List (Vec Dy Global)) → (length rows ≡ length ms → ⊥) → are_rows (map axes_of ms) (map numbers_of rows) ≡ false
rows_uneven [] [] h = absurd (h refl)
rows_uneven [] (r ∷ rows) h = refl
rows_uneven (m ∷ ms) [] h = refl
rows_uneven (m ∷ ms) (r ∷ rows) h = then-false (nat_eq (length (numbers_of r)) (suc (length (map axes_of ms)))) (are_rows (map axes_of ms) (map numbers_of rows)) (rows_uneven ms rows (λ e. h (ap suc e)))

module _ (ms : List (Vec ℕ Global)) (rows : List (Vec Dy Global)) (e : length rows ≡ length ms) (k : ℕ) where
  abbrev from : ℕ → Bool
  from n = are_rows (map axes_of (drop n ms)) (map numbers_of (drop n rows))

  rows-first : (m : Vec ℕ Global) (r : Vec Dy Global) → k < length ms → from k ≡ (nat_eq (length (get_or rows k r).items) (length ms - k) && from (k + 1))
  rows-first m r h =
      let past : suc (length (drop (k + 1) ms)) ≡ length ms - k = ap suc (length-drop (k + 1) ms) ∙ omega (arith, h) in
      ap₂ (λ (ns : List (Vec ℕ Global)) (vs : List (Vec Dy Global)). are_rows (map axes_of ns) (map numbers_of vs)) (drop_more ms k m h) (drop_more rows k r (omega (arith, e, h)))
      ∙ ap₂ (λ (i j : ℕ). nat_eq i j && from (k + 1)) (length-map (get_or rows k r).items dyadic_of) (ap suc (length-map (drop (k + 1) ms) axes_of) ∙ past)

  -- the row at k is as long as there are monomials from there on
  pub rows_next : (m : Vec ℕ Global) (r : Vec Dy Global) → k < length ms → r ≡ get_or rows k r → length r.items ≡ length ms - k → from k ≡ from (k + 1)
  rows_next m r h i l = rows-first m r h ∙ ap (λ (t : Bool). t && from (k + 1)) (alike (length (get_or rows k r).items) (length ms - k) (ap (λ (v : Vec Dy Global). length v.items) (sym i) ∙ l))

  -- or it is not
  pub rows_end : (m : Vec ℕ Global) (r : Vec Dy Global) → k < length ms → r ≡ get_or rows k r → (length r.items ≡ length ms - k → ⊥) → from k ≡ false
  rows_end m r h i f = rows-first m r h ∙ ap (λ (t : Bool). t && from (k + 1)) (unlike (length (get_or rows k r).items) (length ms - k) (λ l. f (ap (λ (v : Vec Dy Global). length v.items) i ∙ l)))

  pub rows_done : length ms ≤ k → from k ≡ true
  rows_done h = ap₂ (λ (ns : List (Vec ℕ Global)) (vs : List (Vec Dy Global)). are_rows (map axes_of ns) (map numbers_of vs)) (drop_all k ms h) (drop_all k rows (omega (arith, e, h)))
