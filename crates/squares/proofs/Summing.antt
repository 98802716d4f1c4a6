-- Sums onto what is there, one after the other, and their steps, which only grow.
use Rattle.std.proofs.Common.{◌≡◌, ℕ, zero, suc, ◌+◌, ◌<◌, ◌≤◌, inl, inr, List, [], ◌∷◌, length, drop, get_or, Bool, true, false, ◌&&◌, Some, None, refl, ap, sym, ◌∙◌, subst, arith}
use Rattle.std.proofs.lemmas.List.{drop_more}
use Rattle.cover_line.specs.Views.{multipliers_of}
use Rattle.dyadic.specs.Rounding.{Dyadic}
use Rattle.dyadic.specs.Views.{dyadic_of}
use Rattle.dyadic.specs.declared.dy.Dy.{Dy}
use Rattle.interval_model.specs.Space.{Space}
use Rattle.poly_graph.specs.Problem.{Problem, atom_at, term_of}
use Rattle.square_model.specs.Block.{Block, block_polynomial, is_block}
use Rattle.square_model.specs.Polynomial as model
use Rattle.square_model.specs.Polynomial.{only, constant_polynomial, is_short, polynomial_negated, polynomial_of, polynomial_sum}
use Rattle.square_model.specs.Positive.{less_blocks, combined_polynomial}
use Rattle.square_model.specs.Steps.{Counted, counted, counted_sum, counted_product}
use Rattle.squares.specs.Blocks.{ComesTo}
use Rattle.squares.specs.Nodes.{terms_at}
use Rattle.squares.specs.Sums.{IsAdded, with_multiple, combined_terms, is_fit, less_block, IsShortTaken, IsTaken}
use Rattle.squares.specs.Views.{terms_of}
use Rattle.squares.specs.declared.budget.Budget.{Budget}
use Rattle.squares.specs.declared.polynomial.Polynomial.{Polynomial}

-- ---- onto what is there

steps-onto : (a more : Counted) (s : model.Polynomial) → s ≡ a.polynomial → a.steps + (counted_sum (counted s) more).steps ≡ (counted_sum a more).steps
steps-onto a more s e = let h : length s ≡ length a.polynomial = ap (λ (p : model.Polynomial). length p) e in omega (arith, h)

pub added_next : (a more : Counted) (s : model.Polynomial) (old new : Budget) (p : Polynomial) (all : ℕ) → s ≡ a.polynomial → old.left + a.steps ≡ all → IsAdded (counted_sum (counted s) more) old new p true →
    (terms_of p ≡ (counted_sum a more).polynomial) × (new.left + (counted_sum a more).steps ≡ all)
added_next a more s old new p all e h k = let g = steps-onto a more s e in let l = k.1 in
    (k.0 ∙ ap (λ (q : model.Polynomial). polynomial_sum q more.polynomial) e, omega (arith, g, h, l))

pub added_none : (a more : Counted) (s : model.Polynomial) (old new : Budget) (p : Polynomial) (all : ℕ) → s ≡ a.polynomial → old.left + a.steps ≡ all → IsAdded (counted_sum (counted s) more) old new p false → all < (counted_sum a more).steps
added_none a more s old new p all e h k = let g = steps-onto a more s e in omega (arith, g, h, k)

-- ---- a multiple of a term

multiple-is : (f t : model.Polynomial) (l : Dyadic) → f ≡ constant_polynomial (only l) → counted_product (counted f) (counted t) ≡ counted_product (counted (constant_polynomial (only l))) (counted t)
multiple-is f t l e = ap (λ (g : model.Polynomial). counted_product (counted g) (counted t)) e

none-by : (q : model.Polynomial) (m : Counted) (o : ℕ) → o < m.steps → o < (counted_sum (counted q) m).steps
none-by q m o h = omega (arith, h)

pub multiple_none : (q f t : model.Polynomial) (l : Dyadic) (old new : Budget) → f ≡ constant_polynomial (only l) → ComesTo (counted_product (counted f) (counted t)) old new None → old.left < (with_multiple (counted q) l t).steps
multiple_none q f t l old new e h = none-by q (counted_product (counted (constant_polynomial (only l))) (counted t)) old.left (subst (λ (m : Counted). old.left < m.steps) (multiple-is f t l e) h)

-- a sum with what was made of some steps
then-added : (q : model.Polynomial) (m : Counted) (n : Polynomial) (old mid new : Budget) (p : Polynomial) (r : Bool) → ComesTo m old mid (Some n) → IsAdded (counted_sum (counted q) (counted (terms_of n))) mid new p r →
    IsAdded (counted_sum (counted q) m) old new p r
then-added q m n old mid new p true h k = let e : length (terms_of n) ≡ length m.polynomial = ap (λ (x : model.Polynomial). length x) h.0 in let g = h.1 in let l = k.1 in
    (k.0 ∙ ap (λ (x : model.Polynomial). polynomial_sum q x) h.0, omega (arith, e, g, l))
then-added q m n old mid new p false h k = let e : length (terms_of n) ≡ length m.polynomial = ap (λ (x : model.Polynomial). length x) h.0 in let g = h.1 in omega (arith, e, g, k)

pub multiple_added : (q f t : model.Polynomial) (l : Dyadic) (n : Polynomial) (old mid new : Budget) (p : Polynomial) (r : Bool) → f ≡ constant_polynomial (only l) →
    ComesTo (counted_product (counted f) (counted t)) old mid (Some n) → IsAdded (counted_sum (counted q) (counted (terms_of n))) mid new p r → IsAdded (with_multiple (counted q) l t) old new p r
multiple_added q f t l n old mid new p r e h k =
    then-added q (counted_product (counted (constant_polynomial (only l))) (counted t)) n old mid new p r (subst (λ (m : Counted). ComesTo m old mid (Some n)) (multiple-is f t l e) h) k

-- ---- pairs

pub combined_none : (p : Problem) (ts : List model.Polynomial) (xs : List (ℕ × Dy)) → length xs ≡ 0 → combined_terms p ts (multipliers_of xs) ≡ counted []
combined_none p ts [] h = refl
combined_none p ts (x ∷ xs) h = absurd (omega (arith, h))

-- with the pair before them
pub combined_more : (p : Problem) (ts : List model.Polynomial) (xs : List (ℕ × Dy)) (k : ℕ) (d : ℕ × Dy) → k < length xs →
    combined_terms p ts (multipliers_of (drop k xs)) ≡ with_multiple (combined_terms p ts (multipliers_of (drop (k + 1) xs))) (dyadic_of (get_or xs k d).1) (terms_at ts (atom_at p (get_or xs k d).0).0)
combined_more p ts xs k d h = ap (λ (ys : List (ℕ × Dy)). combined_terms p ts (multipliers_of ys)) (drop_more xs k d h)

pub combined_grow : (p : Problem) (ts : List model.Polynomial) (xs : List (ℕ × Dy)) (k : ℕ) → (combined_terms p ts (multipliers_of (drop k xs))).steps ≤ (combined_terms p ts (multipliers_of xs)).steps
combined_grow p ts [] zero = omega arith
combined_grow p ts [] (suc k) = omega arith
combined_grow p ts (x ∷ xs) zero = omega arith
combined_grow p ts (x ∷ xs) (suc k) = let h = combined_grow p ts xs k in omega (arith, h)

module _ (p : Problem) (ts : List model.Polynomial) (xs : List (ℕ × Dy)) (k n : ℕ) (x : ℕ × Dy) (t s : model.Polynomial) (old new : Budget) (r : Polynomial) (all : ℕ)
    (inside : k < length xs) (is : x ≡ get_or xs k x) (next : k + 1 ≡ n) (term : t ≡ terms_at ts (atom_at p x.0).0)
    (sum : s ≡ (combined_terms p ts (multipliers_of (drop n xs))).polynomial) (steps : old.left + (combined_terms p ts (multipliers_of (drop n xs))).steps ≡ all) where
  abbrev so-far : Counted
  so-far = combined_terms p ts (multipliers_of (drop n xs))

  abbrev multiple : Counted
  multiple = counted_product (counted (constant_polynomial (only (dyadic_of x.1)))) (counted t)

  here : counted_sum so-far multiple ≡ combined_terms p ts (multipliers_of (drop k xs))
  here =
      ap (λ (q : model.Polynomial). with_multiple so-far (dyadic_of x.1) q) term
      ∙ ap (λ (m : ℕ). with_multiple (combined_terms p ts (multipliers_of (drop m xs))) (dyadic_of x.1) (terms_at ts (atom_at p x.0).0)) (sym next)
      ∙ ap (λ (y : ℕ × Dy). with_multiple (combined_terms p ts (multipliers_of (drop (k + 1) xs))) (dyadic_of y.1) (terms_at ts (atom_at p y.0).0)) is
      ∙ sym (combined_more p ts xs k x inside)

  -- one pair more
  pub combined_next : IsAdded (with_multiple (counted s) (dyadic_of x.1) t) old new r true →
      (terms_of r ≡ (combined_terms p ts (multipliers_of (drop k xs))).polynomial) × (new.left + (combined_terms p ts (multipliers_of (drop k xs))).steps ≡ all)
  combined_next h = subst (λ (a : Counted). (terms_of r ≡ a.polynomial) × (new.left + a.steps ≡ all)) here (added_next so-far multiple s old new r all sum steps h)

  -- or too few steps are left
  pub combined_stops : IsAdded (with_multiple (counted s) (dyadic_of x.1) t) old new r false → all < (combined_terms p ts (multipliers_of xs)).steps
  combined_stops h =
      let g = combined_grow p ts xs k in let l = subst (λ (a : Counted). all < a.steps) here (added_none so-far multiple s old new r all sum steps h) in
      omega (arith, g, l)

-- where each root has the polynomial of its term
pub combined_is : (p : Problem) (centre : Space) (ts : List model.Polynomial) (xs : List (ℕ × Dy)) →
    ((k : ℕ) (d : ℕ × Dy) → k < length xs → terms_at ts (atom_at p (get_or xs k d).0).0 ≡ polynomial_of centre (term_of p (get_or xs k d).0)) →
    combined_terms p ts (multipliers_of xs) ≡ combined_polynomial p centre (multipliers_of xs)
combined_is p centre ts [] f = refl
combined_is p centre ts (x ∷ xs) f =
    ap (λ (a : Counted). with_multiple a (dyadic_of x.1) (terms_at ts (atom_at p x.0).0)) (combined_is p centre ts xs (λ k d h. f (suc k) d (omega (arith, h))))
    ∙ ap (λ (t : model.Polynomial). with_multiple (combined_polynomial p centre (multipliers_of xs)) (dyadic_of x.1) t) (f 0 x (omega arith))

-- ---- a block

fit-is : (s t : Bool) (u : Bool) → s ≡ true → t ≡ u → (s && t) ≡ u
fit-is true t u h e = e
fit-is false t u h e = cc

pub block_unfit : (space centre : Space) (b : Block) → is_block space centre b ≡ false → is_fit space centre b ≡ false
block_unfit space centre b h = ap (λ (t : Bool). t && is_short (block_polynomial space centre b).polynomial) h

pub block_none : (space centre : Space) (b : Block) (a : model.Polynomial) (old new : Budget) → ComesTo (block_polynomial space centre b) old new None → old.left < (less_block space centre b (counted a)).steps
block_none space centre b a old new h = omega (arith, h)

pub block_taken : (space centre : Space) (b : Block) (a : model.Polynomial) (n : Polynomial) (old mid new : Budget) (p : Polynomial) (r : Bool) → is_block space centre b ≡ true →
    ComesTo (block_polynomial space centre b) old mid (Some n) → IsShortTaken (terms_of n) a mid new p r → IsTaken space centre b a old new p r
block_taken space centre b a n old mid new p true t h k = let q = block_polynomial space centre b in
    let e : length (polynomial_negated (terms_of n)) ≡ length (polynomial_negated q.polynomial) = ap (λ (x : model.Polynomial). length (polynomial_negated x)) h.0 in let g = h.1 in let l = k.1.1 in
    (fit-is (is_block space centre b) (is_short q.polynomial) true t (sym (ap is_short h.0) ∙ k.0), (k.1.0 ∙ ap (λ (x : model.Polynomial). polynomial_sum a (polynomial_negated x)) h.0, omega (arith, e, g, l)))
block_taken space centre b a n old mid new p false t h (inl k) = let q = block_polynomial space centre b in
    inl (fit-is (is_block space centre b) (is_short q.polynomial) false t (sym (ap is_short h.0) ∙ k))
block_taken space centre b a n old mid new p false t h (inr k) = let q = block_polynomial space centre b in
    let e : length (polynomial_negated (terms_of n)) ≡ length (polynomial_negated q.polynomial) = ap (λ (x : model.Polynomial). length (polynomial_negated x)) h.0 in
    let g = h.1 in inr (omega (arith, e, g, k))

-- ---- blocks

pub blocks_grow : (space centre : Space) (bs : List Block) (a : Counted) → a.steps ≤ (less_blocks space centre bs a).steps
blocks_grow space centre [] a = omega arith
blocks_grow space centre (b ∷ bs) a = let h = blocks_grow space centre bs (less_block space centre b a) in omega (arith, h)
