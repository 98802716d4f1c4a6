-- Marks are those of the two lists that are read off them.
use Rattle.std.proofs.Common.{◌≡◌, ℕ, suc, zero, ◌<◌, ◌≤◌, List, [], ◌∷◌, length, Bool, true, false, cond, ◌||◌, refl, ap, ap₂, ◌∙◌, arith, nat_eq, eqb→eq}
use Rattle.std.proofs.lemmas.Bool.{eq-eqb}
use Rattle.std.specs.Bool.{passes}
use Rattle.poly_graph.specs.Marks.{Mark, marked_yes, marked_no, unmarked, is_yes, is_no, member, marks_from, marks_of, numbers_from, yes_of, no_of}

-- numbers that differ are not equal
after : (j k : ℕ) → j < k → (b : Bool) → nat_eq j k ≡ b → nat_eq j k ≡ false
after j k h true e = absurd (let d = eqb→eq j k (passes _ e) in omega arith)
after j k h false e = e

before : (j k : ℕ) → k < j → (b : Bool) → nat_eq j k ≡ b → nat_eq j k ≡ false
before j k h true e = absurd (let d = eqb→eq j k (passes _ e) in omega arith)
before j k h false e = e

module _ (test : Mark → Bool) where
  abbrev rest : ℕ → List Mark → List ℕ
  rest j ms = numbers_from test (suc j) ms

  abbrev numbers : ℕ → Bool → List Mark → List ℕ
  numbers j b ms = cond b (j ∷ rest j ms) (rest j ms)

  by-first : (j k : ℕ) (b : Bool) (xs : List ℕ) → k < j → member k xs ≡ false → member k (cond b (j ∷ xs) xs) ≡ false
  by-first j k true xs h e = ap₂ (λ x y. x || y) (before j k h (nat_eq j k) refl) e
  by-first j k false xs h e = e

  none-before : (j k : ℕ) (ms : List Mark) → k < j → member k (numbers_from test j ms) ≡ false
  none-before j k [] h = refl
  none-before j k (m ∷ ms) h = by-first j k (test m) (rest j ms) h (none-before (suc j) k ms (omega arith))

  first-is : (j : ℕ) (b : Bool) (ms : List Mark) → member j (numbers j b ms) ≡ b
  first-is j true ms = ap (λ x. x || member j (rest j ms)) (eq-eqb j j refl)
  first-is j false ms = none-before (suc j) j ms (omega arith)

  later-same : (j k : ℕ) (b : Bool) (ms : List Mark) → j < k → member k (numbers j b ms) ≡ member k (rest j ms)
  later-same j k true ms h = ap (λ x. x || member k (rest j ms)) (after j k h (nat_eq j k) refl)
  later-same j k false ms h = refl

marks-same : (k n : ℕ) (ys ns ys' ns' : List ℕ) → ((i : ℕ) → k ≤ i → member i ys ≡ member i ys') → ((i : ℕ) → k ≤ i → member i ns ≡ member i ns') → marks_from k n ys ns ≡ marks_from k n ys' ns'
marks-same k zero ys ns ys' ns' f g = refl
marks-same k (suc n) ys ns ys' ns' f g = ap₂ (λ (m : Mark) (ms : List Mark). m ∷ ms)
    (ap₂ (λ x y. cond x marked_yes (cond y marked_no unmarked)) (f k (omega arith)) (g k (omega arith)))
    (marks-same (suc k) n ys ns ys' ns' (λ i h. f i (omega arith)) (λ i h. g i (omega arith)))

mark-back : (m : Mark) → cond (is_yes m) marked_yes (cond (is_no m) marked_no unmarked) ≡ m
mark-back marked_yes = refl
mark-back marked_no = refl
mark-back unmarked = refl

lists-back : (j : ℕ) (ms : List Mark) → marks_from j (length ms) (numbers_from is_yes j ms) (numbers_from is_no j ms) ≡ ms
lists-back j [] = refl
lists-back j (m ∷ ms) = ap₂ (λ (n : Mark) (ns : List Mark). n ∷ ns)
    (ap₂ (λ x y. cond x marked_yes (cond y marked_no unmarked)) (first-is is_yes j (is_yes m) ms) (first-is is_no j (is_no m) ms) ∙ mark-back m)
    (marks-same (suc j) (length ms) (numbers is_yes j (is_yes m) ms) (numbers is_no j (is_no m) ms) (rest is_yes j ms) (rest is_no j ms)
    (λ i h. later-same is_yes j i (is_yes m) ms (omega arith)) (λ i h. later-same is_no j i (is_no m) ms (omega arith)) ∙ lists-back (suc j) ms)

-- the marks of the two lists that are read off marks are those marks
pub marks_are : (ms : List Mark) → marks_of (length ms) (yes_of ms) (no_of ms) ≡ ms
marks_are ms = lists-back 0 ms
