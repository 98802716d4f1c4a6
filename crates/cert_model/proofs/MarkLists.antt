-- Marks as two lists of atoms, and back.
use Rattle.std.proofs.Common.{◌≡◌, inl, inr, ℕ, zero, suc, ◌+◌, ◌<◌, ◌≤◌, List, [], ◌∷◌, Bool, true, false, not, ◌||◌, cond, refl, ap, ap₂, sym, ◌∙◌, true≢false, nat_eq, nat_lt, length, arith}
use Rattle.std.proofs.lemmas.Bool.{le-leb}
use Rattle.std.proofs.lemmas.Bool.Decides.{eqb_tells}
use Rattle.dyadic.proofs.Equal.{both_pass}
use Rattle.poly_graph.specs.Marks.{Mark, marked_yes, marked_no, unmarked, is_yes, is_no, member, marks_from, marks_of, numbers_from, yes_of, no_of}
use Rattle.cert_model.specs.Due.{ascends, apart, all_below}

either-way : (P : Bool → Type 0) (t : Bool) → P true → P false → P t
either-way P true a b = a
either-way P false a b = b

same-number : (c : ℕ) → nat_eq c c ≡ true
same-number c = elim (eqb_tells c c) [ inl h ↦ h.0 | inr h ↦ absurd (h.1 refl) ]

pub other_number : (b c : ℕ) → (b ≡ c → ⊥) → nat_eq b c ≡ false
other_number b c h = elim (eqb_tells b c) [ inl e ↦ absurd (h e.1) | inr e ↦ e.0 ]

abbrev test_at : (Mark → Bool) → List Mark → ℕ → Bool
test_at test [] k = false
test_at test (m ∷ marks) zero = test m
test_at test (m ∷ marks) (suc k) = test_at test marks k

module _ (test : Mark → Bool) where
  -- the numbers from j on when the first mark's test says this
  abbrev numbers_by : Bool → ℕ → List Mark → List ℕ
  numbers_by t j marks = cond t (j ∷ numbers_from test (suc j) marks) (numbers_from test (suc j) marks)

  none-before : (marks : List Mark) (j k : ℕ) → k < j → member k (numbers_from test j marks) ≡ false
  none-before [] j k h = refl
  none-before (m ∷ marks) j k h = either-way (λ t. member k (numbers_by t j marks) ≡ false) (test m)
      (ap₂ (λ (x : Bool) (y : Bool). x || y) (other_number j k (λ e. omega (arith, e, h))) (none-before marks (suc j) k (omega (arith, h))))
      (none-before marks (suc j) k (omega (arith, h)))

  member-first : (t : Bool) (j : ℕ) (marks : List Mark) → member j (numbers_by t j marks) ≡ t
  member-first true j marks = ap (λ (x : Bool). x || member j (numbers_from test (suc j) marks)) (same-number j)
  member-first false j marks = none-before marks (suc j) j (omega arith)

  member-later : (t : Bool) (j k : ℕ) (marks : List Mark) → j < k → member k (numbers_by t j marks) ≡ member k (numbers_from test (suc j) marks)
  member-later true j k marks h = ap (λ (x : Bool). x || member k (numbers_from test (suc j) marks)) (other_number j k (λ e. omega (arith, e, h)))
  member-later false j k marks h = refl

  member-at : (marks : List Mark) (j k : ℕ) → member (j + k) (numbers_from test j marks) ≡ test_at test marks k
  member-at [] j k = refl
  member-at (m ∷ marks) j zero = ap (λ (i : ℕ). member i (numbers_from test j (m ∷ marks))) (omega arith) ∙ member-first (test m) j marks
  member-at (m ∷ marks) j (suc k) = member-later (test m) j (j + suc k) marks (omega arith)
      ∙ ap (λ (i : ℕ). member i (numbers_from test (suc j) marks)) (omega arith) ∙ member-at marks (suc j) k

  rises-from : (marks : List Mark) (i j : ℕ) → i < j → ascends (i ∷ numbers_from test j marks) ≡ true
  rises-from [] i j h = refl
  rises-from (m ∷ marks) i j h = either-way (λ t. ascends (i ∷ numbers_by t j marks) ≡ true) (test m)
      (both_pass (nat_lt i j) (ascends (j ∷ numbers_from test (suc j) marks)) (le-leb (suc i) j h) (rises-from marks j (suc j) (omega arith)))
      (rises-from marks i (suc j) (omega (arith, h)))

  pub numbers_ascend : (marks : List Mark) (j : ℕ) → ascends (numbers_from test j marks) ≡ true
  numbers_ascend [] j = refl
  numbers_ascend (m ∷ marks) j = either-way (λ t. ascends (numbers_by t j marks) ≡ true) (test m)
      (rises-from marks j (suc j) (omega arith))
      (numbers_ascend marks (suc j))

  pub numbers_below : (marks : List Mark) (j n : ℕ) → j + length marks ≤ n → all_below n (numbers_from test j marks) ≡ true
  numbers_below [] j n h = refl
  numbers_below (m ∷ marks) j n h = either-way (λ t. all_below n (numbers_by t j marks) ≡ true) (test m)
      (both_pass (nat_lt j n) (all_below n (numbers_from test (suc j) marks)) (le-leb (suc j) n (omega (arith, h))) (numbers_below marks (suc j) n (omega (arith, h))))
      (numbers_below marks (suc j) n (omega (arith, h)))

-- ys and ns are the numbers of the marks, from j on
abbrev Tells : (Mark → Bool) → List ℕ → ℕ → List Mark → Type 0
Tells test xs j marks = (k : ℕ) → member (j + k) xs ≡ test_at test marks k

tells-rest : (test : Mark → Bool) (xs : List ℕ) (j : ℕ) (m : Mark) (marks : List Mark) → Tells test xs j (m ∷ marks) → Tells test xs (suc j) marks
tells-rest test xs j m marks h k = ap (λ (i : ℕ). member i xs) (omega arith) ∙ h (suc k)

tells-first : (test : Mark → Bool) (xs : List ℕ) (j : ℕ) (m : Mark) (marks : List Mark) → Tells test xs j (m ∷ marks) → member j xs ≡ test m
tells-first test xs j m marks h = ap (λ (i : ℕ). member i xs) (omega arith) ∙ h 0

mark-back : (m : Mark) → cond (is_yes m) marked_yes (cond (is_no m) marked_no unmarked) ≡ m
mark-back marked_yes = refl
mark-back marked_no = refl
mark-back unmarked = refl

marks-back : (ys ns : List ℕ) (marks : List Mark) (j : ℕ) → Tells is_yes ys j marks → Tells is_no ns j marks → marks_from j (length marks) ys ns ≡ marks
marks-back ys ns [] j y n = refl
marks-back ys ns (m ∷ marks) j y n = ap₂ (λ (x : Mark) (xs : List Mark). x ∷ xs)
    (ap₂ (λ (a : Bool) (c : Bool). cond a marked_yes (cond c marked_no unmarked)) (tells-first is_yes ys j m marks y) (tells-first is_no ns j m marks n) ∙ mark-back m)
    (marks-back ys ns marks (suc j) (tells-rest is_yes ys j m marks y) (tells-rest is_no ns j m marks n))

from-start : (test : Mark → Bool) (marks : List Mark) → Tells test (numbers_from test 0 marks) 0 marks
from-start test marks k = member-at test marks 0 k

-- the two lists of some marks give them back
pub marks_again : (marks : List Mark) → marks_of (length marks) (yes_of marks) (no_of marks) ≡ marks
marks_again marks = marks-back (yes_of marks) (no_of marks) marks 0 (from-start is_yes marks) (from-start is_no marks)

not-both : (m : Mark) → is_yes m ≡ true → not (is_no m) ≡ true
not-both marked_yes h = refl
not-both marked_no h = absurd (true≢false (sym h))
not-both unmarked h = refl

apart-from : (ns : List ℕ) (marks : List Mark) (j : ℕ) → Tells is_no ns j marks → apart (numbers_from is_yes j marks) ns ≡ true
apart-from ns [] j n = refl
apart-from ns (m ∷ marks) j n = either-way (λ t. is_yes m ≡ t → apart (numbers_by is_yes t j marks) ns ≡ true) (is_yes m)
    (λ e. both_pass (not (member j ns)) (apart (numbers_from is_yes (suc j) marks) ns) (ap not (tells-first is_no ns j m marks n) ∙ not-both m e) (apart-from ns marks (suc j) (tells-rest is_no ns j m marks n)))
    (λ e. apart-from ns marks (suc j) (tells-rest is_no ns j m marks n)) refl

-- they have no number in common
pub lists_apart : (marks : List Mark) → apart (yes_of marks) (no_of marks) ≡ true
lists_apart marks = apart-from (no_of marks) marks 0 (from-start is_no marks)

marks-length : (j n : ℕ) (ys ns : List ℕ) → length (marks_from j n ys ns) ≡ n
marks-length j zero ys ns = refl
marks-length j (suc n) ys ns = ap suc (marks-length (suc j) n ys ns)

pub marks_length : (n : ℕ) (ys ns : List ℕ) → length (marks_of n ys ns) ≡ n
marks_length n ys ns = marks-length 0 n ys ns
