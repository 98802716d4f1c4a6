-- Tests of a list, place by place.
use Rattle.std.proofs.Common.{◌≡◌, ℕ, zero, suc, ◌+◌, ◌-◌, ◌<◌, ◌≤◌, List, [], ◌∷◌, length, drop, get_or, Bool, true, false, ◌&&◌, IsTrue, nat_lt, refl, ap, sym, ◌∙◌, arith, ltb→lt}
use Rattle.std.proofs.lemmas.List.{drop_more, drop_all}
use Rattle.std.proofs.lemmas.Bool.{lt-ltb, le-ltb}
use Rattle.std.specs.List.{list_all}
use Rattle.std.specs.Bool.{passes}
use Rattle.dyadic.proofs.Equal.{both_true}
use Rattle.cert_model.specs.Due.{all_below, ascends}

-- ---- each below a number

below-here : (n : ℕ) (js : List ℕ) (k : ℕ) → k < length js → all_below n (drop k js) ≡ (nat_lt (get_or js k 0) n && all_below n (drop (k + 1) js))
below-here n js k h = ap (all_below n) (drop_more js k 0 h)

pub below_fails : (n : ℕ) (js : List ℕ) (k : ℕ) → k < length js → n ≤ get_or js k 0 → all_below n (drop k js) ≡ false
below_fails n js k h l = below-here n js k h ∙ ap (λ (t : Bool). t && all_below n (drop (k + 1) js)) (le-ltb (get_or js k 0) n l)

pub below_next : (n : ℕ) (js : List ℕ) (k : ℕ) → k < length js → get_or js k 0 < n → all_below n (drop k js) ≡ all_below n (drop (k + 1) js)
below_next n js k h l = below-here n js k h ∙ ap (λ (t : Bool). t && all_below n (drop (k + 1) js)) (lt-ltb (get_or js k 0) n l)

pub below_done : (n : ℕ) (js : List ℕ) (k : ℕ) → length js ≤ k → all_below n (drop k js) ≡ true
below_done n js k h = ap (all_below n) (drop_all k js h)

pub below_at : (n : ℕ) (js : List ℕ) (k : ℕ) → IsTrue (all_below n js) → k < length js → get_or js k 0 < n
below_at n [] k e h = absurd (omega (arith, h))
below_at n (j ∷ js) zero e h = ltb→lt j n (passes _ (both_true (nat_lt j n) (all_below n js) e).0)
below_at n (j ∷ js) (suc k) e h = below_at n js k (both_true (nat_lt j n) (all_below n js) e).1 (omega (arith, h))

-- ---- each below the next

-- the list from place k - 1 on
from-before : (js : List ℕ) (k : ℕ) → 1 ≤ k → k < length js → drop (k - 1) js ≡ get_or js (k - 1) 0 ∷ get_or js k 0 ∷ drop (k + 1) js
from-before js k o h =
    let place : k - 1 + 1 ≡ k = omega (arith, o) in
    drop_more js (k - 1) 0 (omega (arith, o, h)) ∙ ap (λ (i : ℕ). get_or js (k - 1) 0 ∷ drop i js) place ∙ ap (λ (xs : List ℕ). get_or js (k - 1) 0 ∷ xs) (drop_more js k 0 h)

pub ascends_fails : (js : List ℕ) (k : ℕ) → 1 ≤ k → k < length js → get_or js k 0 ≤ get_or js (k - 1) 0 → ascends (drop (k - 1) js) ≡ false
ascends_fails js k o h l = ap ascends (from-before js k o h)
    ∙ ap (λ (t : Bool). t && ascends (get_or js k 0 ∷ drop (k + 1) js)) (le-ltb (get_or js (k - 1) 0) (get_or js k 0) l)

pub ascends_next : (js : List ℕ) (k : ℕ) → 1 ≤ k → k < length js → get_or js (k - 1) 0 < get_or js k 0 → ascends (drop (k - 1) js) ≡ ascends (drop (k + 1 - 1) js)
ascends_next js k o h l =
    let place : k ≡ k + 1 - 1 = omega arith in
    ap ascends (from-before js k o h)
    ∙ ap (λ (t : Bool). t && ascends (get_or js k 0 ∷ drop (k + 1) js)) (lt-ltb (get_or js (k - 1) 0) (get_or js k 0) l)
    ∙ ap ascends (sym (drop_more js k 0 h)) ∙ ap (λ (i : ℕ). ascends (drop i js)) place

pub ascends_done : (js : List ℕ) (k : ℕ) → 1 ≤ k → length js ≤ k → ascends (drop (k - 1) js) ≡ true
ascends_done js k o h = elim-last js (k - 1) (omega (arith, o, h)) where
  elim-last : (xs : List ℕ) (i : ℕ) → length xs ≤ suc i → ascends (drop i xs) ≡ true
  elim-last [] zero l = refl
  elim-last [] (suc i) l = refl
  elim-last (x ∷ []) zero l = refl
  elim-last (x ∷ y ∷ xs) zero l = absurd (omega (arith, l))
  elim-last (x ∷ xs) (suc i) l = elim-last xs i (omega (arith, l))

-- ---- each passes a test

pub all_fails : (f : ℕ → Bool) (js : List ℕ) (k : ℕ) → k < length js → f (get_or js k 0) ≡ false → list_all f (drop k js) ≡ false
all_fails f js k h e = ap (list_all f) (drop_more js k 0 h) ∙ ap (λ (t : Bool). t && list_all f (drop (k + 1) js)) e

pub all_next : (f : ℕ → Bool) (js : List ℕ) (k : ℕ) → k < length js → f (get_or js k 0) ≡ true → list_all f (drop k js) ≡ list_all f (drop (k + 1) js)
all_next f js k h e = ap (list_all f) (drop_more js k 0 h) ∙ ap (λ (t : Bool). t && list_all f (drop (k + 1) js)) e

pub all_done : (f : ℕ → Bool) (js : List ℕ) (k : ℕ) → length js ≤ k → list_all f (drop k js) ≡ true
all_done f js k h = ap (list_all f) (drop_all k js h)
