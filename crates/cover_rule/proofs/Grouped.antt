-- Groups of atoms, place by place, and marks that are taken back.
use Rattle.std.proofs.Common.{◌≡◌, ℕ, zero, suc, ◌+◌, ◌-◌, ◌<◌, ◌≤◌, List, [], ◌∷◌, length, drop, get_or, set, Bool, true, false, ◌&&◌, not, IsTrue, nat_lt, refl, ap, ap₂, sym, ◌∙◌, arith, true≢false}
use Rattle.std.proofs.lemmas.List.{drop_more, drop_all}
use Rattle.std.proofs.lemmas.Bool.{lt-ltb, le-ltb}
use Rattle.dyadic.proofs.Equal.{both_true}
use Rattle.poly_graph.specs.Problem.{Problem}
use Rattle.poly_graph.specs.Marks.{Mark, marked_yes, marked_no, unmarked, is_unmarked, undecided_in}
use Rattle.cover_model.specs.State.{State, Loosenings, margin_of, undecided, with_no, with_mark, state_of, may, misses}
use Rattle.cover_model.specs.Honest.{none_misses}
use Rattle.cover_model.specs.Rules.{is_ascending, are_undecided, none_may_fail, one_holds}
use Rattle.cover_rule.proofs.RunSteps.{mark_taken_back}

-- ---- each below the next

-- the list from place k - 1 on
from-before : (js : List ℕ) (k : ℕ) → 1 ≤ k → k < length js → drop (k - 1) js ≡ get_or js (k - 1) 0 ∷ get_or js k 0 ∷ drop (k + 1) js
from-before js k o h =
    let place : k - 1 + 1 ≡ k = omega (arith, o) in
    drop_more js (k - 1) 0 (omega (arith, o, h)) ∙ ap (λ (i : ℕ). get_or js (k - 1) 0 ∷ drop i js) place ∙ ap (λ (xs : List ℕ). get_or js (k - 1) 0 ∷ xs) (drop_more js k 0 h)

pub ascends_fails : (js : List ℕ) (k : ℕ) → 1 ≤ k → k < length js → get_or js k 0 ≤ get_or js (k - 1) 0 → is_ascending (drop (k - 1) js) ≡ false
ascends_fails js k o h l = ap is_ascending (from-before js k o h)
    ∙ ap (λ (t : Bool). t && is_ascending (get_or js k 0 ∷ drop (k + 1) js)) (le-ltb (get_or js (k - 1) 0) (get_or js k 0) l)

pub ascends_next : (js : List ℕ) (k : ℕ) → 1 ≤ k → k < length js → get_or js (k - 1) 0 < get_or js k 0 → is_ascending (drop (k - 1) js) ≡ is_ascending (drop (k + 1 - 1) js)
ascends_next js k o h l =
    let place : k ≡ k + 1 - 1 = omega arith in
    ap is_ascending (from-before js k o h)
    ∙ ap (λ (t : Bool). t && is_ascending (get_or js k 0 ∷ drop (k + 1) js)) (lt-ltb (get_or js (k - 1) 0) (get_or js k 0) l)
    ∙ ap is_ascending (sym (drop_more js k 0 h)) ∙ ap (λ (i : ℕ). is_ascending (drop i js)) place

pub ascends_done : (js : List ℕ) (k : ℕ) → 1 ≤ k → length js ≤ k → is_ascending (drop (k - 1) js) ≡ true
ascends_done js k o h = elim-last js (k - 1) (omega (arith, o, h)) where
  elim-last : (xs : List ℕ) (i : ℕ) → length xs ≤ suc i → is_ascending (drop i xs) ≡ true
  elim-last [] zero l = refl
  elim-last [] (suc i) l = refl
  elim-last (x ∷ []) zero l = refl
  elim-last (x ∷ y ∷ xs) zero l = absurd (omega (arith, l))
  elim-last (x ∷ xs) (suc i) l = elim-last xs i (omega (arith, l))

-- ---- atoms without marks

undecided-here : (S : State) (js : List ℕ) (k : ℕ) → k < length js → are_undecided S (drop k js) ≡ (undecided S (get_or js k 0) && are_undecided S (drop (k + 1) js))
undecided-here S js k h = ap (are_undecided S) (drop_more js k 0 h)

pub undecided_fails : (S : State) (js : List ℕ) (k : ℕ) → k < length js → false ≡ undecided S (get_or js k 0) → are_undecided S (drop k js) ≡ false
undecided_fails S js k h e = undecided-here S js k h ∙ ap (λ (t : Bool). t && are_undecided S (drop (k + 1) js)) (sym e)

pub undecided_next : (S : State) (js : List ℕ) (k : ℕ) → k < length js → true ≡ undecided S (get_or js k 0) → are_undecided S (drop k js) ≡ are_undecided S (drop (k + 1) js)
undecided_next S js k h e = undecided-here S js k h ∙ ap (λ (t : Bool). t && are_undecided S (drop (k + 1) js)) (sym e)

pub undecided_done : (S : State) (js : List ℕ) (k : ℕ) → length js ≤ k → are_undecided S (drop k js) ≡ true
undecided_done S js k h = ap (are_undecided S) (drop_all k js h)

-- an atom that there is not
pub undecided_past : (marks : List Mark) (j : ℕ) → length marks ≤ j → undecided_in marks j ≡ false
undecided_past [] j h = refl
undecided_past (m ∷ marks) zero h = absurd (omega (arith, h))
undecided_past (m ∷ marks) (suc j) h = undecided_past marks j (omega (arith, h))

pub undecided_place : (S : State) (js : List ℕ) (k : ℕ) → are_undecided S js ≡ true → k < length js → undecided S (get_or js k 0) ≡ true
undecided_place S [] k e h = absurd (omega (arith, h))
undecided_place S (j ∷ js) zero e h = (both_true (undecided S j) (are_undecided S js) e).0
undecided_place S (j ∷ js) (suc k) e h = undecided_place S js k (both_true (undecided S j) (are_undecided S js) e).1 (omega (arith, h))

-- ---- marks that are taken back

no-mark : (m : Mark) → is_unmarked m ≡ true → unmarked ≡ m
no-mark marked_yes e = absurd (true≢false (sym e))
no-mark marked_no e = absurd (true≢false (sym e))
no-mark unmarked e = refl

back-two : (marks : List Mark) (j k : ℕ) (a b : Mark) → undecided_in marks j ≡ true → undecided_in marks k ≡ true → set (set (set (set marks j a) k b) k unmarked) j unmarked ≡ marks
back-two [] j k a b e f = refl
back-two (m ∷ marks) zero zero a b e f = ap (λ (x : Mark). x ∷ marks) (no-mark m e)
back-two (m ∷ marks) zero (suc k) a b e f = ap₂ (λ (x : Mark) (xs : List Mark). x ∷ xs) (no-mark m e) (mark_taken_back marks k b f)
back-two (m ∷ marks) (suc j) zero a b e f = ap₂ (λ (x : Mark) (xs : List Mark). x ∷ xs) (no-mark m f) (mark_taken_back marks j a e)
back-two (m ∷ marks) (suc j) (suc k) a b e f = ap (λ (xs : List Mark). m ∷ xs) (back-two marks j k a b e f)

pub both_taken_back : (S A B C D : State) (j k : ℕ) → undecided S j ≡ true → undecided S k ≡ true → A ≡ with_mark S j marked_no → B ≡ with_mark A k marked_no → C ≡ with_mark B k unmarked → D ≡ with_mark C j unmarked → D ≡ S
both_taken_back S A B C D j k e f ea eb ec ed =
    ed ∙ ap (λ (T : State). with_mark T j unmarked) (ec ∙ ap (λ (T : State). with_mark T k unmarked) (eb ∙ ap (λ (T : State). with_mark T k marked_no) ea))
    ∙ ap (λ (ms : List Mark). state_of S.space ms) (back-two S.marks j k marked_no marked_no e f)

-- ---- the loops over groups

module _ (p : Problem) (s : Loosenings) (S : State) where
  fail-here : (ks : List ℕ) (k : ℕ) → k < length ks → none_may_fail p s S (drop k ks) ≡ (not (may p s (with_no S (get_or ks k 0))) && none_may_fail p s S (drop (k + 1) ks))
  fail-here ks k h = ap (none_may_fail p s S) (drop_more ks k 0 h)

  pub fail_fails : (ks : List ℕ) (k : ℕ) → k < length ks → true ≡ may p s (with_no S (get_or ks k 0)) → none_may_fail p s S (drop k ks) ≡ false
  fail_fails ks k h e = fail-here ks k h ∙ ap (λ (t : Bool). not t && none_may_fail p s S (drop (k + 1) ks)) (sym e)

  pub fail_next : (ks : List ℕ) (k : ℕ) → k < length ks → false ≡ may p s (with_no S (get_or ks k 0)) → none_may_fail p s S (drop k ks) ≡ none_may_fail p s S (drop (k + 1) ks)
  fail_next ks k h e = fail-here ks k h ∙ ap (λ (t : Bool). not t && none_may_fail p s S (drop (k + 1) ks)) (sym e)

  pub fail_done : (ks : List ℕ) (k : ℕ) → length ks ≤ k → none_may_fail p s S (drop k ks) ≡ true
  fail_done ks k h = ap (none_may_fail p s S) (drop_all k ks h)

  holds-here : (js ks : List ℕ) (k : ℕ) → k < length js → one_holds p s S (drop k js) ks ≡ (none_may_fail p s (with_no S (get_or js k 0)) ks && one_holds p s S (drop (k + 1) js) ks)
  holds-here js ks k h = ap (λ (xs : List ℕ). one_holds p s S xs ks) (drop_more js k 0 h)

  pub holds_fails : (js ks : List ℕ) (k : ℕ) → k < length js → false ≡ none_may_fail p s (with_no S (get_or js k 0)) ks → one_holds p s S (drop k js) ks ≡ false
  holds_fails js ks k h e = holds-here js ks k h ∙ ap (λ (t : Bool). t && one_holds p s S (drop (k + 1) js) ks) (sym e)

  pub holds_next : (js ks : List ℕ) (k : ℕ) → k < length js → true ≡ none_may_fail p s (with_no S (get_or js k 0)) ks → one_holds p s S (drop k js) ks ≡ one_holds p s S (drop (k + 1) js) ks
  holds_next js ks k h e = holds-here js ks k h ∙ ap (λ (t : Bool). t && one_holds p s S (drop (k + 1) js) ks) (sym e)

  pub holds_done : (js ks : List ℕ) (k : ℕ) → length js ≤ k → one_holds p s S (drop k js) ks ≡ true
  holds_done js ks k h = ap (λ (xs : List ℕ). one_holds p s S xs ks) (drop_all k js h)

  misses-here : (js : List ℕ) (k : ℕ) → k < length js → none_misses p s S (drop k js) ≡ (not (misses p (margin_of s) S.space (get_or js k 0)) && none_misses p s S (drop (k + 1) js))
  misses-here js k h = ap (none_misses p s S) (drop_more js k 0 h)

  pub misses_fails : (js : List ℕ) (k : ℕ) → k < length js → false ≡ not (misses p (margin_of s) S.space (get_or js k 0)) → none_misses p s S (drop k js) ≡ false
  misses_fails js k h e = misses-here js k h ∙ ap (λ (t : Bool). t && none_misses p s S (drop (k + 1) js)) (sym e)

  pub misses_next : (js : List ℕ) (k : ℕ) → k < length js → true ≡ not (misses p (margin_of s) S.space (get_or js k 0)) → none_misses p s S (drop k js) ≡ none_misses p s S (drop (k + 1) js)
  misses_next js k h e = misses-here js k h ∙ ap (λ (t : Bool). t && none_misses p s S (drop (k + 1) js)) (sym e)

  pub misses_done : (js : List ℕ) (k : ℕ) → length js ≤ k → none_misses p s S (drop k js) ≡ true
  misses_done js k h = ap (none_misses p s S) (drop_all k js h)
