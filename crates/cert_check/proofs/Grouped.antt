-- Groups of atoms, place by place, and marks that are put back.
use Rattle.std.proofs.Common.{◌≡◌, ℕ, zero, suc, ◌+◌, ◌<◌, ◌≤◌, List, [], ◌∷◌, length, drop, get_or, set, Bool, true, false, ◌&&◌, not, IsTrue, nat_lt, refl, ap, ap₂, sym, ◌∙◌, arith, ltb→lt, true≢false, Some, None}
use Rattle.std.proofs.lemmas.List.{drop_more, drop_all}
use Rattle.std.specs.List.{list_all}
use Rattle.std.specs.Bool.{passes}
use Rattle.dyadic.proofs.Equal.{both_true}
use Rattle.poly_graph.specs.Problem.{Problem}
use Rattle.poly_graph.specs.Marks.{Mark, marked_yes, marked_no, unmarked, is_unmarked, mark_at, undecided_in}
use Rattle.cover_model.specs.State.{State, Loosenings, undecided, with_yes, with_no, may}
use Rattle.cover_model.specs.Rules.{two, when, either, either_group, is_ascending, are_undecided, with_all_yes, none_may_fail, one_holds, can_branch, rule}
use Rattle.cert_model.specs.Due.{all_below, ascends}
use Rattle.cert_check.specs.Lists.{marked}
use Rattle.cert_check.proofs.OneMark.{undecided_at, set_twice}

-- ---- groups

pub ascending_same : (js : List ℕ) → ascends js ≡ is_ascending js
ascending_same [] = refl
ascending_same (j ∷ []) = refl
ascending_same (j ∷ k ∷ rest) = ap (λ (t : Bool). nat_lt j k && t) (ascending_same (k ∷ rest))

pub undecided_all : (S : State) (js : List ℕ) → IsTrue (all_below (length S.marks) js) → list_all (λ (j : ℕ). is_unmarked (mark_at S.marks j)) js ≡ are_undecided S js
undecided_all S [] h = refl
undecided_all S (j ∷ js) h = let e = both_true (nat_lt j (length S.marks)) (all_below (length S.marks) js) h in
    ap₂ (λ (x : Bool) (y : Bool). x && y) (sym (undecided_at S.marks j (ltb→lt j (length S.marks) (passes _ e.0)))) (undecided_all S js e.1)

pub undecided_place : (S : State) (js : List ℕ) (k : ℕ) → are_undecided S js ≡ true → k < length js → undecided S (get_or js k 0) ≡ true
undecided_place S [] k e h = absurd (omega (arith, h))
undecided_place S (j ∷ js) zero e h = (both_true (undecided S j) (are_undecided S js) e).0
undecided_place S (j ∷ js) (suc k) e h = undecided_place S js k (both_true (undecided S j) (are_undecided S js) e).1 (omega (arith, h))

abbrev state : State → List Mark → State
state S marks = record { space = S.space; marks = marks }

pub all_yes : (S : State) (js : List ℕ) → with_all_yes S js ≡ state S (marked S.marks js marked_yes)
all_yes S [] = refl
all_yes S (j ∷ js) = all_yes (with_yes S j) js

-- an atom without a mark is there
pub undecided_there : (marks : List Mark) (j : ℕ) → undecided_in marks j ≡ true → j < length marks
undecided_there [] j e = absurd (true≢false (sym e))
undecided_there (m ∷ marks) zero e = omega arith
undecided_there (m ∷ marks) (suc j) e = let l = undecided_there marks j e in omega (arith, l)

-- ---- marks that are put back

no-mark : (m : Mark) → is_unmarked m ≡ true → unmarked ≡ m
no-mark marked_yes e = absurd (true≢false (sym e))
no-mark marked_no e = absurd (true≢false (sym e))
no-mark unmarked e = refl

set-own : (marks : List Mark) (j : ℕ) → undecided_in marks j ≡ true → set marks j unmarked ≡ marks
set-own [] j e = refl
set-own (m ∷ marks) zero e = ap (λ (x : Mark). x ∷ marks) (no-mark m e)
set-own (m ∷ marks) (suc j) e = ap (λ (xs : List Mark). m ∷ xs) (set-own marks j e)

back-one : (marks : List Mark) (j : ℕ) (a : Mark) → undecided_in marks j ≡ true → set (set marks j a) j unmarked ≡ marks
back-one marks j a e = set_twice marks j a unmarked ∙ set-own marks j e

back-two : (marks : List Mark) (j k : ℕ) (a b : Mark) → undecided_in marks j ≡ true → undecided_in marks k ≡ true → set (set (set (set marks j a) k b) k unmarked) j unmarked ≡ marks
back-two [] j k a b e f = refl
back-two (m ∷ marks) zero zero a b e f = ap (λ (x : Mark). x ∷ marks) (no-mark m e)
back-two (m ∷ marks) zero (suc k) a b e f = ap₂ (λ (x : Mark) (xs : List Mark). x ∷ xs) (no-mark m e) (back-one marks k b f)
back-two (m ∷ marks) (suc j) zero a b e f = ap₂ (λ (x : Mark) (xs : List Mark). x ∷ xs) (no-mark m f) (back-one marks j a e)
back-two (m ∷ marks) (suc j) (suc k) a b e f = ap (λ (xs : List Mark). m ∷ xs) (back-two marks j k a b e f)

pub put_back : (marks ns bs cs ds : List Mark) (j k : ℕ) → undecided_in marks j ≡ true → undecided_in marks k ≡ true →
    ns ≡ set marks j marked_no → bs ≡ set ns k marked_no → cs ≡ set bs k unmarked → ds ≡ set cs j unmarked → ds ≡ marks
put_back marks ns bs cs ds j k e f ea eb ec ed =
    ed ∙ ap (λ (ms : List Mark). set ms j unmarked) (ec ∙ ap (λ (ms : List Mark). set ms k unmarked) (eb ∙ ap (λ (ms : List Mark). set ms k marked_no) ea))
    ∙ back-two marks j k marked_no marked_no e f

-- ---- the loops over groups

module _ (p : Problem) (s : Loosenings) (S : State) where
  fail-here : (ks : List ℕ) (k : ℕ) → k < length ks → none_may_fail p s S (drop k ks) ≡ (not (may p s (with_no S (get_or ks k 0))) && none_may_fail p s S (drop (k + 1) ks))
  fail-here ks k h = ap (none_may_fail p s S) (drop_more ks k 0 h)

  pub fail_fails : (ks : List ℕ) (k : ℕ) → k < length ks → true ≡ may p s (with_no S (get_or ks k 0)) → none_may_fail p s S (drop k ks) ≡ false
  fail_fails ks k h e = fail-here ks k h ∙ ap (λ (t : Bool). not t && none_may_fail p s S (drop (k + 1) ks)) (sym e)

  pub fail_next : (ks : List ℕ) (k : ℕ) → k < length ks → false ≡ may p s (with_no S (get_or ks k 0)) → none_may_fail p s S (drop k ks) ≡ none_may_fail p s S (drop (k + 1) ks)
  fail_next ks k h e = fail-here ks k h ∙ ap (λ (t : Bool). not t && none_may_fail p s S (drop (k + 1) ks)) (sym e)

  pub fail_done : (ks : List ℕ) (k : ℕ) → length ks ≤ k → none_may_fail p s S (drop k ks) ≡ true
  fail_done ks k h = ap (none_may_fail p s S) (drop_all k ks h)

  holds-here : (js ks : List ℕ) (k : ℕ) → k < length js → one_holds p s S (drop k js) ks ≡ (none_may_fail p s (with_no S (get_or js k 0)) ks && one_holds p s S (drop (k + 1) js) ks)
  holds-here js ks k h = ap (λ (xs : List ℕ). one_holds p s S xs ks) (drop_more js k 0 h)

  pub holds_fails : (js ks : List ℕ) (k : ℕ) → k < length js → false ≡ none_may_fail p s (with_no S (get_or js k 0)) ks → one_holds p s S (drop k js) ks ≡ false
  holds_fails js ks k h e = holds-here js ks k h ∙ ap (λ (t : Bool). t && one_holds p s S (drop (k + 1) js) ks) (sym e)

  pub holds_next : (js ks : List ℕ) (k : ℕ) → k < length js → true ≡ none_may_fail p s (with_no S (get_or js k 0)) ks → one_holds p s S (drop k js) ks ≡ one_holds p s S (drop (k + 1) js) ks
  holds_next js ks k h e = holds-here js ks k h ∙ ap (λ (t : Bool). t && one_holds p s S (drop (k + 1) js) ks) (sym e)

  pub holds_done : (js ks : List ℕ) (k : ℕ) → length js ≤ k → one_holds p s S (drop k js) ks ≡ true
  holds_done js ks k h = ap (λ (xs : List ℕ). one_holds p s S xs ks) (drop_all k js h)

-- ---- what the groups leave

pub parted_yes : (p : Problem) (s : Loosenings) (S T U : State) (js ks : List ℕ) (ms ns : List Mark) → T ≡ S → U ≡ T → ms ≡ marked T.marks js marked_yes → ns ≡ marked U.marks ks marked_yes →
    true ≡ can_branch p s S (either_group js ks) → Some (two (state T ms) (state U ns)) ≡ rule p s [] S (either js ks)
parted_yes p s S T U js ks ms ns t u m n e =
    let f : state T ms ≡ with_all_yes S js = ap₂ (λ (x : State) (xs : List Mark). state x xs) t (m ∙ ap (λ (x : State). marked x.marks js marked_yes) t) ∙ sym (all_yes S js) in
    let g : state U ns ≡ with_all_yes S ks = ap₂ (λ (x : State) (xs : List Mark). state x xs) (u ∙ t) (n ∙ ap (λ (x : State). marked x.marks ks marked_yes) (u ∙ t)) ∙ sym (all_yes S ks) in
    ap₂ (λ (x : State) (y : State). Some (two x y)) f g ∙ ap (λ (b : Bool). when b (two (with_all_yes S js) (with_all_yes S ks))) e

pub not_parted : (p : Problem) (s : Loosenings) (S : State) (js ks : List ℕ) → false ≡ can_branch p s S (either_group js ks) → None ≡ rule p s [] S (either js ks)
not_parted p s S js ks e = ap (λ (b : Bool). when b (two (with_all_yes S js) (with_all_yes S ks))) e
