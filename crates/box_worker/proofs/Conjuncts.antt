-- Conjuncts, and what marking them comes to.
use Rattle.std.proofs.Common.{◌≡◌, ◌⊎◌, inl, inr, ℕ, zero, suc, ◌+◌, ◌<◌, List, [], ◌∷◌, ◌++◌, length, set, Bool, true, false, not, ◌&&◌, ◌||◌, IsTrue, Option, Some, None, refl, sym, ap, ◌∙◌, subst, arith, true≢false}
use Rattle.std.specs.Prelude.{IsSome, is_none}
use Rattle.dyadic.specs.Point.{Sort}
use Rattle.dyadic.proofs.Equal.{both_true, both_pass}
use Rattle.poly_graph.specs.Form.{Form, Forms, yes_form, no_form, atom_is, bool_is, all_form, any_form, no_forms, more_forms, form_truth, all_truth}
use Rattle.poly_graph.specs.Problem.{Problem, IsProblem, IsForm, AreForms, sorts_of_problem}
use Rattle.poly_graph.specs.Marks.{Mark, marked_yes, marked_no, unmarked, is_yes, is_no, is_unmarked, mark_at, undecided_in}
use Rattle.cover_model.specs.State.{State, Loosenings, in_yes, in_no, undecided, with_no, misses, margin_of, may_atom, may, domain_allows}
use Rattle.cover_model.specs.Honest.{conjuncts, conjuncts_of, all_in_yes, is_some_space, none_empty_from, none_empty}
use Rattle.poly_graph.specs.ProblemViews.{Parts, problem_of}
use Rattle.cover_model.specs.Rules.{Line, narrowing, by_range}
use Rattle.poly_graph.proofs.Bools.{decided}
use Rattle.cover_rule.specs.declared.refusal.PatchRefusal.{PatchRefusal}
use Rattle.cover_rule.specs.declared.refusal.PatchRefusal.TheVariants.{NotForced, Decided, NotYes, NotFalse, Ended}
use Rattle.cover_rule.specs.Models.{PatchModel}
use Rattle.cover_rule.specs.Patch.{problem_in, loosenings_in, now_in, narrowed_in}
use Rattle.cover_rule.specs.Refusals.{unless, then_by, if_ended, unit_refusal, forced_by, void_refusal}
use Rattle.cover_data.proofs.Withins.{undecided_at}
use Rattle.box_worker.specs.Attempts.{Attempts, all_decided}

-- ---- conjuncts hold where the form does

abbrev pub In : ℕ → List ℕ → Type 0
In j [] = ⊥
In j (i ∷ is) = (i ≡ j) ⊎ In j is

in-append : (j : ℕ) (xs ys : List ℕ) → In j (xs ++ ys) → In j xs ⊎ In j ys
in-append j [] ys h = inr h
in-append j (x ∷ xs) ys (inl e) = inl (inl e)
in-append j (x ∷ xs) ys (inr h) = elim (in-append j xs ys h) [ inl k ↦ inl (inr k) | inr k ↦ inr k ]

module _ (a : ℕ → Bool) (c : ℕ → Bool → Bool) (j : ℕ) where
  mutual
    conjunct-holds : (φ : Form ℕ) → IsTrue (form_truth a c φ) → In j (conjuncts φ) → IsTrue (a j)
    conjunct-holds yes_form h k = absurd k
    conjunct-holds no_form h k = absurd k
    conjunct-holds (atom_is i) h (inl e) = subst (λ (i : ℕ). IsTrue (a i)) e h
    conjunct-holds (atom_is i) h (inr k) = absurd k
    conjunct-holds (bool_is axis v) h k = absurd k
    conjunct-holds (all_form φs) h k = each-holds φs h k
    conjunct-holds (any_form φs) h k = absurd k

    each-holds : (φs : Forms ℕ) → IsTrue (all_truth a c φs) → In j (conjuncts_of φs) → IsTrue (a j)
    each-holds no_forms h k = absurd k
    each-holds (more_forms φ φs) h k = let e = both_true (form_truth a c φ) (all_truth a c φs) h in elim (in-append j (conjuncts φ) (conjuncts_of φs) k) [
      | inl u ↦ conjunct-holds φ e.0 u
      | inr u ↦ each-holds φs e.1 u
    ]

module _ (sorts : List Sort) (n : ℕ) (j : ℕ) where
  mutual
    conjunct-there : (φ : Form ℕ) → IsForm sorts n φ → In j (conjuncts φ) → j < n
    conjunct-there yes_form h k = absurd k
    conjunct-there no_form h k = absurd k
    conjunct-there (atom_is i) h (inl e) = subst (λ (i : ℕ). i < n) e h
    conjunct-there (atom_is i) h (inr k) = absurd k
    conjunct-there (bool_is axis v) h k = absurd k
    conjunct-there (all_form φs) h k = each-there φs h k
    conjunct-there (any_form φs) h k = absurd k

    each-there : (φs : Forms ℕ) → AreForms sorts n φs → In j (conjuncts_of φs) → j < n
    each-there no_forms h k = absurd k
    each-there (more_forms φ φs) h k = elim (in-append j (conjuncts φ) (conjuncts_of φs) k) [
      | inl u ↦ conjunct-there φ h.0 u
      | inr u ↦ each-there φs h.1 u
    ]

-- ---- marks

set-decides : (ms : List Mark) (j : ℕ) → undecided_in (set ms j marked_yes) j ≡ false
set-decides [] j = refl
set-decides (m ∷ ms) zero = refl
set-decides (m ∷ ms) (suc j) = set-decides ms j

set-keeps : (ms : List Mark) (j i : ℕ) → IsTrue (undecided_in (set ms j marked_yes) i) → IsTrue (undecided_in ms i)
set-keeps [] j i h = h
set-keeps (m ∷ ms) zero zero h = absurd (true≢false (sym h))
set-keeps (m ∷ ms) zero (suc i) h = h
set-keeps (m ∷ ms) (suc j) zero h = h
set-keeps (m ∷ ms) (suc j) (suc i) h = set-keeps ms j i h

set-no : (ms : List Mark) (j : ℕ) → IsTrue (undecided_in ms j) → is_no (mark_at (set ms j marked_no) j) ≡ true
set-no [] j h = absurd (true≢false (sym h))
set-no (m ∷ ms) zero h = refl
set-no (m ∷ ms) (suc j) h = set-no ms j h

-- ---- the atoms below n that are conjuncts are marked

abbrev pub AreMarked : Problem → State → ℕ → Type 0
AreMarked p S n = (i : ℕ) → i < n → IsTrue (undecided S i) → In i (conjuncts p.form) → ⊥

false-and : (x y : Bool) → IsTrue (not x && y) → IsTrue x → ⊥
false-and true y h k = true≢false (sym h)
false-and false y h k = true≢false (sym k)

pub some_none : {X : Type 0} (o : Option X) → IsSome o → o ≡ None → ⊥
some_none None h e = true≢false (sym h)
some_none (Some x) h e = cc

-- an unmarked conjunct can be marked yes
forced-conjunct : (p : Problem) (s : Loosenings) (S : State) (j : ℕ) → IsTrue (undecided S j) → In j (conjuncts p.form) → may p s (with_no S j) ≡ false
forced-conjunct p s S j u k = elim (decided (may p s (with_no S j))) [
  | inl h ↦ absurd (false-and (in_no (with_no S j) j) (not (misses p (margin_of s) S.space j))
      (conjunct-holds (may_atom p s (with_no S j)) (domain_allows S.space) j p.form h k) (set-no S.marks j u))
  | inr h ↦ is-false (may p s (with_no S j)) h
]
  where
    is-false : (b : Bool) → IsTrue (not b) → b ≡ false
    is-false true h = absurd (true≢false (sym h))
    is-false false h = refl

pub open_not_ended : (P : PatchModel) → P.kept.end ≡ None → if_ended P.kept ≡ None
open_not_ended P e = ap (λ (o : Option Line). unless (is_none o) Ended) e

not-refused : (P : PatchModel) (j : ℕ) → P.kept.end ≡ None → (u m : Bool) → u ≡ true → m ≡ false →
    then_by (if_ended P.kept) (then_by (unless u Decided) (unless (not m) NotForced)) ≡ None
not-refused P j e u m h k =
    ap (λ (o : Option PatchRefusal). then_by o (then_by (unless u Decided) (unless (not m) NotForced))) (open_not_ended P e)
    ∙ ap (λ (b : Bool). then_by (unless b Decided) (unless (not m) NotForced)) h
    ∙ ap (λ (b : Bool). unless (not b) NotForced) k

cases : (i j : ℕ) → i < j + 1 → (i < j) ⊎ (i ≡ j)
cases i j h = grind arith

marked-next : (P Q : PatchModel) (j : ℕ) (b : Bool) → P.kept.end ≡ None → Attempts (unit_refusal P j) P (forced_by P j) Q b → AreMarked (problem_in P) (now_in P) j → AreMarked (problem_in P) (now_in Q) (j + 1)
marked-next P Q j true e a m = subst (λ (Q : PatchModel). AreMarked (problem_in P) (now_in Q) (j + 1)) (sym a.1)
    (λ i l u k. elim (cases i j l) [
      | inl h ↦ m i h (set-keeps (now_in P).marks j i u) k
      | inr h ↦ true≢false (sym u ∙ ap (undecided_in (set (now_in P).marks j marked_yes)) h ∙ set-decides (now_in P).marks j)
    ])
marked-next P Q j false e a m = subst (λ (Q : PatchModel). AreMarked (problem_in P) (now_in Q) (j + 1)) (sym a.1)
    (λ i l u k. elim (cases i j l) [
      | inl h ↦ m i h u k
      | inr h ↦ let v : IsTrue (undecided (now_in P) j) = subst (λ (i : ℕ). IsTrue (undecided (now_in P) i)) h u in
          some_none (unit_refusal P j) a.0 (not-refused P j e (undecided (now_in P) j) (may (problem_in P) (loosenings_in P) (with_no (now_in P) j)) v
          (forced-conjunct (problem_in P) (loosenings_in P) (now_in P) j v (subst (λ (i : ℕ). In i (conjuncts (problem_in P).form)) h k)))
    ])

pub marked_next : (q : Parts) (P Q : PatchModel) (j : ℕ) (b : Bool) → P.problem ≡ q → P.kept.end ≡ None → Attempts (unit_refusal P j) P (forced_by P j) Q b → AreMarked (problem_of q) (now_in P) j → AreMarked (problem_of q) (now_in Q) (j + 1)
marked_next q P Q j b e o a m = subst (λ (r : Parts). AreMarked (problem_of r) (now_in Q) (j + 1)) e
    (marked-next P Q j b o a (subst (λ (r : Parts). AreMarked (problem_of r) (now_in P) j) (sym e) m))

all-not : (S : State) (js : List ℕ) → ((j : ℕ) → In j js → IsTrue (undecided S j) → ⊥) → all_decided S js ≡ true
all-not S [] f = refl
all-not S (j ∷ js) f = elim (decided (undecided S j)) [
  | inl h ↦ absurd (f j (inl refl) h)
  | inr h ↦ both_pass (not (undecided S j)) (all_decided S js) h (all-not S js (λ i k. f i (inr k)))
]

pub marked_all : (p : Problem) → IsProblem p → (S : State) → AreMarked p S (length p.atoms) → all_decided S (conjuncts p.form) ≡ true
marked_all p g S m = all-not S (conjuncts p.form) (λ j k u. m j (conjunct-there (sorts_of_problem p) (length p.atoms) j p.form g.form k) u k)

yes-decided : (ms : List Mark) (j : ℕ) → IsTrue (is_yes (mark_at ms j)) → IsTrue (not (undecided_in ms j))
yes-decided [] j h = refl
yes-decided (marked_yes ∷ ms) zero h = refl
yes-decided (marked_no ∷ ms) zero h = refl
yes-decided (unmarked ∷ ms) zero h = absurd (true≢false (sym h))
yes-decided (m ∷ ms) (suc j) h = yes-decided ms j h

-- those that are marked yes are marked
pub yes_are_decided : (S : State) (js : List ℕ) → all_in_yes S js ≡ true → all_decided S js ≡ true
yes_are_decided S [] h = refl
yes_are_decided S (j ∷ js) h = let e = both_true (in_yes S j) (all_in_yes S js) h in both_pass (not (undecided S j)) (all_decided S js) (yes-decided S.marks j e.0) (yes_are_decided S js e.1)

-- ---- where the form may hold, marked conjuncts are marked yes

decided-yes : (m : Mark) → IsTrue (not (is_unmarked m)) → IsTrue (not (is_no m)) → IsTrue (is_yes m)
decided-yes marked_yes u n = refl
decided-yes marked_no u n = absurd (true≢false (sym n))
decided-yes unmarked u n = absurd (true≢false (sym u))

all-yes : (p : Problem) (s : Loosenings) (S : State) (js : List ℕ) → ((j : ℕ) → In j js → (j < length S.marks) × IsTrue (may_atom p s S j)) → all_decided S js ≡ true → all_in_yes S js ≡ true
all-yes p s S [] f d = refl
all-yes p s S (j ∷ js) f d =
    let e = both_true (not (undecided S j)) (all_decided S js) d in
    let k = f j (inl refl) in
    let n = both_true (not (in_no S j)) (not (misses p (margin_of s) S.space j)) k.1 in
    both_pass (in_yes S j) (all_in_yes S js)
    (decided-yes (mark_at S.marks j) (subst (λ (b : Bool). IsTrue (not b)) (undecided_at S.marks j k.0) e.0) n.0)
    (all-yes p s S js (λ i h. f i (inr h)) e.1)

pub conjuncts_are_yes : (p : Problem) → IsProblem p → (s : Loosenings) (S : State) → length S.marks ≡ length p.atoms → IsTrue (may p s S) → all_decided S (conjuncts p.form) ≡ true → all_in_yes S (conjuncts p.form) ≡ true
conjuncts_are_yes p g s S l h d = all-yes p s S (conjuncts p.form)
    (λ j k. (let u = conjunct-there (sorts_of_problem p) (length p.atoms) j p.form g.form k in omega (arith, l, u), conjunct-holds (may_atom p s S) (domain_allows S.space) j p.form h k)) d

-- ---- atoms that leave nothing

module _ (p : Problem) (s : Loosenings) (S : State) where
  abbrev pub leaves : ℕ → Mark → Bool
  leaves j m = not (is_yes m) || is_some_space (narrowing p s S j)

  none-from : (k : ℕ) (ms : List Mark) → ((i : ℕ) → i < length ms → leaves (k + i) (mark_at ms i) ≡ true) → none_empty_from p s S k ms ≡ true
  none-from k [] f = refl
  none-from k (m ∷ ms) f = both_pass (leaves k m) (none_empty_from p s S (suc k) ms)
      (let e : k + 0 ≡ k = omega arith in subst (λ (j : ℕ). leaves j m ≡ true) e (f 0 (omega arith)))
      (none-from (suc k) ms (λ i l. let e : k + suc i ≡ suc k + i = omega arith in subst (λ (j : ℕ). leaves j (mark_at ms i) ≡ true) e (f (suc i) (omega arith))))

  pub none_leaves : length S.marks ≡ length p.atoms → ((i : ℕ) → i < length p.atoms → leaves i (mark_at S.marks i) ≡ true) → none_empty p s S ≡ true
  none_leaves l f = none-from 0 S.marks (λ i h. let e : i ≡ 0 + i = omega arith in subst (λ (j : ℕ). leaves j (mark_at S.marks i) ≡ true) e (f i (omega arith)))

void-refused : (P : PatchModel) (j : ℕ) → P.kept.end ≡ None → (y s : Bool) → IsSome (then_by (if_ended P.kept) (then_by (unless y NotYes) (unless (not s) NotFalse))) → (not y || s) ≡ true
void-refused P j e false s h = refl
void-refused P j e true true h = refl
void-refused P j e true false h = absurd (some_none (then_by (if_ended P.kept) None) h (ap (λ (o : Option PatchRefusal). then_by o None) (open_not_ended P e)))

pub left_next : (P Q : PatchModel) (j : ℕ) (done : PatchModel) → P.kept.end ≡ None → Attempts (void_refusal P (by_range j)) P done Q false → leaves (problem_in P) (loosenings_in P) (now_in P) j (mark_at (now_in P).marks j) ≡ true
left_next P Q j done e a = void-refused P j e (in_yes (now_in P) j) (is_some_space (narrowed_in P (by_range j))) a.0
