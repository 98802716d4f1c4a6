-- Marks that are set one after the other are those of the two lists.
use Rattle.std.proofs.Common.{◌≡◌, ℕ, zero, suc, ◌+◌, ◌<◌, ◌≤◌, List, [], ◌∷◌, length, replicate, drop, get_or, set, Bool, true, false, cond, not, ◌&&◌, ◌||◌, Some, IsTrue, nat_eq, nat_lt, refl, ap, ap₂, sym, ◌∙◌, inl, inr, true≢false, arith, ltb→lt}
use Rattle.std.proofs.lemmas.List.{get_or-set_same, get_or-set_other, length-set, ext_get_or, drop_more, drop_all}
use Rattle.std.proofs.lemmas.Bool.Decides.{eqb_tells}
use Rattle.std.specs.List.{list_all}
use Rattle.std.specs.Bool.{passes}
use Rattle.dyadic.proofs.Equal.{both_true}
use Rattle.poly_graph.specs.Marks.{Mark, marked_yes, marked_no, unmarked, is_unmarked, mark_at, member, mark_in, marks_from, marks_of}
use Rattle.cert_model.specs.Due.{all_below, apart}
use Rattle.cert_check.specs.Lists.{marked, IsMarked}

pub length_marked : (marks : List Mark) (js : List ℕ) (m : Mark) → length (marked marks js m) ≡ length marks
length_marked marks [] m = refl
length_marked marks (j ∷ js) m = length_marked (set marks j m) js m ∙ length-set marks j m

-- the loop over a list
pub marked_next : (marks : List Mark) (js : List ℕ) (m : Mark) (k : ℕ) → k < length js → marked marks (drop k js) m ≡ marked (set marks (get_or js k 0) m) (drop (k + 1) js) m
marked_next marks js m k h = ap (λ (xs : List ℕ). marked marks xs m) (drop_more js k 0 h)

pub marked_done : (marks : List Mark) (js : List ℕ) (m : Mark) (k : ℕ) → length js ≤ k → marked marks (drop k js) m ≡ marks
marked_done marks js m k h = ap (λ (xs : List ℕ). marked marks xs m) (drop_all k js h)

-- ---- the mark of an atom

either-mark : (t : Bool) (m : Mark) → cond t m m ≡ m
either-mark true m = refl
either-mark false m = refl

mark-of-marked : (marks : List Mark) (js : List ℕ) (m : Mark) (k : ℕ) → k < length marks → mark_at (marked marks js m) k ≡ cond (member k js) m (mark_at marks k)
mark-of-marked marks [] m k h = refl
mark-of-marked marks (j ∷ js) m k h =
    mark-of-marked (set marks j m) js m k (omega (arith, h, length-set marks j m)) ∙ elim (eqb_tells j k) [
      | inl e ↦
          ap (λ (x : Mark). cond (member k js) m x) (ap (λ (i : ℕ). mark_at (set marks i m) k) e.1 ∙ get_or-set_same marks k m unmarked h) ∙ either-mark (member k js) m
          ∙ sym (ap (λ (t : Bool). cond (t || member k js) m (mark_at marks k)) e.0)
      | inr e ↦
          ap (λ (x : Mark). cond (member k js) m x) (get_or-set_other marks j k m unmarked (λ (p : k ≡ j). e.1 (sym p)))
          ∙ sym (ap (λ (t : Bool). cond (t || member k js) m (mark_at marks k)) e.0)
    ]

mark-of-none : (n k : ℕ) → mark_at (replicate n unmarked) k ≡ unmarked
mark-of-none zero zero = refl
mark-of-none zero (suc k) = refl
mark-of-none (suc n) zero = refl
mark-of-none (suc n) (suc k) = mark-of-none n k

pub length_none : (n : ℕ) → length (replicate n unmarked) ≡ n
length_none zero = refl
length_none (suc n) = let e = length_none n in omega (arith, e)

-- the atoms marked yes
yes-marks : (n : ℕ) (ys : List ℕ) (k : ℕ) → k < n → mark_at (marked (replicate n unmarked) ys marked_yes) k ≡ cond (member k ys) marked_yes unmarked
yes-marks n ys k h = mark-of-marked (replicate n unmarked) ys marked_yes k (omega (arith, h, length_none n)) ∙ ap (λ (x : Mark). cond (member k ys) marked_yes x) (mark-of-none n k)

not-yes : (t : Bool) → is_unmarked (cond t marked_yes unmarked) ≡ not t
not-yes true = refl
not-yes false = refl

all-same : (f g : ℕ → Bool) (n : ℕ) → ((k : ℕ) → k < n → f k ≡ g k) → (js : List ℕ) → IsTrue (all_below n js) → list_all f js ≡ list_all g js
all-same f g n e [] h = refl
all-same f g n e (j ∷ js) h = let k = both_true (nat_lt j n) (all_below n js) h in
    ap₂ (λ (x : Bool) (y : Bool). x && y) (e j (ltb→lt j n (passes _ k.0))) (all-same f g n e js k.1)

-- ---- lists that have no number in common

shuffle : (a b c d : Bool) → (not (a || b) && (not c && d)) ≡ (not (a || c) && (not b && d))
shuffle true b c d = refl
shuffle false true true d = refl
shuffle false true false d = refl
shuffle false false true d = refl
shuffle false false false d = refl

all-true : (ns : List ℕ) → list_all (λ (j : ℕ). true) ns ≡ true
all-true [] = refl
all-true (n ∷ ns) = all-true ns

same-either-way : (a b : ℕ) → nat_eq a b ≡ nat_eq b a
same-either-way a b = elim (eqb_tells a b) [
  | inl e ↦ elim (eqb_tells b a) [ inl f ↦ e.0 ∙ sym f.0 | inr f ↦ absurd (f.1 (sym e.1)) ]
  | inr e ↦ elim (eqb_tells b a) [ inl f ↦ absurd (e.1 (sym f.1)) | inr f ↦ e.0 ∙ sym f.0 ]
]

apart-first : (y : ℕ) (ys ns : List ℕ) → list_all (λ (j : ℕ). not (nat_eq y j || member j ys)) ns ≡ (not (member y ns) && list_all (λ (j : ℕ). not (member j ys)) ns)
apart-first y ys [] = refl
apart-first y ys (n ∷ ns) =
    ap (λ (t : Bool). not (nat_eq y n || member n ys) && t) (apart-first y ys ns)
    ∙ shuffle (nat_eq y n) (member n ys) (member y ns) (list_all (λ (j : ℕ). not (member j ys)) ns)
    ∙ ap (λ (t : Bool). not (t || member y ns) && (not (member n ys) && list_all (λ (j : ℕ). not (member j ys)) ns)) (same-either-way y n)

apart-all : (ys ns : List ℕ) → list_all (λ (j : ℕ). not (member j ys)) ns ≡ apart ys ns
apart-all [] ns = all-true ns
apart-all (y ∷ ys) ns = apart-first y ys ns ∙ ap (λ (t : Bool). not (member y ns) && t) (apart-all ys ns)

apart-is : (n : ℕ) (ys ns : List ℕ) → IsTrue (all_below n ns) →
    list_all (λ (j : ℕ). is_unmarked (mark_at (marked (replicate n unmarked) ys marked_yes) j)) ns ≡ apart ys ns
apart-is n ys ns h =
    all-same (λ (j : ℕ). is_unmarked (mark_at (marked (replicate n unmarked) ys marked_yes) j)) (λ (j : ℕ). not (member j ys)) n
    (λ k l. ap is_unmarked (yes-marks n ys k l) ∙ not-yes (member k ys)) ns h
    ∙ apart-all ys ns

-- ---- the marks of both lists

member-passes : (f : ℕ → Bool) (k : ℕ) (ns : List ℕ) → list_all f ns ≡ true → member k ns ≡ true → f k ≡ true
member-passes f k [] a m = absurd (true≢false (sym m))
member-passes f k (n ∷ ns) a m = let e = both_true (f n) (list_all f ns) a in elim (eqb_tells n k) [
  | inl p ↦ ap f (sym p.1) ∙ e.0
  | inr p ↦ member-passes f k ns e.1 (sym (ap (λ (t : Bool). t || member k ns) p.0) ∙ m)
]

swap-marks : (y n : Bool) → (n ≡ true → not y ≡ true) → cond n marked_no (cond y marked_yes unmarked) ≡ cond y marked_yes (cond n marked_no unmarked)
swap-marks true true h = absurd (true≢false (sym (h refl)))
swap-marks true false h = refl
swap-marks false true h = refl
swap-marks false false h = refl

mark-from : (j n : ℕ) (ys ns : List ℕ) (k : ℕ) → k < n → mark_at (marks_from j n ys ns) k ≡ mark_in ys ns (j + k)
mark-from j zero ys ns k h = absurd (omega (arith, h))
mark-from j (suc n) ys ns zero h = ap (mark_in ys ns) (omega arith)
mark-from j (suc n) ys ns (suc k) h = mark-from (suc j) n ys ns k (omega (arith, h)) ∙ ap (mark_in ys ns) (omega arith)

length-from : (j n : ℕ) (ys ns : List ℕ) → length (marks_from j n ys ns) ≡ n
length-from j zero ys ns = refl
length-from j (suc n) ys ns = let e = length-from (suc j) n ys ns in omega (arith, e)

both-marks : (n : ℕ) (ys ns : List ℕ) → apart ys ns ≡ true → marked (marked (replicate n unmarked) ys marked_yes) ns marked_no ≡ marks_of n ys ns
both-marks n ys ns a =
    let first : List Mark = marked (replicate n unmarked) ys marked_yes in
    let count : length first ≡ n = length_marked (replicate n unmarked) ys marked_yes ∙ length_none n in
    let count' : length (marked first ns marked_no) ≡ n = length_marked first ns marked_no ∙ count in
    ext_get_or unmarked (marked first ns marked_no) (marks_of n ys ns) (count' ∙ sym (length-from 0 n ys ns))
    (λ k h. let l : k < n = omega (arith, h, count') in let place : k ≡ 0 + k = omega arith in
    mark-of-marked first ns marked_no k (omega (arith, l, count)) ∙ ap (λ (x : Mark). cond (member k ns) marked_no x) (yes-marks n ys k l)
    ∙ swap-marks (member k ys) (member k ns) (member-passes (λ (j : ℕ). not (member j ys)) k ns (apart-all ys ns ∙ a))
    ∙ ap (mark_in ys ns) place ∙ sym (mark-from 0 n ys ns k l))

pub marks_meet : (n : ℕ) (ys ns : List ℕ) (first : List Mark) (b : Bool) → IsTrue (all_below n ns) → first ≡ marked (replicate n unmarked) ys marked_yes →
    b ≡ list_all (λ (j : ℕ). is_unmarked (mark_at first j)) ns → b ≡ false → apart ys ns ≡ false
marks_meet n ys ns first b h f e g =
    sym (apart-is n ys ns h) ∙ ap (λ (xs : List Mark). list_all (λ (j : ℕ). is_unmarked (mark_at xs j)) ns) (sym f) ∙ sym e ∙ g

pub marks_part : (n : ℕ) (ys ns : List ℕ) (first last : List Mark) (b : Bool) → IsTrue (all_below n ns) → first ≡ marked (replicate n unmarked) ys marked_yes →
    b ≡ list_all (λ (j : ℕ). is_unmarked (mark_at first j)) ns → b ≡ true → last ≡ marked first ns marked_no → IsMarked n ys ns (Some last)
marks_part n ys ns first last b h f e g l =
    let a : apart ys ns ≡ true = sym (apart-is n ys ns h) ∙ ap (λ (xs : List Mark). list_all (λ (j : ℕ). is_unmarked (mark_at xs j)) ns) (sym f) ∙ sym e ∙ g in
    (a, l ∙ ap (λ (xs : List Mark). marked xs ns marked_no) f ∙ both-marks n ys ns a)

pub length_marks : (n : ℕ) (ys ns : List ℕ) → length (marks_of n ys ns) ≡ n
length_marks n ys ns = length-from 0 n ys ns
