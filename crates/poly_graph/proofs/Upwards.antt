-- Rows of parents, as each node adds its number to the rows of its children.
use Rattle.std.proofs.Common.{◌≡◌, ℕ, suc, zero, ◌+◌, ◌<◌, List, [], ◌∷◌, ◌++◌, map, length, Bool, true, false, cond, ◌||◌, refl, ap, ap₂, sym, ◌∙◌, subst, arith, nat_eq, eqb→eq, slice_index_or, slice_set, length-append, take, IsTrue, Some}
use Rattle.std.specs.Prelude.{slice_get}
use Rattle.std.proofs.lemmas.List.{get_or-set_same, get_or-set_other, get_or-map, length-set, length-map}
use Rattle.std.proofs.lemmas.Bool.{eq-eqb}
use Rattle.std.specs.Bool.{passes}
use Rattle.poly_graph.specs.Term.{Node, comes_after, in_order, has_child}
use Rattle.poly_graph.specs.Parents.{parents_from, row_at, with_one, AreParents, IsPushed, IsNoted}
use Rattle.poly_graph.proofs.Marks.{map_set}
use Rattle.poly_graph.proofs.Tables.{map_end}
use Rattle.poly_graph.proofs.Graphs.{some_is, in_order_at}

-- ---- one row is longer

push-each : (rows : List (List ℕ)) (s n : ℕ) (row : List ℕ) → s < length rows → row ≡ row_at rows s ++ (n ∷ []) → (t : ℕ) → (b : Bool) → nat_eq s t ≡ b → row_at (slice_set rows s row) t ≡ with_one b (row_at rows t) n
push-each rows s n row h e t true is = let same = eqb→eq s t (passes _ is) in
    subst (λ (u : ℕ). row_at (slice_set rows s row) u ≡ row_at rows u ++ (n ∷ [])) same (get_or-set_same rows s row [] h ∙ e)
push-each rows s n row h e t false is = get_or-set_other rows s t row [] (λ same. let d = eq-eqb s t (sym same) in cc)

pub pushed : {X : Type 0} (f : X → List ℕ) (rows : List X) (s n : ℕ) (old new : X) → s < length rows → old ≡ slice_index_or rows s old → f new ≡ f old ++ (n ∷ []) → IsPushed (map f rows) (map f (slice_set rows s new)) s n
pushed f rows s n old new h is e =
    let there : s < length (map f rows) = omega (arith, h, length-map rows f) in
    let row : f new ≡ row_at (map f rows) s ++ (n ∷ []) = e ∙ ap (λ xs. xs ++ (n ∷ [])) (ap f is ∙ sym (get_or-map f rows s old [] h)) in record {
      long = length-map (slice_set rows s new) f ∙ length-set rows s new ∙ sym (length-map rows f);
      each = λ t. ap (λ (more : List (List ℕ)). row_at more t) (map_set f rows s new) ∙ push-each (map f rows) s n (f new) there row t (nat_eq s t) refl;
    }

-- ---- the rows of a node's children

pub one_child : (b d : Bool) (xs : List ℕ) (n : ℕ) → b ≡ d → with_one b xs n ≡ with_one (b || d) xs n
one_child true d xs n h = refl
one_child false true xs n h = cc
one_child false false xs n h = refl

pub two_children : (b d : Bool) (xs : List ℕ) (n : ℕ) → (b ≡ true → d ≡ true → ⊥) → with_one d (with_one b xs n) n ≡ with_one (b || d) xs n
two_children true true xs n h = absurd (h refl refl)
two_children true false xs n h = refl
two_children false true xs n h = refl
two_children false false xs n h = refl

-- ---- one more node

row-end : (rows : List (List ℕ)) (s : ℕ) → row_at (rows ++ ([] ∷ [])) s ≡ row_at rows s
row-end [] zero = refl
row-end [] (suc s) = refl
row-end (r ∷ rows) zero = refl
row-end (r ∷ rows) (suc s) = row-end rows s

in-front : (b d : Bool) (k n : ℕ) (xs : List ℕ) → cond b (k ∷ with_one d xs n) (with_one d xs n) ≡ with_one d (cond b (k ∷ xs) xs) n
in-front true true k n xs = refl
in-front true false k n xs = refl
in-front false true k n xs = refl
in-front false false k n xs = refl

first-one : (b : Bool) (k n : ℕ) → k ≡ n → cond b (k ∷ []) [] ≡ with_one b [] n
first-one true k n h = ap (λ j. j ∷ []) h
first-one false k n h = refl

parents-end : (s k : ℕ) (ns : List Node) (x : Node) → parents_from s k (ns ++ (x ∷ [])) ≡ with_one (has_child s x) (parents_from s k ns) (k + length ns)
parents-end s k [] x = first-one (has_child s x) k (k + 0) (omega arith)
parents-end s k (y ∷ ns) x = let place : suc k + length ns ≡ k + suc (length ns) = omega arith in
    ap (λ xs. cond (has_child s y) (k ∷ xs) xs) (parents-end s (suc k) ns x ∙ ap (λ n. with_one (has_child s x) (parents_from s (suc k) ns) n) place)
    ∙ in-front (has_child s y) (has_child s x) k (k + suc (length ns)) (parents_from s (suc k) ns)

pub next_parents : (ns : List Node) (x : Node) (n : ℕ) (rows rows' : List (List ℕ)) → n ≡ length ns → AreParents ns rows → IsNoted rows rows' x n → AreParents (ns ++ (x ∷ [])) (rows' ++ ([] ∷ []))
next_parents ns x n rows rows' place p h = record {
  long = omega (arith, length-append ns (x ∷ []), length-append rows' ([] ∷ []), p.long, h.long);
  each = λ s. let zero-less : n ≡ 0 + length ns = omega arith in
      row-end rows' s ∙ h.each s ∙ ap₂ (λ xs m. with_one (has_child s x) xs m) (p.each s) zero-less ∙ sym (parents-end s 0 ns x);
}

-- ---- the loop over the nodes

take-none : (g : List Node) → take 0 g ≡ []
take-none [] = refl
take-none (y ∷ g) = refl

next-taken : (g : List Node) (n : ℕ) (x : Node) → slice_get g n ≡ Some x → take (suc n) g ≡ take n g ++ (x ∷ [])
next-taken [] n x h = cc
next-taken (y ∷ g) zero x h = ap (λ more. y ∷ more) (take-none g) ∙ ap (λ (m : Node). m ∷ []) (some_is y x h)
next-taken (y ∷ g) (suc n) x h = ap (λ more. y ∷ more) (next-taken g n x h)

taken-length : (g : List Node) (n : ℕ) (x : Node) → slice_get g n ≡ Some x → length (take n g) ≡ n
taken-length [] n x h = cc
taken-length (y ∷ g) zero x h = refl
taken-length (y ∷ g) (suc n) x h = ap suc (taken-length g n x h)

pub loop_step : {X : Type 0} (f : X → List ℕ) (g : List Node) (n : ℕ) (x : Node) (rows rows' rows'' : List X) (row : X) → slice_get g n ≡ Some x → AreParents (take n g) (map f rows) →
    IsNoted (map f rows) (map f rows') x n → rows'' ≡ rows' ++ (row ∷ []) → f row ≡ [] → AreParents (take (n + 1) g) (map f rows'')
loop_step f g n x rows rows' rows'' row stands p h items empty =
    let up : suc n ≡ n + 1 = omega arith in
    let more : take n g ++ (x ∷ []) ≡ take (n + 1) g = sym (next-taken g n x stands) ∙ ap (λ (k : ℕ). take k g) up in
    let last : map f rows'' ≡ map f rows' ++ ([] ∷ []) = ap (map f) items ∙ map_end f rows' row ∙ ap (λ r. map f rows' ++ (r ∷ [])) empty in
    subst (λ (ns : List Node). AreParents ns (map f rows'')) more
    (subst (λ (all : List (List ℕ)). AreParents (take n g ++ (x ∷ [])) all) (sym last) (next_parents (take n g) x n (map f rows) (map f rows') (sym (taken-length g n x stands)) p h))

pub note_required : {X : Type 0} (f : X → List ℕ) (g : List Node) (n : ℕ) (x : Node) (rows : List X) → IsTrue (in_order 0 g) → slice_get g n ≡ Some x → AreParents (take n g) (map f rows) → IsTrue (comes_after (length rows) x)
note_required f g n x rows o stands p = let place : 0 + n ≡ length rows = omega (arith, length-map rows f, p.long, taken-length g n x stands) in
    subst (λ (k : ℕ). IsTrue (comes_after k x)) place (in_order_at 0 g o n x stands).0
