-- Steps of two watched literals a clause.
use Rattle.std.proofs.Common.{◌≡◌, ◌∙◌, ◌≢◌, ◌⊎◌, inl, inr, refl, sym, ap, subst, ℕ, zero, suc, ◌+◌, ◌<◌, List, [], ◌∷◌, ◌++◌, length, drop, set, get_or, Option, Some, unwrap_or, IsTrue, arith, add-one}
use Rattle.std.specs.Prelude.{Contains, All, slice_get}
use Rattle.std.proofs.Math.Seq.{drop-cons}
use Rattle.std.proofs.lemmas.Bool.{cases_lt}
use Rattle.std.proofs.lemmas.Option.{slice_get_within, unwrap_or-slice_get}
use Rattle.std.proofs.lemmas.List.Elements.{All-contains}
use Rattle.poly_graph.proofs.Bools.{not_both}
use Rattle.clause_search.specs.declared.literal.Literal.{Literal}
use Rattle.clause_search.specs.Clauses.{Cnf, IsVariableIn}
use Rattle.clause_search.specs.declared.table.Table.{Table}
use Rattle.clause_search.specs.Table.{value_at, is_true, is_false}
use Rattle.clause_search.specs.Found.{LeavesOne, AllFalse, UnitAmong, ConflictAmong}
use Rattle.clause_search.specs.Pairs.{IsGuarded, AreFree, Keeps, Moves}
use Rattle.clause_search.specs.Watches.{GuardedIn, AllGuarded}
use Rattle.clause_search.proofs.Sets.{stands_once}

-- ---- lists

pub get_set_same : {X : Type 0} (xs : List X) (i : ℕ) (x y : X) → slice_get (set xs i x) i ≡ Some y → y ≡ x
get_set_same [] i x y e = cc
get_set_same (z ∷ xs) zero x y e = cc
get_set_same (z ∷ xs) (suc i) x y e = get_set_same xs i x y e

pub get_set_other : {X : Type 0} (xs : List X) (i j : ℕ) (x : X) → j ≢ i → slice_get (set xs i x) j ≡ slice_get xs j
get_set_other [] i j x n = refl
get_set_other (z ∷ xs) zero zero x n = absurd (n refl)
get_set_other (z ∷ xs) zero (suc j) x n = refl
get_set_other (z ∷ xs) (suc i) zero x n = refl
get_set_other (z ∷ xs) (suc i) (suc j) x n = get_set_other xs i j x (λ e. n (ap suc e))

pub get_append : {X : Type 0} (xs ys : List X) (i : ℕ) (x : X) → slice_get xs i ≡ Some x → slice_get (xs ++ ys) i ≡ Some x
get_append [] ys i x e = cc
get_append (z ∷ xs) ys zero x e = e
get_append (z ∷ xs) ys (suc i) x e = get_append xs ys i x e

pub get_last : {X : Type 0} (xs : List X) (x : X) → slice_get (xs ++ (x ∷ [])) (length xs) ≡ Some x
get_last [] x = refl
get_last (z ∷ xs) x = get_last xs x

pub same_number : (j i : ℕ) → (j ≡ i) ⊎ (j ≢ i)
same_number j i = elim (cases_lt j i) [
  | inl b ↦ inr (λ e. omega arith)
  | inr b ↦ elim (cases_lt i j) [
    | inl l ↦ inr (λ e. omega arith)
    | inr l ↦ inl (omega arith)
  ]
]

some-same : {X : Type 0} (x y : X) → Some x ≡ Some y → x ≡ y
some-same x y e = cc

pub one_clause : (c : Cnf) (i : ℕ) (x y : List Literal) → slice_get c.clauses i ≡ Some x → slice_get c.clauses i ≡ Some y → x ≡ y
one_clause c i x y e f = some-same x y (sym e ∙ f)

pub clause_in : (c : Cnf) (i : ℕ) (clause : List Literal) → slice_get c.clauses i ≡ Some clause → Contains c.clauses clause
clause_in c i clause e = (i, slice_get_within c.clauses i clause e, sym (unwrap_or-slice_get c.clauses i clause) ∙ ap (λ (o : Option (List Literal)). unwrap_or o clause) e)

head-or-tail : (x : ℕ) (xs : List ℕ) (j : ℕ) → Contains (x ∷ xs) j → (x ≡ j) ⊎ Contains xs j
head-or-tail x xs j (zero, h, e) = inl e
head-or-tail x xs j (suc k, h, e) = let l : k < length xs = omega arith in inr (k, l, e)

none-there : (j : ℕ) → Contains [] j → ⊥
none-there j (k, h, e) = absurd (omega arith)

-- what is left of a list after its next element
pub later : (xs : List ℕ) (at i j : ℕ) → at < length xs → get_or xs at i ≡ i → Contains (drop at xs) j → (j ≡ i) ⊎ Contains (drop (at + 1) xs) j
later xs at i j h e p = elim (head-or-tail (get_or xs at i) (drop (suc at) xs) j (subst (λ (ys : List ℕ). Contains ys j) (drop-cons xs at i h) p)) [
  | inl f ↦ inl (sym f ∙ e)
  | inr q ↦ inr (rw add-one q)
]

-- ---- what a step at a clause shows

pub unit_among : (c : Cnf) (values : Table) (i : ℕ) (clause : List Literal) (l : Literal) → slice_get c.clauses i ≡ Some clause → All (λ (m : Literal). IsVariableIn c.atoms c.axes c.helpers m.variable) clause → LeavesOne values clause l → UnitAmong c values l
unit_among c values i clause l e named h = record { clause = clause; among = clause_in c i clause e; leaves = h; named = All-contains (λ (m : Literal). IsVariableIn c.atoms c.axes c.helpers m.variable) clause l named h.within }

pub conflict_among : (c : Cnf) (values : Table) (i : ℕ) (clause : List Literal) → slice_get c.clauses i ≡ Some clause → AllFalse values clause → ConflictAmong c values
conflict_among c values i clause e h = record { clause = clause; among = clause_in c i clause e; left = h }

-- ---- watched literals of one clause

pub free_guarded : (values : Table) (pending : Literal → Type 0) (clause : List Literal) (x y : Literal) → AreFree values clause x y → IsGuarded values pending clause x y
free_guarded values pending clause x y h = record {
  first_in = h.first_in;
  second_in = h.second_in;
  first_guard = λ f. absurd (not_both (is_false values x) f h.first_free);
  second_guard = λ f. absurd (not_both (is_false values y) f h.second_free);
  differ = h.differ;
}

pub swapped : (values : Table) (pending : Literal → Type 0) (clause : List Literal) (x y : Literal) → IsGuarded values pending clause x y → IsGuarded values pending clause y x
swapped values pending clause x y g = record {
  first_in = g.second_in;
  second_in = g.first_in;
  first_guard = g.second_guard;
  second_guard = g.first_guard;
  differ = elim g.differ [ inl n ↦ inl (λ e. n (sym e)) | inr b ↦ inr (b.1, b.0) ];
}

never_both : (values : Table) (l : Literal) → IsTrue (is_true values l) → IsTrue (is_false values l) → ⊥
never_both values l h k = stands_once (value_at values l.variable) l.positive h k

module _ (values : Table) (before after : Literal → Type 0) (clause : List Literal) (l : Literal) (known : IsTrue (is_false values l)) (still : (m : Literal) → m ≢ l → before m → after m) where
  kept-side : (x y : Literal) → (x ≢ l) ⊎ IsTrue (is_true values y) → before x ⊎ IsTrue (is_true values y) → after x ⊎ IsTrue (is_true values y)
  kept-side x y (inr t) g = inr t
  kept-side x y (inl n) (inl p) = inl (still x n p)
  kept-side x y (inl n) (inr t) = inr t

  kept-guard : (x y x' y' : Literal) → IsGuarded values before clause x y → Keeps values l x y x' y' → IsGuarded values after clause x' y'
  kept-guard x y x' y' g k =
      let same : IsGuarded values after clause x y = record {
        first_in = g.first_in;
        second_in = g.second_in;
        first_guard = λ f. kept-side x y k.first_fine (g.first_guard f);
        second_guard = λ f. kept-side y x k.second_fine (g.second_guard f);
        differ = g.differ;
      } in
      subst (λ (m : Literal). IsGuarded values after clause m y') (sym k.first_same) (subst (λ (m : Literal). IsGuarded values after clause x m) (sym k.second_same) same)

  other-side : (x y : Literal) → x ≡ l → IsGuarded values before clause x y → IsTrue (is_false values y) → after y
  other-side x y e g f = elim (g.second_guard f) [
    | inl p ↦ still y (λ same. elim g.differ [ inl n ↦ n (e ∙ sym same) | inr b ↦ never_both values y b.1 f ]) p
    | inr t ↦ absurd (never_both values x t (subst (λ (m : Literal). IsTrue (is_false values m)) (sym e) known))
  ]

  moved-guard : (x y x' y' : Literal) → IsGuarded values before clause x y → Moves values clause l x y x' y' → IsGuarded values after clause x' y'
  moved-guard x y x' y' g k =
      let moved : IsGuarded values after clause x' y = record {
        first_in = k.free.within;
        second_in = g.second_in;
        first_guard = λ f. absurd (not_both (is_false values x') f k.free.not_false);
        second_guard = λ f. inl (other-side x y k.was_false g f);
        differ = inl k.free.not_other;
      } in
      subst (λ (m : Literal). IsGuarded values after clause x' m) (sym k.other_same) moved

  pub rewatched : (x y x' y' : Literal) → IsGuarded values before clause x y → Keeps values l x y x' y' ⊎ (Moves values clause l x y x' y' ⊎ Moves values clause l y x y' x') → IsGuarded values after clause x' y'
  rewatched x y x' y' g (inl k) = kept-guard x y x' y' g k
  rewatched x y x' y' g (inr (inl k)) = moved-guard x y x' y' g k
  rewatched x y x' y' g (inr (inr k)) = swapped values after clause y' x' (moved-guard y x y' x' (swapped values before clause x y g) k)

-- ---- all clauses

module _ (c : Cnf) (values : Table) (before after : ℕ → Literal → Type 0) (first second : List Literal) (n i : ℕ) (clause : List Literal) (x y : Literal) (e : slice_get c.clauses i ≡ Some clause) (here : IsGuarded values (after i) clause x y)
    (still : (j : ℕ) → j ≢ i → (m : Literal) → before j m → after j m) where
  weaker : (j : ℕ) (cl : List Literal) (a b : Literal) → j ≢ i → IsGuarded values (before j) cl a b → IsGuarded values (after j) cl a b
  weaker j cl a b n g = record {
    first_in = g.first_in;
    second_in = g.second_in;
    first_guard = λ f. elim (g.first_guard f) [ inl p ↦ inl (still j n a p) | inr t ↦ inr t ];
    second_guard = λ f. elim (g.second_guard f) [ inl p ↦ inl (still j n b p) | inr t ↦ inr t ];
    differ = g.differ;
  }

  pub written_at : GuardedIn c values after (set first i x) (set second i y) i
  written_at cl a b f g h =
      let same : cl ≡ clause = one_clause c i cl clause f e in
      subst (λ (k : List Literal). IsGuarded values (after i) k a b) (sym same)
      (subst (λ (m : Literal). IsGuarded values (after i) clause m b) (sym (get_set_same first i x a g))
      (subst (λ (m : Literal). IsGuarded values (after i) clause x m) (sym (get_set_same second i y b h)) here))

  pub written_other : (j : ℕ) → j ≢ i → GuardedIn c values before first second j → GuardedIn c values after (set first i x) (set second i y) j
  written_other j n old cl a b f g h = weaker j cl a b n (old cl a b f (sym (get_set_other first i j x n) ∙ g) (sym (get_set_other second i j y n) ∙ h))

  pub written : (m : ℕ) → ((j : ℕ) → j < m → j ≢ i → j < n) → AllGuarded c values before first second n → AllGuarded c values after (set first i x) (set second i y) m
  written m below old j l = elim (same_number j i) [
    | inl s ↦ subst (GuardedIn c values after (set first i x) (set second i y)) (sym s) written_at
    | inr d ↦ written_other j d (old j (below j l d))
  ]
