-- Lists of clauses that grow.
use Rattle.std.proofs.Common.{◌≡◌, ◌∙◌, ◌⊎◌, inl, inr, refl, sym, ap, subst, ℕ, zero, suc, ◌+◌, ◌*◌, ◌<◌, ◌≤◌, List, [], ◌∷◌, map, length, set, get_or, cond, Bool, true, false, Some, Vec, Global, vec_len, arith}
use Rattle.std.specs.Prelude.{Contains, All, slice_get}
use Rattle.std.proofs.lemmas.Option.{slice_get_within}
use Rattle.std.proofs.lemmas.List.{map-set, get_or-map}
use Rattle.std.proofs.lemmas.Bool.{cases_lt}
use Rattle.clause_search.specs.declared.literal.Variable.{Variable}
use Rattle.clause_search.specs.declared.literal.Variable.TheVariants.{Atom, BoolIs, Helper}
use Rattle.clause_search.specs.declared.literal.Literal.{Literal}
use Rattle.clause_search.specs.Clauses.{Cnf, IsVariableIn}
use Rattle.clause_search.specs.Lists.{place_of, code_of, list_at, KeepsLists, AreListed, AreListedBelow}

-- after a write, a place has what was written, or what it had
pub set_cases : {X : Type 0} (xs : List X) (i : ℕ) (y : X) (k : ℕ) (d : X) → ((i ≡ k) × (get_or (set xs i y) k d ≡ y)) ⊎ (get_or (set xs i y) k d ≡ get_or xs k d)
set_cases [] i y k d = inr refl
set_cases (x ∷ xs) zero y zero d = inl (refl, refl)
set_cases (x ∷ xs) zero y (suc k) d = inr refl
set_cases (x ∷ xs) (suc i) y zero d = inr refl
set_cases (x ∷ xs) (suc i) y (suc k) d = elim (set_cases xs i y k d) [
  | inl e ↦ inl (ap suc e.0, e.1)
  | inr e ↦ inr e
]

pub set_there : {X : Type 0} (xs : List X) (i : ℕ) (y d : X) → i < length xs → get_or (set xs i y) i d ≡ y
set_there [] i y d h = absurd (omega arith)
set_there (x ∷ xs) zero y d h = refl
set_there (x ∷ xs) (suc i) y d h = let l : i < length xs = omega arith in set_there xs i y d l

module _ (old new : Vec (Vec ℕ Global) Global) (k : ℕ) (list : Vec ℕ Global) (written : new.items ≡ set old.items k list) where
  lists-are : map (λ (v : Vec ℕ Global). v.items) new.items ≡ set (map (λ (v : Vec ℕ Global). v.items) old.items) k list.items
  lists-are = ap (map (λ (v : Vec ℕ Global). v.items)) written ∙ map-set (λ (v : Vec ℕ Global). v.items) old.items k list

  pub keeps_lists : vec_len new ≡ vec_len old → ((j : ℕ) → Contains (list_at old k) j → Contains list.items j) → KeepsLists old new
  keeps_lists same still = record {
    same_length = same;
    still_there = λ m j h. elim (set_cases (map (λ (v : Vec ℕ Global). v.items) old.items) k list.items m []) [
      | inl e ↦ subst (λ (xs : List ℕ). Contains xs j) (sym (ap (λ (xs : List (List ℕ)). get_or xs m []) lists-are ∙ e.1)) (still j (subst (λ (n : ℕ). Contains (list_at old n) j) (sym e.0) h))
      | inr e ↦ subst (λ (xs : List ℕ). Contains xs j) (sym (ap (λ (xs : List (List ℕ)). get_or xs m []) lists-are ∙ e)) h
    ];
  }

  pub list_is : k < length (map (λ (v : Vec ℕ Global). v.items) old.items) → list_at new k ≡ list.items
  list_is h = ap (λ (xs : List (List ℕ)). get_or xs k []) lists-are ∙ set_there (map (λ (v : Vec ℕ Global). v.items) old.items) k list.items [] h

pub keeps_through : (a b c : Vec (Vec ℕ Global) Global) → KeepsLists a b → KeepsLists b c → KeepsLists a c
keeps_through a b c h k = record { same_length = k.same_length ∙ h.same_length; still_there = λ m j p. k.still_there m j (h.still_there m j p) }

-- the number of a literal whose variable is there
pub code_within : (atoms axes helpers : ℕ) (l : Literal) → IsVariableIn atoms axes helpers l.variable → code_of atoms axes l < 2 * (atoms + 2 * axes + helpers)
code_within atoms axes helpers l h = go l.variable l.positive h
  where
    small : (b : Bool) → cond b 1 0 ≤ 1
    small true = omega arith
    small false = omega arith

    go : (v : Variable) (p : Bool) → IsVariableIn atoms axes helpers v → 2 * place_of atoms axes v + cond p 1 0 < 2 * (atoms + 2 * axes + helpers)
    go (Atom j) p h = omega (arith, small p)
    go (BoolIs i v) p h = omega (arith, small p, small v)
    go (Helper k) p h = omega (arith, small p)

pub any_default : {X : Type 0} (xs : List X) (i : ℕ) (d e : X) → i < length xs → get_or xs i d ≡ get_or xs i e
any_default [] i d e h = absurd (omega arith)
any_default (x ∷ xs) zero d e h = refl
any_default (x ∷ xs) (suc i) d e h = let l : i < length xs = omega arith in any_default xs i d e l

pub list_read : (lists : Vec (Vec ℕ Global) Global) (k : ℕ) (list : Vec ℕ Global) → k < vec_len lists → list ≡ get_or lists.items k list → list_at lists k ≡ list.items
list_read lists k list h e = let within : k < length lists.items = omega (arith, lists.ok.0) in get_or-map (λ (v : Vec ℕ Global). v.items) lists.items k list [] within ∙ ap (λ (v : Vec ℕ Global). v.items) (sym e)

module _ (old new : Vec (Vec ℕ Global) Global) (atoms axes clause i : ℕ) (literals : List Literal) (keeps : KeepsLists old new) where
  pub each_listed : (e : Literal) → i < length literals → ((k : ℕ) (d : Literal) → k < i → Contains (list_at old (code_of atoms axes (get_or literals k d))) clause) →
      Contains (list_at new (code_of atoms axes (get_or literals i e))) clause → (k : ℕ) (d : Literal) → k < i + 1 → Contains (list_at new (code_of atoms axes (get_or literals k d))) clause
  each_listed e within below here k d h = elim (cases_lt k i) [
    | inl b ↦ keeps.still_there (code_of atoms axes (get_or literals k d)) clause (below k d b)
    | inr b ↦
        let same : k ≡ i = omega arith in
        subst (λ (n : ℕ). Contains (list_at new (code_of atoms axes (get_or literals n d))) clause) (sym same)
        (subst (λ (l : Literal). Contains (list_at new (code_of atoms axes l)) clause) (any_default literals i e d within) here)
  ]

-- one clause more is listed
pub lists_more : (c : Cnf) (old new : Vec (Vec ℕ Global) Global) (i : ℕ) (clause : List Literal) → KeepsLists old new → slice_get c.clauses i ≡ Some clause → All (λ (m : Literal). Contains (list_at new (code_of c.atoms c.axes m)) i) clause →
    AreListedBelow c old i → AreListedBelow c new (i + 1)
lists_more c old new i clause keeps e here below j other h g = elim (cases_lt j i) [
  | inl b ↦ λ k d l. keeps.still_there (code_of c.atoms c.axes (get_or other k d)) j (below j other b g k d l)
  | inr b ↦
      let same : j ≡ i = omega arith in
      let one : other ≡ clause = same_some other clause (sym g ∙ ap (slice_get c.clauses) same ∙ e) in
      subst (λ (n : ℕ). All (λ (m : Literal). Contains (list_at new (code_of c.atoms c.axes m)) n) other) (sym same)
      (subst (λ (xs : List Literal). All (λ (m : Literal). Contains (list_at new (code_of c.atoms c.axes m)) i) xs) (sym one) here)
]
  where
    same_some : (x y : List Literal) → Some x ≡ Some y → x ≡ y
    same_some x y e = cc

pub all_listed : (c : Cnf) (lists : Vec (Vec ℕ Global) Global) (n : ℕ) → length c.clauses ≤ n → AreListedBelow c lists n → AreListed c lists
all_listed c lists n h below i clause e = let l : i < length c.clauses = slice_get_within c.clauses i clause e in let b : i < n = omega arith in below i clause b e

pub codes_within : (atoms axes helpers n : ℕ) (clause : List Literal) → All (λ (l : Literal). IsVariableIn atoms axes helpers l.variable) clause → n ≡ 2 * (atoms + 2 * axes + helpers) → All (λ (l : Literal). code_of atoms axes l < n) clause
codes_within atoms axes helpers n clause h e k d l = let b : code_of atoms axes (get_or clause k d) < 2 * (atoms + 2 * axes + helpers) = code_within atoms axes helpers (get_or clause k d) (h k d l) in subst (λ (x : ℕ). code_of atoms axes (get_or clause k d) < x) (sym e) b

-- with the counts of the clauses
module _ (c : Cnf) (atoms axes helpers : ℕ) (clause : List Literal) (e : atoms ≡ c.atoms) (f : axes ≡ c.axes) where
  pub there_by_counts : (lists : Vec (Vec ℕ Global) Global) (i : ℕ) → All (λ (l : Literal). Contains (list_at lists (code_of atoms axes l)) i) clause → All (λ (l : Literal). Contains (list_at lists (code_of c.atoms c.axes l)) i) clause
  there_by_counts lists i h =
      subst (λ (n : ℕ). All (λ (l : Literal). Contains (list_at lists (code_of n c.axes l)) i) clause) e
      (subst (λ (n : ℕ). All (λ (l : Literal). Contains (list_at lists (code_of atoms n l)) i) clause) f h)

  pub within_by_counts : (n : ℕ) → helpers ≡ c.helpers → n ≡ 2 * (atoms + 2 * axes + helpers) → All (λ (l : Literal). IsVariableIn c.atoms c.axes c.helpers l.variable) clause → All (λ (l : Literal). code_of atoms axes l < n) clause
  within_by_counts n g size h = codes_within atoms axes helpers n clause
      (subst (λ (k : ℕ). All (λ (l : Literal). IsVariableIn k axes helpers l.variable) clause) (sym e)
      (subst (λ (k : ℕ). All (λ (l : Literal). IsVariableIn c.atoms k helpers l.variable) clause) (sym f)
      (subst (λ (k : ℕ). All (λ (l : Literal). IsVariableIn c.atoms c.axes k l.variable) clause) (sym g) h))) size
