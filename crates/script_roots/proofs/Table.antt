-- What holds of each root and quotient of a script's assertions holds of the table, and where f gives the roots of the table it gives all of them.
use Rattle.std.proofs.Common.{◌≡◌, ℕ, suc, List, [], ◌∷◌, ◌++◌, Bool, true, false, cond, ◌||◌, Option, Some, None, IsTrue, refl, sym, subst, true≢false}
use Rattle.std.specs.List.{AllByRecursion}
use Rattle.dyadic.specs.Fraction.{Fraction, zero_fraction}
use Rattle.dyadic.specs.Point.{Coordinate}
use Rattle.script_model.specs.Sexp.{Place}
use Rattle.script_model.specs.Reading.{Names}
use Rattle.script_model.specs.Meaning.{Value, fraction_of, loosened}
use Rattle.script_model.specs.Script.{Command, constants_of}
use Rattle.script_roots.specs.Tree.{Tree, atomic, applied, root, quotient, formless, Trees, no_trees, more_trees, holds_choice}
use Rattle.script_roots.specs.Ranges.{Ranges}
use Rattle.script_roots.specs.TreeBounds.{declared_ranges}
use Rattle.script_roots.specs.Fresh.{Asserted, asserted, same_tree, stands_alone, fresh_in, all_fresh, fresh_of, has_tree, once, named_from, first_place, choice_in_root, choice_in_roots, fresh_place, first_fresh, left_out_in, left_out_of, left_out}
use Rattle.script_roots.specs.Rewritten.{script_table}
use Rattle.script_roots.specs.Laws.{constants_at, IsRootAt, IsRootOf, HasRoots}
use Rattle.script_roots.proofs.SameTree.{same_means}
use Rattle.script_roots.proofs.Transparent.{loosened_transparent}
use Rattle.script_roots.proofs.Enclosed.{root_of, tree_value, RootsHold, AllRootsHold}

-- ---- lists

module _ {X : Type 0} (P : X → Type 0) where
  pub all_join : (xs ys : List X) → AllByRecursion P xs → AllByRecursion P ys → AllByRecursion P (xs ++ ys)
  all_join [] ys h k = k
  all_join (x ∷ xs) ys h k = (h.0, all_join xs ys h.1 k)

  pub all_split : (xs ys : List X) → AllByRecursion P (xs ++ ys) → AllByRecursion P xs × AllByRecursion P ys
  all_split [] ys h = (tt, h)
  all_split (x ∷ xs) ys h = let k = all_split xs ys h.1 in ((h.0, k.0), k.1)

pub all_weaken : {X : Type 0} (P Q : X → Type 0) → ((x : X) → P x → Q x) → (xs : List X) → AllByRecursion P xs → AllByRecursion Q xs
all_weaken P Q f [] h = tt
all_weaken P Q f (x ∷ xs) h = (f x h.0, all_weaken P Q f xs h.1)

-- ---- each tree once

module _ (P : Tree → Type 0) where
  pushed : (b : Bool) (t : Tree) (seen : List Tree) → AllByRecursion P seen → P t → AllByRecursion P (cond b seen (seen ++ t ∷ []))
  pushed true t seen h k = h
  pushed false t seen h k = all_join P seen (t ∷ []) h (k, tt)

  pub once_all : (seen ts : List Tree) → AllByRecursion P seen → AllByRecursion P ts → AllByRecursion P (once seen ts)
  once_all seen [] h k = h
  once_all seen (t ∷ ts) h k = once_all (cond (has_tree t seen) seen (seen ++ t ∷ [])) ts (pushed (has_tree t seen) t seen h k.0) k.1

  module _ (respects : (t u : Tree) → same_tree t u ≡ true → P u → P t) where
    seen-before : (t : Tree) (seen : List Tree) → has_tree t seen ≡ true → AllByRecursion P seen → P t
    seen-before t [] e h = absurd (true≢false (sym e))
    seen-before t (u ∷ seen) e h = go (same_tree t u) refl e (λ j. seen-before t seen j h.1)
      where
        go : (b : Bool) → same_tree t u ≡ b → b || has_tree t seen ≡ true → (has_tree t seen ≡ true → P t) → P t
        go true i j later = respects t u i h.0
        go false i j later = later j

    before : (t : Tree) (seen : List Tree) (b : Bool) → has_tree t seen ≡ b → AllByRecursion P (cond b seen (seen ++ t ∷ [])) → AllByRecursion P seen × P t
    before t seen true e h = (h, seen-before t seen e h)
    before t seen false e h = let k = all_split P seen (t ∷ []) h in (k.0, k.1.0)

    pub once_each : (seen ts : List Tree) → AllByRecursion P (once seen ts) → AllByRecursion P seen × AllByRecursion P ts
    once_each seen [] h = (h, tt)
    once_each seen (t ∷ ts) h =
        let k = once_each (cond (has_tree t seen) seen (seen ++ t ∷ [])) ts h in
        let l = before t seen (has_tree t seen) refl k.0 in (l.0, (l.1, k.1))

  pub named_all : (r q : ℕ) (ts : List Tree) → AllByRecursion P ts → AllByRecursion (λ (entry : List ℕ × Tree). P entry.1) (named_from r q ts)
  named_all r q [] h = tt
  named_all r q (root at t ∷ ts) h = (h.0, named_all (suc r) q ts h.1)
  named_all r q (atomic at l ∷ ts) h = (h.0, named_all r (suc q) ts h.1)
  named_all r q (applied at x us ∷ ts) h = (h.0, named_all r (suc q) ts h.1)
  named_all r q (quotient at t d ∷ ts) h = (h.0, named_all r (suc q) ts h.1)
  named_all r q (formless at ∷ ts) h = (h.0, named_all r (suc q) ts h.1)

  pub named_each : (r q : ℕ) (ts : List Tree) → AllByRecursion (λ (entry : List ℕ × Tree). P entry.1) (named_from r q ts) → AllByRecursion P ts
  named_each r q [] h = tt
  named_each r q (root at t ∷ ts) h = (h.0, named_each (suc r) q ts h.1)
  named_each r q (atomic at l ∷ ts) h = (h.0, named_each r (suc q) ts h.1)
  named_each r q (applied at x us ∷ ts) h = (h.0, named_each r (suc q) ts h.1)
  named_each r q (quotient at t d ∷ ts) h = (h.0, named_each r (suc q) ts h.1)
  named_each r q (formless at ∷ ts) h = (h.0, named_each r (suc q) ts h.1)

  -- of the roots and quotients of each assertion
  pub fresh_all : (ranges : Ranges) (claims : List Asserted) → AllByRecursion (λ (a : Asserted). AllByRecursion P (fresh_in ranges a.tree)) claims → AllByRecursion P (fresh_of ranges claims)
  fresh_all ranges [] h = tt
  fresh_all ranges (a ∷ claims) h = all_join P (fresh_in ranges a.tree) (fresh_of ranges claims) h.0 (fresh_all ranges claims h.1)

  pub fresh_each : (ranges : Ranges) (claims : List Asserted) → AllByRecursion P (fresh_of ranges claims) → AllByRecursion (λ (a : Asserted). AllByRecursion P (fresh_in ranges a.tree)) claims
  fresh_each ranges [] h = tt
  fresh_each ranges (a ∷ claims) h = let k = all_split P (fresh_in ranges a.tree) (fresh_of ranges claims) h in (k.0, fresh_each ranges claims k.1)

-- ---- roots

-- f gives this root
abbrev pub IsGiven : (Fraction → Fraction) → Names Value → Tree → Type 0
IsGiven f names (root at t) = IsRootAt f (fraction_of (tree_value f names t))
IsGiven f names t = Unit {0}

module _ (ranges : Ranges) (f : Fraction → Fraction) (names : Names Value) where
  given-same : (t u : Tree) → same_tree t u ≡ true → IsGiven f names u → IsGiven f names t
  given-same (root at t) (root at' u) e h =
      subst (λ (v : Value). IsRootAt f (fraction_of v)) (sym (same_means (loosened zero_fraction) (loosened_transparent zero_fraction) (root_of f) names t u e)) h
  given-same (root at t) (atomic at' l) e h = absurd (true≢false (sym e))
  given-same (root at t) (applied at' x us) e h = absurd (true≢false (sym e))
  given-same (root at t) (quotient at' u d) e h = absurd (true≢false (sym e))
  given-same (root at t) (formless at') e h = absurd (true≢false (sym e))
  given-same (atomic at l) u e h = tt
  given-same (applied at x us) u e h = tt
  given-same (quotient at t d) u e h = tt
  given-same (formless at) u e h = tt

  mutual
    -- where f gives each root that stands in the tree
    roots-from : (t : Tree) → AllByRecursion (IsGiven f names) (fresh_in ranges t) → RootsHold f names t
    roots-from (atomic at l) h = tt
    roots-from (applied at x ts) h = all-roots-from ts h
    roots-from (root at t) h = let k = all_split (IsGiven f names) (fresh_in ranges t) (root at t ∷ []) h in (roots-from t k.0, k.1.0)
    roots-from (quotient at t d) h =
        let rest = cond (stands_alone ranges t d) (quotient at t d ∷ []) [] in
        let k = all_split (IsGiven f names) (fresh_in ranges t) (fresh_in ranges d) (all_split (IsGiven f names) (fresh_in ranges t ++ fresh_in ranges d) rest h).0 in
        (roots-from t k.0, roots-from d k.1)
    roots-from (formless at) h = tt

    all-roots-from : (ts : Trees) → AllByRecursion (IsGiven f names) (all_fresh ranges ts) → AllRootsHold f names ts
    all-roots-from no_trees h = tt
    all-roots-from (more_trees t ts) h = let k = all_split (IsGiven f names) (fresh_in ranges t) (all_fresh ranges ts) h in (roots-from t k.0, all-roots-from ts k.1)

  one-quotient : (b : Bool) (at : Place) (t d : Tree) → RootsHold f names t → RootsHold f names d → AllByRecursion (RootsHold f names) (cond b (quotient at t d ∷ []) [])
  one-quotient true at t d h k = ((h, k), tt)
  one-quotient false at t d h k = tt

  mutual
    -- then it gives those in each root and quotient of the tree
    roots-in-fresh : (t : Tree) → RootsHold f names t → AllByRecursion (RootsHold f names) (fresh_in ranges t)
    roots-in-fresh (atomic at l) h = tt
    roots-in-fresh (applied at x ts) h = roots-in-all-fresh ts h
    roots-in-fresh (root at t) h = all_join (RootsHold f names) (fresh_in ranges t) (root at t ∷ []) (roots-in-fresh t h.0) (h, tt)
    roots-in-fresh (quotient at t d) h =
        let rest = cond (stands_alone ranges t d) (quotient at t d ∷ []) [] in
        all_join (RootsHold f names) (fresh_in ranges t ++ fresh_in ranges d) rest
        (all_join (RootsHold f names) (fresh_in ranges t) (fresh_in ranges d) (roots-in-fresh t h.0) (roots-in-fresh d h.1)) (one-quotient (stands_alone ranges t d) at t d h.0 h.1)
    roots-in-fresh (formless at) h = tt

    roots-in-all-fresh : (ts : Trees) → AllRootsHold f names ts → AllByRecursion (RootsHold f names) (all_fresh ranges ts)
    roots-in-all-fresh no_trees h = tt
    roots-in-all-fresh (more_trees t ts) h = all_join (RootsHold f names) (fresh_in ranges t) (all_fresh ranges ts) (roots-in-fresh t h.0) (roots-in-all-fresh ts h.1)

  -- all roots of the assertions, where those of the table are given
  given-roots : (claims : List Asserted) → AllByRecursion (λ (entry : List ℕ × Tree). IsGiven f names entry.1) (named_from 0 0 (once [] (fresh_of ranges claims))) →
      AllByRecursion (λ (a : Asserted). RootsHold f names a.tree) claims
  given-roots claims h =
      let once-given = named_each (IsGiven f names) 0 0 (once [] (fresh_of ranges claims)) h in
      let all-given = (once_each (IsGiven f names) given-same [] (fresh_of ranges claims) once-given).1 in
      all_weaken (λ (a : Asserted). AllByRecursion (IsGiven f names) (fresh_in ranges a.tree)) (λ (a : Asserted). RootsHold f names a.tree)
      (λ a k. roots-from a.tree k) claims (fresh_each (IsGiven f names) ranges claims all-given)

  roots-of-table : (claims : List Asserted) → AllByRecursion (λ (a : Asserted). RootsHold f names a.tree) claims →
      AllByRecursion (λ (entry : List ℕ × Tree). RootsHold f names entry.1) (named_from 0 0 (once [] (fresh_of ranges claims)))
  roots-of-table claims h = named_all (RootsHold f names) 0 0 (once [] (fresh_of ranges claims))
      (once_all (RootsHold f names) [] (fresh_of ranges claims) tt
      (fresh_all (RootsHold f names) ranges claims
      (all_weaken (λ (a : Asserted). RootsHold f names a.tree) (λ (a : Asserted). AllByRecursion (RootsHold f names) (fresh_in ranges a.tree)) (λ a k. roots-in-fresh a.tree k) claims h)))

entry-given : (f : Fraction → Fraction) (script : List Command) (point : List Coordinate) (entry : List ℕ × Tree) → IsRootOf f script point entry → IsGiven f (constants_at [] (constants_of script) point) entry.1
entry-given f script point (name, root at t) h = h
entry-given f script point (name, atomic at l) h = tt
entry-given f script point (name, applied at x ts) h = tt
entry-given f script point (name, quotient at t d) h = tt
entry-given f script point (name, formless at) h = tt

module _ (f : Fraction → Fraction) (bound : Option ℕ) (script : List Command) (point : List Coordinate) (roots : HasRoots f bound script point) where
  abbrev Constants : Names Value
  Constants = constants_at [] (constants_of script) point

  -- f gives each root that stands in an assertion
  pub asserted_roots : AllByRecursion (λ (a : Asserted). RootsHold f (constants_at [] (constants_of script) point) a.tree) (asserted script)
  asserted_roots = given-roots (declared_ranges bound script) f Constants (asserted script)
      (all_weaken (IsRootOf f script point) (λ (entry : List ℕ × Tree). IsGiven f Constants entry.1) (entry-given f script point) (script_table bound script) roots)

  -- and each that stands in a tree of the table
  pub table_roots : AllByRecursion (λ (entry : List ℕ × Tree). RootsHold f (constants_at [] (constants_of script) point) entry.1) (script_table bound script)
  table_roots = roots-of-table (declared_ranges bound script) f Constants (asserted script) asserted_roots

-- ---- what the table holds

-- no `ite` stands in the argument of a root; a quotient is one for which a constant can stand
abbrev pub IsFresh : Ranges → Tree → Type 0
IsFresh ranges (root at t) = holds_choice t ≡ false
IsFresh ranges (quotient at t d) = IsTrue (stands_alone ranges t d)
IsFresh ranges t = ⊥

none-first : (x y : Option Place) → first_place x y ≡ None → (x ≡ None) × (y ≡ None)
none-first None y h = (refl, h)
none-first (Some at) y h = cc

no-choice : (b : Bool) (at : Place) → cond b (Some at) None ≡ None → b ≡ false
no-choice false at h = refl
no-choice true at h = cc

module _ (ranges : Ranges) where
  quotient-fresh : (at : Place) (t d : Tree) (b : Bool) → stands_alone ranges t d ≡ b → AllByRecursion (IsFresh ranges) (cond b (quotient at t d ∷ []) [])
  quotient-fresh at t d true e = (e, tt)
  quotient-fresh at t d false e = tt

  mutual
    fresh-in : (t : Tree) → choice_in_root t ≡ None → AllByRecursion (IsFresh ranges) (fresh_in ranges t)
    fresh-in (atomic at l) h = tt
    fresh-in (applied at x ts) h = all-fresh-in ts h
    fresh-in (root at t) h = let k = none-first (choice_in_root t) (cond (holds_choice t) (Some at) None) h in
        all_join (IsFresh ranges) (fresh_in ranges t) (root at t ∷ []) (fresh-in t k.0) (no-choice (holds_choice t) at k.1, tt)
    fresh-in (quotient at t d) h =
        let k = none-first (choice_in_root t) (choice_in_root d) h in
        let rest = cond (stands_alone ranges t d) (quotient at t d ∷ []) [] in
        all_join (IsFresh ranges) (fresh_in ranges t ++ fresh_in ranges d) rest
        (all_join (IsFresh ranges) (fresh_in ranges t) (fresh_in ranges d) (fresh-in t k.0) (fresh-in d k.1)) (quotient-fresh at t d (stands_alone ranges t d) refl)
    fresh-in (formless at) h = tt

    all-fresh-in : (ts : Trees) → choice_in_roots ts ≡ None → AllByRecursion (IsFresh ranges) (all_fresh ranges ts)
    all-fresh-in no_trees h = tt
    all-fresh-in (more_trees t ts) h = let k = none-first (choice_in_root t) (choice_in_roots ts) h in
        all_join (IsFresh ranges) (fresh_in ranges t) (all_fresh ranges ts) (fresh-in t k.0) (all-fresh-in ts k.1)

  mutual
    no-fresh : (t : Tree) → fresh_place t ≡ None → AllByRecursion (IsFresh ranges) (fresh_in ranges t)
    no-fresh (atomic at l) h = tt
    no-fresh (applied at x ts) h = no-fresh-in ts h
    no-fresh (root at t) h = cc
    no-fresh (quotient at t d) h = cc
    no-fresh (formless at) h = tt

    no-fresh-in : (ts : Trees) → first_fresh ts ≡ None → AllByRecursion (IsFresh ranges) (all_fresh ranges ts)
    no-fresh-in no_trees h = tt
    no-fresh-in (more_trees t ts) h = let k = none-first (fresh_place t) (first_fresh ts) h in
        all_join (IsFresh ranges) (fresh_in ranges t) (all_fresh ranges ts) (no-fresh t k.0) (no-fresh-in ts k.1)

  one-asserted : (b : Bool) (t : Tree) → cond b (fresh_place t) (choice_in_root t) ≡ None → AllByRecursion (IsFresh ranges) (fresh_in ranges t)
  one-asserted true t h = no-fresh t h
  one-asserted false t h = fresh-in t h

  asserted-fresh : (claims : List Asserted) → left_out_of claims ≡ None → AllByRecursion (λ (a : Asserted). AllByRecursion (IsFresh ranges) (fresh_in ranges a.tree)) claims
  asserted-fresh [] h = tt
  asserted-fresh (a ∷ claims) h = let k = none-first (left_out_in a) (left_out_of claims) h in (one-asserted a.is_goal a.tree k.0, asserted-fresh claims k.1)

pub table_fresh : (bound : Option ℕ) (script : List Command) → left_out script ≡ None → AllByRecursion (λ (entry : List ℕ × Tree). IsFresh (declared_ranges bound script) entry.1) (script_table bound script)
table_fresh bound script h =
    let ranges = declared_ranges bound script in
    named_all (IsFresh ranges) 0 0 (once [] (fresh_of ranges (asserted script)))
    (once_all (IsFresh ranges) [] (fresh_of ranges (asserted script)) tt (fresh_all (IsFresh ranges) ranges (asserted script) (asserted-fresh ranges (asserted script) h)))
