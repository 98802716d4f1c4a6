-- Each root and quotient of a script's assertions has an entry in the table, and what is so of each is so of each entry.
use Rattle.std.proofs.Common.{◌≡◌, ℕ, suc, List, [], ◌∷◌, ◌++◌, Bool, true, false, ◌||◌, bytes_eq, cond, Option, Some, None, refl, sym, true≢false}
use Rattle.std.specs.List.{AllByRecursion}
use Rattle.dyadic.proofs.Equal.{both_pass}
use Rattle.script_model.specs.Sexp.{Leaf, numeral, decimal, symbol, reserved, string, keyword}
use Rattle.script_roots.specs.Tree.{Tree, atomic, applied, root, quotient, formless, Trees, no_trees, more_trees}
use Rattle.script_roots.specs.Ranges.{Ranges}
use Rattle.script_roots.specs.Fresh.{Asserted, same_leaf, same_tree, same_trees, stands_alone, fresh_in, all_fresh, fresh_of, has_tree, once, Table, named_from, table_of, name_for}
use Rattle.script_roots.proofs.Table.{all_join, all_split, all_weaken, once_all, named_all, fresh_all, fresh_each}
use Rattle.script_roots.proofs.Plain.{itself}

-- ---- each is in the list of those that are kept once

leaf-itself : (l : Leaf) → same_leaf l l ≡ true
leaf-itself (numeral ds) = itself ds
leaf-itself (decimal ds fs) = both_pass (bytes_eq ds ds) (bytes_eq fs fs) (itself ds) (itself fs)
leaf-itself (symbol x) = itself x
leaf-itself (reserved w) = refl
leaf-itself (string x) = refl
leaf-itself (keyword x) = refl

mutual
  tree-itself : (t : Tree) → same_tree t t ≡ true
  tree-itself (atomic at l) = leaf-itself l
  tree-itself (applied at name ts) = both_pass (bytes_eq name name) (same_trees ts ts) (itself name) (trees-itself ts)
  tree-itself (root at t) = tree-itself t
  tree-itself (quotient at t d) = both_pass (same_tree t t) (same_tree d d) (tree-itself t) (tree-itself d)
  tree-itself (formless at) = refl

  trees-itself : (ts : Trees) → same_trees ts ts ≡ true
  trees-itself no_trees = refl
  trees-itself (more_trees t ts) = both_pass (same_tree t t) (same_trees ts ts) (tree-itself t) (trees-itself ts)

or-left : (a b : Bool) → a ≡ true → a || b ≡ true
or-left true b h = refl
or-left false b h = absurd (true≢false (sym h))

or-right : (a b : Bool) → b ≡ true → a || b ≡ true
or-right true b h = refl
or-right false b h = h

has-first : (t : Tree) (ts us : List Tree) → has_tree t ts ≡ true → has_tree t (ts ++ us) ≡ true
has-first t [] us h = absurd (true≢false (sym h))
has-first t (u ∷ ts) us h = go (same_tree t u) h (has-first t ts us)
  where
    go : (b : Bool) → b || has_tree t ts ≡ true → (has_tree t ts ≡ true → has_tree t (ts ++ us) ≡ true) → b || has_tree t (ts ++ us) ≡ true
    go true h f = refl
    go false h f = f h

has-last : (t : Tree) (ts us : List Tree) → has_tree t us ≡ true → has_tree t (ts ++ us) ≡ true
has-last t [] us h = h
has-last t (u ∷ ts) us h = or-right (same_tree t u) (has_tree t (ts ++ us)) (has-last t ts us h)

has-now : (t u : Tree) (b : Bool) (seen : List Tree) → has_tree t seen ≡ true → has_tree t (cond b seen (seen ++ u ∷ [])) ≡ true
has-now t u true seen h = h
has-now t u false seen h = has-first t seen (u ∷ []) h

has-kept : (t : Tree) (seen rest : List Tree) → has_tree t seen ≡ true → has_tree t (once seen rest) ≡ true
has-kept t seen [] h = h
has-kept t seen (u ∷ rest) h = has-kept t (cond (has_tree u seen) seen (seen ++ u ∷ [])) rest (has-now t u (has_tree u seen) seen h)

has-itself : (t : Tree) (b : Bool) (seen : List Tree) → has_tree t seen ≡ b → has_tree t (cond b seen (seen ++ t ∷ [])) ≡ true
has-itself t true seen e = e
has-itself t false seen e = has-last t seen (t ∷ []) (or-left (same_tree t t) false (tree-itself t))

all-kept : (seen rest : List Tree) → AllByRecursion (λ t. has_tree t (once seen rest) ≡ true) rest
all-kept seen [] = tt
all-kept seen (t ∷ rest) =
    let more = cond (has_tree t seen) seen (seen ++ t ∷ []) in
    (has-kept t more rest (has-itself t (has_tree t seen) seen refl), all-kept more rest)

-- ---- each of these has a name

-- a constant stands for it
abbrev pub HasEntry : Table → Tree → Type 0
HasEntry table t = name_for table t ≡ None → ⊥

first-or-later : (b c : Bool) (name : List ℕ) (o : Option (List ℕ)) → b || c ≡ true → (c ≡ true → o ≡ None → ⊥) → cond b (Some name) o ≡ None → ⊥
first-or-later true c name o h f e = cc
first-or-later false c name o h f e = f h e

has-name : (t : Tree) (r q : ℕ) (us : List Tree) → has_tree t us ≡ true → HasEntry (named_from r q us) t
has-name t r q [] h = absurd (true≢false (sym h))
has-name t r q (root at u ∷ us) h = first-or-later (same_tree t (root at u)) (has_tree t us) _ (name_for (named_from (suc r) q us) t) h (has-name t (suc r) q us)
has-name t r q (atomic at l ∷ us) h = first-or-later (same_tree t (atomic at l)) (has_tree t us) _ (name_for (named_from r (suc q) us) t) h (has-name t r (suc q) us)
has-name t r q (applied at f ts ∷ us) h = first-or-later (same_tree t (applied at f ts)) (has_tree t us) _ (name_for (named_from r (suc q) us) t) h (has-name t r (suc q) us)
has-name t r q (quotient at u d ∷ us) h = first-or-later (same_tree t (quotient at u d)) (has_tree t us) _ (name_for (named_from r (suc q) us) t) h (has-name t r (suc q) us)
has-name t r q (formless at ∷ us) h = first-or-later (same_tree t (formless at)) (has_tree t us) _ (name_for (named_from r (suc q) us) t) h (has-name t r (suc q) us)

-- each root and quotient of the assertions has an entry
pub fresh_covered : (ranges : Ranges) (asked : List Asserted) → AllByRecursion (HasEntry (table_of ranges asked)) (fresh_of ranges asked)
fresh_covered ranges asked =
    all_weaken (λ t. has_tree t (once [] (fresh_of ranges asked)) ≡ true) (HasEntry (table_of ranges asked)) (λ t h. has-name t 0 0 (once [] (fresh_of ranges asked)) h)
    (fresh_of ranges asked) (all-kept [] (fresh_of ranges asked))

-- ---- facts of roots and quotients

module _ (P : Tree → Type 0) where
  -- what is so of each root and quotient is so of each entry
  pub all_entries : (ranges : Ranges) (asked : List Asserted) → AllByRecursion P (fresh_of ranges asked) → AllByRecursion (λ (entry : List ℕ × Tree). P entry.1) (table_of ranges asked)
  all_entries ranges asked h = named_all P 0 0 (once [] (fresh_of ranges asked)) (once_all P [] (fresh_of ranges asked) tt h)

  -- the roots and quotients of a root or quotient are among them

  abbrev pub AllIn : Ranges → Tree → Type 0
  AllIn ranges t = AllByRecursion P (fresh_in ranges t)

  last-quotient : (ranges : Ranges) (b : Bool) (t : Tree) → AllIn ranges t → AllByRecursion (AllIn ranges) (cond b (t ∷ []) [])
  last-quotient ranges true t h = (h, tt)
  last-quotient ranges false t h = tt

  mutual
    pub inner_in : (ranges : Ranges) (t : Tree) → AllIn ranges t → AllByRecursion (AllIn ranges) (fresh_in ranges t)
    inner_in ranges (atomic at l) h = tt
    inner_in ranges (applied at name ts) h = inner-all ranges ts h
    inner_in ranges (root at t) h =
        let k = all_split P (fresh_in ranges t) (root at t ∷ []) h in
        all_join (AllIn ranges) (fresh_in ranges t) (root at t ∷ []) (inner_in ranges t k.0) (h, tt)
    inner_in ranges (quotient at t d) h =
        let last = cond (stands_alone ranges t d) (quotient at t d ∷ []) [] in
        let k = all_split P (fresh_in ranges t ++ fresh_in ranges d) last h in
        let l = all_split P (fresh_in ranges t) (fresh_in ranges d) k.0 in
        all_join (AllIn ranges) (fresh_in ranges t ++ fresh_in ranges d) last
        (all_join (AllIn ranges) (fresh_in ranges t) (fresh_in ranges d) (inner_in ranges t l.0) (inner_in ranges d l.1))
        (last-quotient ranges (stands_alone ranges t d) (quotient at t d) h)
    inner_in ranges (formless at) h = tt

    inner-all : (ranges : Ranges) (ts : Trees) → AllByRecursion P (all_fresh ranges ts) → AllByRecursion (AllIn ranges) (all_fresh ranges ts)
    inner-all ranges no_trees h = tt
    inner-all ranges (more_trees t ts) h =
        let k = all_split P (fresh_in ranges t) (all_fresh ranges ts) h in
        all_join (AllIn ranges) (fresh_in ranges t) (all_fresh ranges ts) (inner_in ranges t k.0) (inner-all ranges ts k.1)

  pub inner_of : (ranges : Ranges) (asked : List Asserted) → AllByRecursion P (fresh_of ranges asked) → AllByRecursion (AllIn ranges) (fresh_of ranges asked)
  inner_of ranges asked h = fresh_all (AllIn ranges) ranges asked
      (all_weaken (λ (a : Asserted). AllIn ranges a.tree) (λ (a : Asserted). AllByRecursion (AllIn ranges) (fresh_in ranges a.tree)) (λ a k. inner_in ranges a.tree k) asked (fresh_each P ranges asked h))
