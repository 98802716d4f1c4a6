-- Trees that are the same but for their places.
use Rattle.std.proofs.Common.{◌≡◌, ℕ, List, [], true, ◌&&◌, bytes_eq, refl, ap, ap₂, sym, ◌∙◌, true≢false}
use Rattle.std.proofs.lemmas.Cmp.{nat_list_eq_equiv}
use Rattle.script_model.specs.Sexp.{Place, Leaf, numeral, decimal, symbol, reserved, string, keyword, bang}
use Rattle.script_roots.specs.Tree.{Tree, atomic, applied, root, quotient, formless, Trees, no_trees, more_trees}
use Rattle.script_roots.specs.Fresh.{same_leaf, same_tree, same_trees}
use Rattle.script_roots.proofs.Plain.{same_name}
use Rattle.dyadic.proofs.Equal.{both_true}

-- ---- without places

abbrev nowhere : Place
nowhere = record { line = 0; column = 0 }

abbrev plain_leaf : Leaf → Leaf
plain_leaf (numeral ds) = numeral ds
plain_leaf (decimal ds fs) = decimal ds fs
plain_leaf (symbol x) = symbol x
plain_leaf (reserved w) = reserved bang
plain_leaf (string s) = string []
plain_leaf (keyword s) = keyword []

abbrev mutual
  plain : Tree → Tree
  plain (atomic at l) = atomic nowhere (plain_leaf l)
  plain (applied at x ts) = applied nowhere x (plains ts)
  plain (root at t) = root nowhere (plain t)
  plain (quotient at t d) = quotient nowhere (plain t) (plain d)
  plain (formless at) = formless nowhere

  plains : Trees → Trees
  plains no_trees = no_trees
  plains (more_trees t ts) = more_trees (plain t) (plains ts)

leaf-plain : (l m : Leaf) → same_leaf l m ≡ same_leaf (plain_leaf l) (plain_leaf m)
leaf-plain (numeral ds) (numeral es) = refl
leaf-plain (decimal ds fs) (decimal es gs) = refl
leaf-plain (symbol x) (symbol y) = refl
leaf-plain (reserved w) (reserved v) = refl
leaf-plain (string s) (string t) = refl
leaf-plain (keyword s) (keyword t) = refl
leaf-plain _ _ = refl

mutual
  tree-plain : (t u : Tree) → same_tree t u ≡ same_tree (plain t) (plain u)
  tree-plain (atomic at l) (atomic at' m) = leaf-plain l m
  tree-plain (applied at x ts) (applied at' y us) = ap (λ b. bytes_eq x y && b) (trees-plain ts us)
  tree-plain (root at t) (root at' u) = tree-plain t u
  tree-plain (quotient at t d) (quotient at' u e) = ap₂ (λ a b. a && b) (tree-plain t u) (tree-plain d e)
  tree-plain (formless at) (formless at') = refl
  tree-plain _ _ = refl

  trees-plain : (ts us : Trees) → same_trees ts us ≡ same_trees (plains ts) (plains us)
  trees-plain no_trees no_trees = refl
  trees-plain (more_trees t ts) (more_trees u us) = ap₂ (λ a b. a && b) (tree-plain t u) (trees-plain ts us)
  trees-plain _ _ = refl

-- ---- trees that are the same are equal without places

leaf-same : (l m : Leaf) → same_leaf l m ≡ true → plain_leaf l ≡ plain_leaf m
leaf-same (numeral ds) (numeral es) h = ap numeral (same_name ds es h)
leaf-same (decimal ds fs) (decimal es gs) h =
    let k = both_true (bytes_eq ds es) (bytes_eq fs gs) h in ap₂ (λ xs ys. decimal xs ys) (same_name ds es k.0) (same_name fs gs k.1)
leaf-same (symbol x) (symbol y) h = ap symbol (same_name x y h)
leaf-same (reserved w) (reserved v) h = refl
leaf-same (string s) (string t) h = refl
leaf-same (keyword s) (keyword t) h = refl
leaf-same _ _ h = absurd (true≢false (sym h))

mutual
  tree-same : (t u : Tree) → same_tree t u ≡ true → plain t ≡ plain u
  tree-same (atomic at l) (atomic at' m) h = ap (atomic nowhere) (leaf-same l m h)
  tree-same (applied at x ts) (applied at' y us) h =
      let k = both_true (bytes_eq x y) (same_trees ts us) h in ap₂ (λ z vs. applied nowhere z vs) (same_name x y k.0) (trees-same ts us k.1)
  tree-same (root at t) (root at' u) h = ap (root nowhere) (tree-same t u h)
  tree-same (quotient at t d) (quotient at' u e) h =
      let k = both_true (same_tree t u) (same_tree d e) h in ap₂ (λ a b. quotient nowhere a b) (tree-same t u k.0) (tree-same d e k.1)
  tree-same (formless at) (formless at') h = refl
  tree-same _ _ h = absurd (true≢false (sym h))

  trees-same : (ts us : Trees) → same_trees ts us ≡ true → plains ts ≡ plains us
  trees-same no_trees no_trees h = refl
  trees-same (more_trees t ts) (more_trees u us) h =
      let k = both_true (same_tree t u) (same_trees ts us) h in ap₂ (λ a bs. more_trees a bs) (tree-same t u k.0) (trees-same ts us k.1)
  trees-same _ _ h = absurd (true≢false (sym h))

-- ---- an equivalence

-- where two trees are the same, the same trees are the same as either
pub same_left : (t u v : Tree) → same_tree t u ≡ true → same_tree t v ≡ same_tree u v
same_left t u v h = tree-plain t v ∙ ap (λ x. same_tree x (plain v)) (tree-same t u h) ∙ sym (tree-plain u v)

pub same_right : (t u v : Tree) → same_tree u v ≡ true → same_tree t u ≡ same_tree t v
same_right t u v h = tree-plain t u ∙ ap (same_tree (plain t)) (tree-same u v h) ∙ sym (tree-plain t v)

name-itself : (x : List ℕ) → bytes_eq x x ≡ true
name-itself x = nat_list_eq_equiv.refl x

leaf-itself : (l : Leaf) → same_leaf l l ≡ true
leaf-itself (numeral ds) = name-itself ds
leaf-itself (decimal ds fs) = ap₂ (λ a b. a && b) (name-itself ds) (name-itself fs)
leaf-itself (symbol x) = name-itself x
leaf-itself (reserved w) = refl
leaf-itself (string s) = refl
leaf-itself (keyword s) = refl

mutual
  pub same_itself : (t : Tree) → same_tree t t ≡ true
  same_itself (atomic at l) = leaf-itself l
  same_itself (applied at x ts) = ap₂ (λ a b. a && b) (name-itself x) (trees-itself ts)
  same_itself (root at t) = same_itself t
  same_itself (quotient at t d) = ap₂ (λ a b. a && b) (same_itself t) (same_itself d)
  same_itself (formless at) = refl

  trees-itself : (ts : Trees) → same_trees ts ts ≡ true
  trees-itself no_trees = refl
  trees-itself (more_trees t ts) = ap₂ (λ a b. a && b) (same_itself t) (trees-itself ts)

name-back : (x y : List ℕ) → bytes_eq x y ≡ bytes_eq y x
name-back x y = nat_list_eq_equiv.symm x y

leaf-back : (l m : Leaf) → same_leaf l m ≡ same_leaf m l
leaf-back (numeral ds) (numeral es) = name-back ds es
leaf-back (decimal ds fs) (decimal es gs) = ap₂ (λ a b. a && b) (name-back ds es) (name-back fs gs)
leaf-back (symbol x) (symbol y) = name-back x y
leaf-back (reserved w) (reserved v) = refl
leaf-back (string s) (string t) = refl
leaf-back (keyword s) (keyword t) = refl
leaf-back _ _ = refl

mutual
  pub same_back : (t u : Tree) → same_tree t u ≡ same_tree u t
  same_back (atomic at l) (atomic at' m) = leaf-back l m
  same_back (applied at x ts) (applied at' y us) = ap₂ (λ a b. a && b) (name-back x y) (trees-back ts us)
  same_back (root at t) (root at' u) = same_back t u
  same_back (quotient at t d) (quotient at' u e) = ap₂ (λ a b. a && b) (same_back t u) (same_back d e)
  same_back (formless at) (formless at') = refl
  same_back _ _ = refl

  trees-back : (ts us : Trees) → same_trees ts us ≡ same_trees us ts
  trees-back no_trees no_trees = refl
  trees-back (more_trees t ts) (more_trees u us) = ap₂ (λ a b. a && b) (same_back t u) (trees-back ts us)
  trees-back _ _ = refl
