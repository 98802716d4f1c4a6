-- Trees by their keys.
use Rattle.std.proofs.Common.{◌≡◌, ◌<◌, ◌≤◌, ◌+◌, ℕ, zero, suc, List, [], ◌∷◌, ◌++◌, Bool, true, false, cond, length, get_or, bytes_eq, nat_eq, eqb→eq, Some, None, refl, ap, ap₂, sym, ◌∙◌, subst, arith, true≢false, ◌⊎◌, inl, inr}
use Rattle.std.specs.Prelude.{Option, MatchOption, Result, Ok, Err, IfOk}
use Rattle.std.specs.Map.{lookup}
use Rattle.std.specs.Bool.{passes, Decides}
use Rattle.std.specs.Cmp.Lexicographic.{pointwise}
use Rattle.std.specs.HashMap.{HashMap, IsUnchanged, Updates, get}
use Rattle.std.proofs.lemmas.Bool.{eq-eqb}
use Rattle.std.proofs.lemmas.Cmp.{nat_list_eq_equiv}
use Rattle.std.proofs.lemmas.List.{get_or_append_left, get_or_push, length_push}
use Rattle.std.proofs.lemmas.Slice.Eq.{slice_eq-Decides}
use Rattle.script_roots.specs.Tree.{Tree, trees_of}
use Rattle.script_roots.specs.Fresh.{same_tree, same_trees, same_leaf}
use Rattle.script_roots.proofs.Plain.{same_name}
use Rattle.dyadic.proofs.Equal.{both_true, both_pass}
use Rattle.root_rewriting.specs.Classes.{AreClasses}
use Rattle.root_rewriting.specs.Keys.{Look, numeral, symbol, decimal, applied, root, quotient, key_view, atom_key, class_at, classes_at, node_key, same_key, Classed, AreKeyed, IsNextClass}
use Rattle.root_rewriting.specs.Nodes.{AreBelow, IsBelow, ShowsNode, atom_of, node_tree, parts_at, tree_at}
use Rattle.root_rewriting.specs.declared.classes.Key.{Key}
use Rattle.root_rewriting.specs.declared.classes.Key.TheVariants as keys
use Rattle.root_rewriting.specs.declared.unfold.trees.Atom.{Atom}
use Rattle.root_rewriting.specs.declared.unfold.trees.Atom.TheVariants as atoms
use Rattle.root_rewriting.specs.declared.unfold.trees.Node.{Node}
use Rattle.root_rewriting.specs.declared.unfold.trees.Node.TheVariants as nodes
use Rattle.root_rewriting.proofs.Alike.{class_found, class_new, class_same, node_more, shown}
use Rattle.root_rewriting.proofs.Same.{same_itself}

-- ---- keys that are equal look the same

numbers-decide : (xs ys : List ℕ) → Decides (pointwise nat_eq xs ys) (xs ≡ ys)
numbers-decide xs ys = slice_eq-Decides {E = nat_eq} (λ a b. (λ h. eqb→eq a b (passes _ h), eq-eqb a b)) xs ys (pointwise nat_eq xs ys) refl

name-same : (x y : List ℕ) → x ≡ y → bytes_eq x y ≡ true
name-same x y h = ap (bytes_eq x) (sym h) ∙ nat_list_eq_equiv.refl x

pub same_view : (a b : Key) → same_key a b ≡ true → key_view a ≡ key_view b
same_view (keys.Numeral ds) (keys.Numeral es) h = ap numeral (same_name ds.now es.now h)
same_view (keys.Decimal ds fs) (keys.Decimal es gs) h =
    let e = both_true (bytes_eq ds.now es.now) (bytes_eq fs.now gs.now) h in ap₂ decimal (same_name ds.now es.now e.0) (same_name fs.now gs.now e.1)
same_view (keys.Symbol x) (keys.Symbol y) h = ap symbol (same_name x.now y.now h)
same_view (keys.Applied x cs) (keys.Applied y ds) h =
    let e = both_true (bytes_eq x.now y.now) (pointwise nat_eq cs.items ds.items) h in ap₂ applied (same_name x.now y.now e.0) ((numbers-decide cs.items ds.items).0 e.1)
same_view (keys.Root c) (keys.Root d) h = ap root (eqb→eq c d (passes _ h))
same_view (keys.Quotient c d) (keys.Quotient e f) h = let g = both_true (nat_eq c e) (nat_eq d f) h in ap₂ quotient (eqb→eq c e (passes _ g.0)) (eqb→eq d f (passes _ g.1))
same_view keys.Formless keys.Formless h = refl
same_view _ _ h = cc

pub view_same : (a b : Key) → key_view a ≡ key_view b → same_key a b ≡ true
view_same (keys.Numeral ds) (keys.Numeral es) h = name-same ds.now es.now cc
view_same (keys.Decimal ds fs) (keys.Decimal es gs) h = both_pass (bytes_eq ds.now es.now) (bytes_eq fs.now gs.now) (name-same ds.now es.now cc) (name-same fs.now gs.now cc)
view_same (keys.Symbol x) (keys.Symbol y) h = name-same x.now y.now cc
view_same (keys.Applied x cs) (keys.Applied y ds) h = both_pass (bytes_eq x.now y.now) (pointwise nat_eq cs.items ds.items) (name-same x.now y.now cc) ((numbers-decide cs.items ds.items).1 cc)
view_same (keys.Root c) (keys.Root d) h = eq-eqb c d cc
view_same (keys.Quotient c d) (keys.Quotient e f) h = both_pass (nat_eq c e) (nat_eq d f) (eq-eqb c e cc) (eq-eqb d f cc)
view_same keys.Formless keys.Formless h = refl
view_same _ _ h = cc

-- ---- trees that are the same have keys that look the same

atoms-same : (a b : Atom) → same_leaf (atom_of a) (atom_of b) ≡ true → atom_key a ≡ atom_key b
atoms-same (atoms.Numeral ds) (atoms.Numeral es) h = ap numeral (same_name ds.now es.now h)
atoms-same (atoms.Decimal ds fs) (atoms.Decimal es gs) h =
    let e = both_true (bytes_eq ds.now es.now) (bytes_eq fs.now gs.now) h in ap₂ decimal (same_name ds.now es.now e.0) (same_name fs.now gs.now e.1)
atoms-same (atoms.Symbol x) (atoms.Symbol y) h = ap symbol (same_name x.now y.now h)
atoms-same _ _ h = absurd (true≢false (sym h))

same-atoms : (a b : Atom) → atom_key a ≡ atom_key b → same_leaf (atom_of a) (atom_of b) ≡ true
same-atoms (atoms.Numeral ds) (atoms.Numeral es) h = name-same ds.now es.now cc
same-atoms (atoms.Decimal ds fs) (atoms.Decimal es gs) h = both_pass (bytes_eq ds.now es.now) (bytes_eq fs.now gs.now) (name-same ds.now es.now cc) (name-same fs.now gs.now cc)
same-atoms (atoms.Symbol x) (atoms.Symbol y) h = name-same x.now y.now cc
same-atoms _ _ h = cc

-- the key of a tree without parts
abbrev is-atom : Look → Bool
is-atom (numeral ds) = true
is-atom (decimal ds fs) = true
is-atom (symbol x) = true
is-atom _ = false

atom-is : (a : Atom) → is-atom (atom_key a) ≡ true
atom-is (atoms.Numeral ds) = refl
atom-is (atoms.Decimal ds fs) = refl
atom-is (atoms.Symbol x) = refl

no-atom : {A : Type 0} (a : Atom) (k : Look) → is-atom k ≡ false → atom_key a ≡ k → A
no-atom a k e h = absurd (true≢false (sym (atom-is a) ∙ ap is-atom h ∙ e))

module _ (ts : List Tree) (cs : List ℕ) (c : AreClasses ts cs) where
  one-class : (x y : ℕ) → x < length cs → y < length cs → same_tree (tree_at ts x) (tree_at ts y) ≡ true → class_at cs x ≡ class_at cs y
  one-class x y hx hy h = eqb→eq (class_at cs x) (class_at cs y) (passes _ (c.same x y hx hy ∙ h))

  parts-classes : (xs ys : List ℕ) → AreBelow (length cs) xs → AreBelow (length cs) ys → same_trees (trees_of (parts_at ts xs)) (trees_of (parts_at ts ys)) ≡ true → classes_at cs xs ≡ classes_at cs ys
  parts-classes [] [] hx hy h = refl
  parts-classes [] (y ∷ ys) hx hy h = absurd (true≢false (sym h))
  parts-classes (x ∷ xs) [] hx hy h = absurd (true≢false (sym h))
  parts-classes (x ∷ xs) (y ∷ ys) hx hy h =
      let e = both_true (same_tree (tree_at ts x) (tree_at ts y)) (same_trees (trees_of (parts_at ts xs)) (trees_of (parts_at ts ys))) h in
      ap₂ (λ d ds. d ∷ ds) (one-class x y hx.0 hy.0 e.0) (parts-classes xs ys hx.1 hy.1 e.1)

  classes-parts : (xs ys : List ℕ) → AreBelow (length cs) xs → AreBelow (length cs) ys → classes_at cs xs ≡ classes_at cs ys → same_trees (trees_of (parts_at ts xs)) (trees_of (parts_at ts ys)) ≡ true
  classes-parts [] [] hx hy h = refl
  classes-parts [] (y ∷ ys) hx hy h = cc
  classes-parts (x ∷ xs) [] hx hy h = cc
  classes-parts (x ∷ xs) (y ∷ ys) hx hy h =
      both_pass (same_tree (tree_at ts x) (tree_at ts y)) (same_trees (trees_of (parts_at ts xs)) (trees_of (parts_at ts ys))) (class_same ts cs c x y hx.0 hy.0 cc) (classes-parts xs ys hx.1 hy.1 cc)

  pub tree_key : (a b : Node) → IsBelow (length cs) a → IsBelow (length cs) b → same_tree (node_tree ts a) (node_tree ts b) ≡ true → node_key cs a ≡ node_key cs b
  tree_key (nodes.Atomic at a) (nodes.Atomic at' b) ha hb h = atoms-same a b h
  tree_key (nodes.Applied at x ks) (nodes.Applied at' y ls) ha hb h =
      let e = both_true (bytes_eq x.now y.now) (same_trees (trees_of (parts_at ts ks.items)) (trees_of (parts_at ts ls.items))) h in
      ap₂ applied (same_name x.now y.now e.0) (parts-classes ks.items ls.items ha hb e.1)
  tree_key (nodes.Root at k) (nodes.Root at' l) ha hb h = ap root (one-class k l ha hb h)
  tree_key (nodes.Quotient at k d) (nodes.Quotient at' l e) ha hb h =
      let g = both_true (same_tree (tree_at ts k) (tree_at ts l)) (same_tree (tree_at ts d) (tree_at ts e)) h in
      ap₂ quotient (one-class k l ha.0 hb.0 g.0) (one-class d e ha.1 hb.1 g.1)
  tree_key (nodes.Formless at) (nodes.Formless at') ha hb h = refl
  tree_key _ _ ha hb h = absurd (true≢false (sym h))

  pub key_tree : (a b : Node) → IsBelow (length cs) a → IsBelow (length cs) b → node_key cs a ≡ node_key cs b → same_tree (node_tree ts a) (node_tree ts b) ≡ true
  key_tree (nodes.Atomic at a) (nodes.Atomic at' b) ha hb h = same-atoms a b h
  key_tree (nodes.Applied at x ks) (nodes.Applied at' y ls) ha hb h =
      both_pass (bytes_eq x.now y.now) (same_trees (trees_of (parts_at ts ks.items)) (trees_of (parts_at ts ls.items))) (name-same x.now y.now cc) (classes-parts ks.items ls.items ha hb cc)
  key_tree (nodes.Root at k) (nodes.Root at' l) ha hb h = class_same ts cs c k l ha hb cc
  key_tree (nodes.Quotient at k d) (nodes.Quotient at' l e) ha hb h =
      both_pass (same_tree (tree_at ts k) (tree_at ts l)) (same_tree (tree_at ts d) (tree_at ts e)) (class_same ts cs c k l ha.0 hb.0 cc) (class_same ts cs c d e ha.1 hb.1 cc)
  key_tree (nodes.Formless at) (nodes.Formless at') ha hb h = refl
  key_tree (nodes.Atomic at a) (nodes.Applied at' y ls) ha hb h = no-atom a _ refl h
  key_tree (nodes.Atomic at a) (nodes.Root at' l) ha hb h = no-atom a _ refl h
  key_tree (nodes.Atomic at a) (nodes.Quotient at' l e) ha hb h = no-atom a _ refl h
  key_tree (nodes.Atomic at a) (nodes.Formless at') ha hb h = no-atom a _ refl h
  key_tree (nodes.Applied at x ks) (nodes.Atomic at' b) ha hb h = no-atom b _ refl (sym h)
  key_tree (nodes.Root at k) (nodes.Atomic at' b) ha hb h = no-atom b _ refl (sym h)
  key_tree (nodes.Quotient at k d) (nodes.Atomic at' b) ha hb h = no-atom b _ refl (sym h)
  key_tree (nodes.Formless at) (nodes.Atomic at' b) ha hb h = no-atom b _ refl (sym h)
  key_tree _ _ ha hb h = cc

-- ---- a class more

module _ (cs : List ℕ) (class : ℕ) where
  class-stays : (k : ℕ) → k < length cs → class_at (cs ++ (class ∷ [])) k ≡ class_at cs k
  class-stays k h = get_or_append_left cs (class ∷ []) 0 k h

  classes-stay : (ks : List ℕ) → AreBelow (length cs) ks → classes_at (cs ++ (class ∷ [])) ks ≡ classes_at cs ks
  classes-stay [] h = refl
  classes-stay (k ∷ ks) h = ap₂ (λ d ds. d ∷ ds) (class-stays k h.0) (classes-stay ks h.1)

  key-stays : (n : Node) → IsBelow (length cs) n → node_key (cs ++ (class ∷ [])) n ≡ node_key cs n
  key-stays (nodes.Atomic at a) h = refl
  key-stays (nodes.Applied at x ks) h = ap (applied x.now) (classes-stay ks.items h)
  key-stays (nodes.Root at k) h = ap root (class-stays k h)
  key-stays (nodes.Quotient at k d) h = ap₂ quotient (class-stays k h.0) (class-stays d h.1)
  key-stays (nodes.Formless at) h = refl

last-or-before : (k n : ℕ) → k < n + 1 → (k < n) ⊎ (k ≡ n)
last-or-before zero zero h = inr refl
last-or-before zero (suc n) h = inl (omega arith)
last-or-before (suc k) zero h = absurd (omega (arith, h))
last-or-before (suc k) (suc n) h = elim (last-or-before k n (omega (arith, h))) [
  | inl e ↦ inl (omega (arith, e))
  | inr e ↦ inr (ap suc e)
]

some-same : (c d : ℕ) → Some c ≡ Some d → c ≡ d
some-same c d h = cc

pub keyed_none : {S : Type 0} (ts : List Tree) (m : HashMap Key ℕ S) → ((q : Key) → get same_key m q ≡ None) → AreKeyed ts [] m
keyed_none ts m none = record {
  shown = λ k h. absurd (omega (arith, h));
  known = λ k n q h. absurd (omega (arith, h));
  found = λ q c h. let e = none q in cc;
}

module _ {S : Type 0} (ts : List Tree) (cs : List ℕ) (c : AreClasses ts cs) (old new : HashMap Key ℕ S) (keyed : AreKeyed ts cs old) (node : Node) (here : ShowsNode ts (length cs) node) (key : Key) (is : key_view key ≡ node_key cs node) where
  -- what is below a tree that is known is known
  below : (k : ℕ) (n : Node) → k < length cs → ShowsNode ts k n → IsBelow (length cs) n
  below k n h s = node_more k (length cs) n (omega (arith, h)) s.1

  -- another node of the same tree has the same key
  key-again : (n : Node) → ShowsNode ts (length cs) n → node_key cs n ≡ key_view key
  key-again n s = tree_key ts cs c n node s.1 here.1 (ap₂ same_tree (sym (shown ts (length cs) n s)) (sym (shown ts (length cs) node here)) ∙ same_itself (tree_at ts (length cs))) ∙ sym is

  -- ---- the class

  alike : (k : ℕ) (n : Node) → k < length cs → ShowsNode ts k n → node_key cs n ≡ key_view key → same_tree (tree_at ts k) (tree_at ts (length cs)) ≡ true
  alike k n h s e = ap₂ same_tree (shown ts k n s) (shown ts (length cs) node here) ∙ key_tree ts cs c n node (below k n h s) here.1 (e ∙ is)

  apart : get same_key old key ≡ None → (k : ℕ) → k < length cs → same_tree (tree_at ts k) (tree_at ts (length cs)) ≡ false
  apart none k h = by (same_tree (tree_at ts k) (tree_at ts (length cs))) refl
    where
      by : (b : Bool) → same_tree (tree_at ts k) (tree_at ts (length cs)) ≡ b → same_tree (tree_at ts k) (tree_at ts (length cs)) ≡ false
      by false e = e
      by true e =
          let s = keyed.shown k h in
          let same = tree_key ts cs c s.0 node (below k s.0 h s.1) here.1 (ap₂ same_tree (sym (shown ts k s.0 s.1)) (sym (shown ts (length cs) node here)) ∙ e) in
          let g = keyed.known k s.0 key h s.1 (is ∙ sym same) in
          cc

  module _ (class : ℕ) where
    abbrev IsNew : Type 0
    IsNew = (class ≡ length cs) × Updates same_key old new key (Some (length cs))

    abbrev IsOld : ℕ → Type 0
    IsOld d = (class ≡ d) × IsUnchanged old new

    pub class_below : Classed old new key (length cs) class → class ≤ length cs
    class_below h = by (get same_key old key) refl h
      where
        by : (o : Option ℕ) → get same_key old key ≡ o → MatchOption o IsNew IsOld → class ≤ length cs
        by None e g = omega (arith, g.0)
        by (Some d) e g = let f = keyed.found key d e in let l = c.below f.0 f.2 in omega (arith, g.0, f.5, l, f.2)

    pub class_is : Classed old new key (length cs) class → (k : ℕ) → k < length cs → nat_eq (get_or cs k 0) class ≡ same_tree (tree_at ts k) (tree_at ts (length cs))
    class_is h = by (get same_key old key) refl h
      where
        by : (o : Option ℕ) → get same_key old key ≡ o → MatchOption o IsNew IsOld → (k : ℕ) → k < length cs → nat_eq (get_or cs k 0) class ≡ same_tree (tree_at ts k) (tree_at ts (length cs))
        by None e g k lt = ap (nat_eq (get_or cs k 0)) g.0 ∙ class_new ts cs c (tree_at ts (length cs)) (apart e) k lt
        by (Some d) e g k lt =
            let f = keyed.found key d e in
            ap (nat_eq (get_or cs k 0)) (g.0 ∙ sym f.5) ∙ class_found ts cs c (tree_at ts (length cs)) f.0 f.2 (alike f.0 f.1 f.2 f.3 (sym f.4)) k lt

    -- ---- the keys of one tree more

    abbrev all : List ℕ
    all = cs ++ (class ∷ [])

    abbrev Found : Key → ℕ → Type 0
    Found q d = (k : ℕ) × (n : Node) × (k < length all) × ShowsNode ts k n × (key_view q ≡ node_key all n) × (class_at all k ≡ d)

    more : length all ≡ length cs + 1
    more = length_push cs class

    stays : (q : Key) (d : ℕ) → get same_key old q ≡ Some d → Found q d
    stays q d e =
        let f = keyed.found q d e in
        (f.0, f.1, omega (arith, f.2, more), f.3, f.4 ∙ sym (key-stays cs class f.1 (below f.0 f.1 f.2 f.3)), class-stays cs class f.0 f.2 ∙ f.5)

    last-class : (k : ℕ) → k ≡ length cs → class_at all k ≡ class
    last-class k e = get_or_push cs class 0 k (sym e)

    -- the key is new
    module _ (none : get same_key old key ≡ None) (g : IsNew) where
      old-known : (k : ℕ) (n : Node) (q : Key) (t : Bool) → same_key key q ≡ t → k < length cs → ShowsNode ts k n → key_view q ≡ node_key cs n → get same_key new q ≡ Some (class_at cs k)
      old-known k n q true e h s v = let f = keyed.known k n key h s (same_view key q e ∙ v) in cc
      old-known k n q false e h s v = g.1.0 q ∙ ap (λ b. cond b (Some (length cs)) (get same_key old q)) e ∙ keyed.known k n q h s v

      new-known : (q : Key) → key_view q ≡ key_view key → get same_key new q ≡ Some class
      new-known q v = g.1.0 q ∙ ap (λ b. cond b (Some (length cs)) (get same_key old q)) (view_same key q (sym v)) ∙ ap (λ d. Some d) (sym g.0)

      new-found : (q : Key) (d : ℕ) (t : Bool) → same_key key q ≡ t → get same_key new q ≡ Some d → Found q d
      new-found q d true e h =
          let at = some-same (length cs) d (sym (g.1.0 q ∙ ap (λ b. cond b (Some (length cs)) (get same_key old q)) e) ∙ h) in (
            length cs,
            node,
            omega (arith, more),
            here,
            sym (same_view key q e) ∙ is ∙ sym (key-stays cs class node here.1),
            last-class (length cs) refl ∙ g.0 ∙ at,
          )
      new-found q d false e h = stays q d (sym (g.1.0 q ∙ ap (λ b. cond b (Some (length cs)) (get same_key old q)) e) ∙ h)

    -- the key has a class
    module _ (d : ℕ) (some : get same_key old key ≡ Some d) (g : IsOld d) where
      unchanged : (q : Key) → get same_key new q ≡ get same_key old q
      unchanged q = ap (lookup (same_key q)) g.1

      again-known : (q : Key) → key_view q ≡ key_view key → get same_key new q ≡ Some class
      again-known q v =
          let f = keyed.found key d some in
          unchanged q ∙ keyed.known f.0 f.1 q f.2 f.3 (v ∙ f.4) ∙ ap (λ x. Some x) (f.5 ∙ sym g.0)

    known-before : (o : Option ℕ) → get same_key old key ≡ o → MatchOption o IsNew IsOld → (k : ℕ) (n : Node) (q : Key) → k < length cs → ShowsNode ts k n → key_view q ≡ node_key cs n → get same_key new q ≡ Some (class_at cs k)
    known-before None e g k n q h s v = old-known e g k n q (same_key key q) refl h s v
    known-before (Some d) e g k n q h s v = unchanged d e g q ∙ keyed.known k n q h s v

    known-last : (o : Option ℕ) → get same_key old key ≡ o → MatchOption o IsNew IsOld → (q : Key) → key_view q ≡ key_view key → get same_key new q ≡ Some class
    known-last None e g q v = new-known e g q v
    known-last (Some d) e g q v = again-known d e g q v

    found-now : (o : Option ℕ) → get same_key old key ≡ o → MatchOption o IsNew IsOld → (q : Key) (d : ℕ) → get same_key new q ≡ Some d → Found q d
    found-now None e g q d h = new-found e g q d (same_key key q) refl h
    found-now (Some b) e g q d h = stays q d (sym (unchanged b e g q) ∙ h)

    pub keyed_more : Classed old new key (length cs) class → AreKeyed ts all new
    keyed_more h = record {
      shown = λ k lt. shown-at k (last-or-before k (length cs) (omega (arith, lt, more)));
      known = λ k n q lt s v. known-at k n q (last-or-before k (length cs) (omega (arith, lt, more))) s v;
      found = found-now (get same_key old key) refl h;
    }
      where
        shown-at : (k : ℕ) → (k < length cs) ⊎ (k ≡ length cs) → (n : Node) × ShowsNode ts k n
        shown-at k (inl lt) = keyed.shown k lt
        shown-at k (inr e) = (node, subst (λ (j : ℕ). ShowsNode ts j node) (sym e) here)

        known-at : (k : ℕ) (n : Node) (q : Key) → (k < length cs) ⊎ (k ≡ length cs) → ShowsNode ts k n → key_view q ≡ node_key all n → get same_key new q ≡ Some (class_at all k)
        known-at k n q (inl lt) s v =
            known-before (get same_key old key) refl h k n q lt s (v ∙ key-stays cs class n (below k n lt s)) ∙ ap (λ d. Some d) (sym (class-stays cs class k lt))
        known-at k n q (inr e) s v =
            let s' = subst (λ (j : ℕ). ShowsNode ts j n) e s in
            known-last (get same_key old key) refl h q (v ∙ key-stays cs class n s'.1 ∙ key-again n s') ∙ ap (λ d. Some d) (sym (last-class k e))

    pub next_is : Classed old new key (length cs) class → IsNextClass ts cs new class
    next_is h = record { below = class_below h; same = class_is h; keyed = keyed_more h }

pub next_ok : {S E : Type 0} (ts : List Tree) (cs : List ℕ) (c : AreClasses ts cs) (old new : HashMap Key ℕ S) (keyed : AreKeyed ts cs old) (node : Node) (here : ShowsNode ts (length cs) node) (key : Key) (is : key_view key ≡ node_key cs node)
    (r : Result ℕ E) → IfOk r (Classed old new key (length cs)) → IfOk r (IsNextClass ts cs new)
next_ok ts cs c old new keyed node here key is (Ok class) h = next_is ts cs c old new keyed node here key is class h
next_ok ts cs c old new keyed node here key is (Err e) h = tt

pub keyed_begins : {S : Type 0} (ts : List Tree) (cs : List ℕ) (m : HashMap Key ℕ S) → cs ≡ [] → m.entries ≡ [] → AreKeyed ts cs m
keyed_begins ts cs m e h = subst (λ (xs : List ℕ). AreKeyed ts xs m) (sym e) (keyed_none ts m (λ q. ap (lookup (same_key q)) h))

pub keyed_pushed : {S : Type 0} (ts : List Tree) (cs ds es : List ℕ) (class : ℕ) (m : HashMap Key ℕ S) → ds ≡ cs → es ≡ cs ++ (class ∷ []) → AreKeyed ts (ds ++ (class ∷ [])) m → AreKeyed ts es m
keyed_pushed ts cs ds es class m e is h = subst (λ (xs : List ℕ). AreKeyed ts xs m) (sym (is ∙ ap (λ xs. xs ++ (class ∷ [])) (sym e))) h
