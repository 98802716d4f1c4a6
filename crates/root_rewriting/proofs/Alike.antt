-- Classes of trees.
use Rattle.std.proofs.Common.{◌≡◌, ◌<◌, ◌≤◌, ◌+◌, ℕ, zero, suc, List, [], ◌∷◌, ◌++◌, Bool, true, false, length, get_or, refl, ap, ap₂, sym, ◌∙◌, subst, arith, ◌⊎◌, inl, inr}
use Rattle.std.specs.Prelude.{nat_eq}
use Rattle.std.proofs.lemmas.Bool.{eq-eqb, eqb-true}
use Rattle.std.proofs.lemmas.Cmp.{nat_eq_equiv}
use Rattle.std.proofs.lemmas.List.{get_or_append_left, get_or_push, length_push}
use Rattle.script_roots.specs.Tree.{Tree}
use Rattle.script_roots.specs.Fresh.{same_tree}
use Rattle.root_rewriting.specs.Nodes.{AreBelow, IsBelow, ShowsNode, node_tree, tree_at}
use Rattle.root_rewriting.specs.declared.unfold.trees.Node.{Node}
use Rattle.root_rewriting.specs.declared.unfold.trees.Node.TheVariants as nodes
use Rattle.root_rewriting.proofs.Arena.{tree_got}
use Rattle.root_rewriting.specs.Classes.{AreClasses}
use Rattle.root_rewriting.proofs.Same.{same_back, same_itself, same_right}

pub unequal : (a b : ℕ) → (a ≡ b → ⊥) → nat_eq a b ≡ false
unequal a b ne = go (nat_eq a b) refl
  where
    go : (v : Bool) → nat_eq a b ≡ v → nat_eq a b ≡ false
    go true h = absurd (ne (eqb-true a b h))
    go false h = h

-- ---- nodes

parts-more : (m n : ℕ) (ks : List ℕ) → m ≤ n → AreBelow m ks → AreBelow n ks
parts-more m n [] le h = tt
parts-more m n (k ∷ ks) le h = let lt : k < m = h.0 in (omega arith, parts-more m n ks le h.1)

pub node_more : (m n : ℕ) (node : Node) → m ≤ n → IsBelow m node → IsBelow n node
node_more m n (nodes.Atomic at a) le h = tt
node_more m n (nodes.Applied at name ks) le h = parts-more m n ks.items le h
node_more m n (nodes.Root at k) le h = omega arith
node_more m n (nodes.Quotient at k d) le h = let a : k < m = h.0 in let b : d < m = h.1 in (omega arith, omega arith)
node_more m n (nodes.Formless at) le h = tt

pub part_within : (n : ℕ) (ks : List ℕ) (k : ℕ) → AreBelow n ks → k < length ks → get_or ks k 0 < n
part_within n [] k h lt = absurd (omega arith)
part_within n (i ∷ ks) zero h lt = h.0
part_within n (i ∷ ks) (suc k) h lt = part_within n ks k h.1 (omega arith)

pub shown : (ts : List Tree) (at : ℕ) (node : Node) → ShowsNode ts at node → tree_at ts at ≡ node_tree ts node
shown ts at node h = tree_got ts at (node_tree ts node) h.0

-- ---- the trees of parts

module _ (ts : List Tree) (cs : List ℕ) (c : AreClasses ts cs) where
  abbrev class : ℕ → ℕ
  class k = get_or cs k 0

  pub class_same : (x y : ℕ) → x < length cs → y < length cs → class x ≡ class y → same_tree (tree_at ts x) (tree_at ts y) ≡ true
  class_same x y hx hy e = sym (c.same x y hx hy) ∙ eq-eqb (class x) (class y) e

-- ---- one class more

module _ (ts : List Tree) (cs : List ℕ) (c : AreClasses ts cs) (new : ℕ) (le : new ≤ length cs)
    (same : (k : ℕ) → k < length cs → nat_eq (get_or cs k 0) new ≡ same_tree (tree_at ts k) (tree_at ts (length cs))) where
  abbrev All : List ℕ
  All = cs ++ (new ∷ [])

  place : (k : ℕ) → k < length All → (k < length cs) ⊎ (k ≡ length cs)
  place k h = cases k (length cs) (omega (arith, h, length_push cs new))
    where
      cases : (i n : ℕ) → i < n + 1 → (i < n) ⊎ (i ≡ n)
      cases i zero lt = inr (omega arith)
      cases zero (suc n) lt = inl (omega arith)
      cases (suc i) (suc n) lt = step (cases i n (omega arith))
        where
          step : (i < n) ⊎ (i ≡ n) → (suc i < suc n) ⊎ (suc i ≡ suc n)
          step (inl less) = inl (omega arith)
          step (inr is) = inr (ap suc is)

  before : (k : ℕ) → k < length cs → get_or All k 0 ≡ get_or cs k 0
  before k h = get_or_append_left cs (new ∷ []) 0 k h

  last : (k : ℕ) → k ≡ length cs → get_or All k 0 ≡ new
  last k e = get_or_push cs new 0 k (sym e)

  below : (k : ℕ) → (k < length cs) ⊎ (k ≡ length cs) → get_or All k 0 ≤ k
  below k (inl h) = let e = before k h in let l = c.below k h in omega arith
  below k (inr e) = let f = last k e in omega arith

  both : (i j : ℕ) → (i < length cs) ⊎ (i ≡ length cs) → (j < length cs) ⊎ (j ≡ length cs) →
      nat_eq (get_or All i 0) (get_or All j 0) ≡ same_tree (tree_at ts i) (tree_at ts j)
  both i j (inl h) (inl k) = ap₂ nat_eq (before i h) (before j k) ∙ c.same i j h k
  both i j (inl h) (inr e) = ap₂ nat_eq (before i h) (last j e) ∙ same i h ∙ ap (λ n. same_tree (tree_at ts i) (tree_at ts n)) (sym e)
  both i j (inr e) (inl k) =
      ap₂ nat_eq (last i e) (before j k) ∙ nat_eq_equiv.symm new (get_or cs j 0) ∙ same j k ∙ same_back (tree_at ts j) (tree_at ts (length cs)) ∙
      ap (λ n. same_tree (tree_at ts n) (tree_at ts j)) (sym e)
  both i j (inr e) (inr f) =
      ap₂ nat_eq (last i e) (last j f) ∙ nat_eq_equiv.refl new ∙ sym (same_itself (tree_at ts (length cs))) ∙
      ap₂ (λ m n. same_tree (tree_at ts m) (tree_at ts n)) (sym e) (sym f)

  pub classes_more : length cs < length ts → AreClasses ts (cs ++ (new ∷ []))
  classes_more lt = record {
    within = omega (arith, length_push cs new);
    below = λ k h. below k (place k h);
    same = λ i j h k. both i j (place i h) (place j k);
  }

-- ---- the class of the next tree

module _ (ts : List Tree) (cs : List ℕ) (c : AreClasses ts cs) (t : Tree) where
  -- that of a tree before it
  pub class_found : (k : ℕ) → k < length cs → same_tree (tree_at ts k) t ≡ true → (j : ℕ) → j < length cs → nat_eq (get_or cs j 0) (get_or cs k 0) ≡ same_tree (tree_at ts j) t
  class_found k h same j lt = c.same j k lt h ∙ same_right (tree_at ts j) (tree_at ts k) t same

  -- a new one
  pub class_new : ((k : ℕ) → k < length cs → same_tree (tree_at ts k) t ≡ false) → (j : ℕ) → j < length cs → nat_eq (get_or cs j 0) (length cs) ≡ same_tree (tree_at ts j) t
  class_new none j lt =
      let le = c.below j lt in
      let ne : get_or cs j 0 ≡ length cs → ⊥ = λ e. omega arith in
      unequal (get_or cs j 0) (length cs) ne ∙ sym (none j lt)

-- ---- the classes of the first trees

pub classes_none : (ts : List Tree) → AreClasses ts []
classes_none ts = record { within = omega arith; below = λ i h. absurd (omega arith); same = λ i j h k. absurd (omega arith) }

pub classes_pushed : (ts : List Tree) (cs ds es : List ℕ) (new : ℕ) → ds ≡ cs → es ≡ cs ++ (new ∷ []) → AreClasses ts cs → length ds < length ts → new ≤ length ds →
    ((k : ℕ) → k < length ds → nat_eq (get_or ds k 0) new ≡ same_tree (tree_at ts k) (tree_at ts (length ds))) → AreClasses ts es
classes_pushed ts cs ds es new e is c lt le same =
    subst (λ (xs : List ℕ). AreClasses ts xs) (sym (is ∙ ap (λ xs. xs ++ (new ∷ [])) (sym e)))
    (classes_more ts ds (subst (λ (xs : List ℕ). AreClasses ts xs) (sym e) c) new le same lt)
