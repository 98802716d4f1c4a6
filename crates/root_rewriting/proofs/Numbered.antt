-- For each class the number of the constant that stands for its trees.
use Rattle.std.proofs.Common.{◌≡◌, ◌<◌, ◌≤◌, ℕ, zero, suc, List, [], ◌∷◌, length, get_or, set, drop, map, Bool, true, false, cond, Option, Some, None, refl, ap, ap₂, sym, ◌∙◌, subst, arith, ◌⊎◌, inl, inr}
use Rattle.std.specs.Prelude.{replicate}
use Rattle.std.proofs.Math.Seq.{drop-cons, drop-length}
use Rattle.std.proofs.lemmas.Bool.{cases_eq, eq-eqb}
use Rattle.std.proofs.lemmas.List.{get_or-map, get_or-set_other, get_or-set_same}
use Rattle.script_roots.specs.Tree.{Tree}
use Rattle.script_roots.specs.Fresh.{name_for, same_tree}
use Rattle.root_rewriting.specs.Nodes.{tree_at}
use Rattle.root_rewriting.specs.Classes.{AreClasses}
use Rattle.root_rewriting.specs.Spelling.{AreNumbers, NameTrees, fresh_name, name_at}
use Rattle.root_rewriting.specs.Table.{AreEntriesBelow, entry_of}
use Rattle.root_rewriting.specs.declared.constants.Fresh.{Fresh}
use Rattle.root_rewriting.proofs.Alike.{unequal}

-- the constants from a place on are numbered
pub record InNumbers (classes : List ℕ) (table : List Fresh) (numbers : List (Option ℕ)) (left : ℕ) : Type 0 where
  pub within : left ≤ length table
  pub all : length numbers ≡ length classes
  pub names : AreNumbers (length table) numbers
  pub named : (ts : List Tree) → AreClasses ts classes → NameTrees (map (entry_of ts) (drop left table)) ts classes numbers (map fresh_name table)

all_none : (n k : ℕ) → get_or {A = Option ℕ} (replicate n None) k None ≡ None
all_none zero k = refl
all_none (suc n) zero = refl
all_none (suc n) (suc k) = all_none n k

pub numbers_none : (classes : List ℕ) (table : List Fresh) (numbers : List (Option ℕ)) (left : ℕ) → numbers ≡ replicate (length classes) None → length numbers ≡ length classes → left ≡ length table →
    InNumbers classes table numbers left
numbers_none classes table numbers left is all e = record {
  within = omega (arith, e);
  all = all;
  names = λ c i h. let no : None ≡ Some i = sym (none c) ∙ h in absurd (cc no);
  named = λ ts cs k lt. ap (name_at (map fresh_name table)) (none (get_or classes k 0)) ∙ ap (λ fs. name_for (map (entry_of ts) fs) (tree_at ts k)) (sym (ap (λ n. drop n table) e ∙ drop-length table));
}
  where
    none : (c : ℕ) → get_or numbers c None ≡ None
    none c = ap (λ ns. get_or ns c None) is ∙ all_none (length classes) c

pub entry_within : (n : ℕ) (table : List Fresh) (m : ℕ) (f d : Fresh) → m < length table → f ≡ get_or table m d → AreEntriesBelow n table → f.tree < n
entry_within n [] m f d lt is h = absurd (omega arith)
entry_within n (g ∷ table) zero f d lt is h = subst (λ (x : Fresh). x.tree < n) (sym is) h.0
entry_within n (g ∷ table) (suc m) f d lt is h = entry_within n table m f d (omega arith) is h.1

-- one more
module _ (classes : List ℕ) (table : List Fresh) (numbers new : List (Option ℕ)) (n m : ℕ) (f d : Fresh) (next : n ≡ suc m) (is : f ≡ get_or table m d)
    (below : AreEntriesBelow (length classes) table) (put : new ≡ set numbers (get_or classes f.tree 0) (Some m)) (h : InNumbers classes table numbers n) where
  abbrev Class : ℕ
  Class = get_or classes f.tree 0

  inside : m < length table
  inside = omega (arith, next, h.within)

  pub numbered : (ts : List Tree) → AreClasses ts classes → Class < length numbers
  numbered ts cs = let lt = entry_within (length classes) table m f d inside is below in omega (arith, cs.below f.tree lt, lt, h.all)

  here : Class < length numbers → (c : ℕ) → c ≡ Class → get_or new c None ≡ Some m
  here lt c e = ap₂ (λ ns i. get_or ns i None) put e ∙ get_or-set_same numbers Class (Some m) None lt

  elsewhere : (c : ℕ) → (c ≡ Class → ⊥) → get_or new c None ≡ get_or numbers c None
  elsewhere c ne = ap (λ ns. get_or ns c None) put ∙ get_or-set_other numbers Class c (Some m) None ne

  names_more : Class < length numbers → (c i : ℕ) → get_or new c None ≡ Some i → (c ≡ Class) ⊎ (c ≡ Class → ⊥) → i < length table
  names_more lt c i found (inl e) = let same : Some m ≡ Some i = sym (here lt c e) ∙ found in let is_m : m ≡ i = cc same in omega (arith, is_m, inside)
  names_more lt c i found (inr ne) = h.names c i (sym (elsewhere c ne) ∙ found)

  first : (ts : List Tree) → map (entry_of ts) (drop m table) ≡ entry_of ts f ∷ map (entry_of ts) (drop n table)
  first ts = ap (map (entry_of ts)) (drop-cons table m d inside) ∙ ap₂ (λ g k. entry_of ts g ∷ map (entry_of ts) (drop k table)) (sym is) (sym next)

  named_more : (ts : List Tree) → AreClasses ts classes → Class < length numbers → (k : ℕ) → k < length classes → (get_or classes k 0 ≡ Class) ⊎ (get_or classes k 0 ≡ Class → ⊥) →
      name_at (map fresh_name table) (get_or new (get_or classes k 0) None) ≡ name_for (entry_of ts f ∷ map (entry_of ts) (drop n table)) (tree_at ts k)
  named_more ts cs lt k within (inl e) =
      let tree = entry_within (length classes) table m f d inside is below in
      let same : true ≡ same_tree (tree_at ts k) (tree_at ts f.tree) = sym (eq-eqb (get_or classes k 0) Class e) ∙ cs.same k f.tree within tree in
      ap (name_at (map fresh_name table)) (here lt (get_or classes k 0) e) ∙ ap Some (get_or-map fresh_name table m d [] inside ∙ ap fresh_name (sym is)) ∙
      ap (λ (b : Bool). cond b (Some (fresh_name f)) (name_for (map (entry_of ts) (drop n table)) (tree_at ts k))) same
  named_more ts cs lt k within (inr ne) =
      let tree = entry_within (length classes) table m f d inside is below in
      let differ : false ≡ same_tree (tree_at ts k) (tree_at ts f.tree) = sym (unequal (get_or classes k 0) Class ne) ∙ cs.same k f.tree within tree in
      ap (name_at (map fresh_name table)) (elsewhere (get_or classes k 0) ne) ∙ h.named ts cs k within ∙
      ap (λ (b : Bool). cond b (Some (fresh_name f)) (name_for (map (entry_of ts) (drop n table)) (tree_at ts k))) differ

  pub numbers_more : Class < length numbers → length new ≡ length numbers → InNumbers classes table new m
  numbers_more lt long = record {
    within = omega (arith, inside);
    all = omega (arith, long, h.all);
    names = λ c i found. names_more lt c i found (cases_eq c Class);
    named = λ ts cs k within. named_more ts cs lt k within (cases_eq (get_or classes k 0) Class) ∙ ap (λ t. name_for t (tree_at ts k)) (sym (first ts));
  }
