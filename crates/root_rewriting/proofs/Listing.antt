-- One root or quotient more.
use Rattle.std.proofs.Common.{◌≡◌, ◌<◌, ◌≤◌, ◌-◌, ℕ, zero, suc, List, [], ◌∷◌, ◌++◌, Bool, true, false, cond, ◌||◌, length, get_or, set, take, drop, refl, ap, sym, ◌∙◌, subst, arith, ◌⊎◌, inl, inr, true≢false}
use Rattle.std.specs.Prelude.{replicate}
use Rattle.std.proofs.Math.Seq.{take-length}
use Rattle.std.proofs.lemmas.Bool.{cases_eq, eq-eqb}
use Rattle.std.proofs.lemmas.List.{get_or-map, get_or-replicate, get_or-set_other, get_or-set_same, get_or_past, length-replicate, map-append}
use Rattle.script_roots.specs.Tree.{Tree, formless}
use Rattle.script_roots.specs.Ranges.{Ranges}
use Rattle.script_roots.specs.Fresh.{fresh_in, has_tree, once, same_tree}
use Rattle.script_roots.proofs.Table.{all_join}
use Rattle.root_rewriting.specs.Nodes.{AreBelow, parts_at, tree_at, trees_in}
use Rattle.root_rewriting.proofs.Arena.{nodes_length}
use Rattle.root_rewriting.specs.Found.{AllHave, AreOwn, IsFound, IsSized, IsSource, is_own, own_in}
use Rattle.root_rewriting.specs.declared.found.Found.{Found}
use Rattle.root_rewriting.specs.declared.found.Source.{Source}
use Rattle.root_rewriting.proofs.Alike.{unequal}
use Rattle.root_rewriting.proofs.Once.{all_have_once, has_end}

or_false : (a : Bool) → a || false ≡ a
or_false true = refl
or_false false = refl

or_true : (a : Bool) → a || true ≡ true
or_true true = refl
or_true false = refl

all-false : (n k : ℕ) → get_or (replicate n false) k false ≡ false
all-false n k = go (nat_cases n k)
  where
    nat_cases : (m i : ℕ) → (i < m) ⊎ (m ≤ i)
    nat_cases zero i = inr (omega arith)
    nat_cases (suc m) zero = inl (omega arith)
    nat_cases (suc m) (suc i) = step (nat_cases m i)
      where
        step : (i < m) ⊎ (m ≤ i) → (suc i < suc m) ⊎ (suc m ≤ suc i)
        step (inl h) = inl (omega arith)
        step (inr h) = inr (omega arith)

    go : (k < n) ⊎ (n ≤ k) → get_or (replicate n false) k false ≡ false
    go (inl h) = get_or-replicate n k false false h
    go (inr h) = get_or_past (replicate n false) k false (omega (arith, length-replicate n false))

pub first_there : {A : Type 0} (xs : List A) (d : A) → 1 ≤ length xs → xs ≡ get_or xs 0 d ∷ take (length xs - 1) (drop 1 xs)
first_there [] d h = absurd (omega arith)
first_there (x ∷ xs) d h = let count : suc (length xs) - 1 ≡ length xs = omega arith in ap (λ ys. x ∷ ys) (sym (ap (λ n. take n xs) count ∙ take-length xs))

-- what was read at a place stands there
pub read_there : {A : Type 0} (xs : List A) (i : ℕ) (x v d : A) → i < length xs → x ≡ get_or xs i x → x ≡ v → get_or xs i d ≡ v
read_there [] i x v d lt h e = absurd (omega arith)
read_there (y ∷ xs) zero x v d lt h e = sym h ∙ e
read_there (y ∷ xs) (suc i) x v d lt h e = read_there xs i x v d (omega arith) h e

-- ---- none yet

pub found_none : (ranges : Ranges) (s : Source) (f : Found) (n m : ℕ) → f.listed.items ≡ replicate n false → f.marked.items ≡ replicate m false → f.order.items ≡ [] → IsFound ranges s f []
found_none ranges s f n m l k o = record {
  order = ap (parts_at (trees_in s.trees.now)) o;
  listed = λ j h. ap (λ bs. get_or bs (get_or s.classes.now j 0) false) l ∙ all-false n (get_or s.classes.now j 0);
  marked = λ j h e. absurd (true≢false (sym e ∙ ap (λ bs. get_or bs j false) k ∙ all-false m j));
}

-- the class of a tree is one of so many
pub class_within : (s : Source) → IsSource s → (at : ℕ) → at < length s.trees.now → get_or s.classes.now at 0 < length s.trees.now
class_within s src at lt = let all = src.all in let c = src.classes.below at (omega arith) in omega arith

-- ---- a tree is listed

module _ (ranges : Ranges) (s : Source) (src : IsSource s) (f : Found) (at : ℕ) (lt : at < length s.trees.now) (seen : List Tree)
    (own : AreOwn ranges (trees_in s.trees.now) s.own.now) (found : IsFound ranges s f seen) where
  abbrev Ts : List Tree
  Ts = trees_in s.trees.now

  abbrev Here : Tree
  Here = tree_at Ts at

  abbrev Class : ℕ → ℕ
  Class k = get_or s.classes.now k 0

  own-is : get_or s.own.now at false ≡ is_own ranges Here
  own-is = ap (λ bs. get_or bs at false) own ∙ get_or-map (is_own ranges) Ts at (formless (record { line = 0; column = 0 })) false (omega (arith, nodes_length s.trees.now))

  with-own : (b : Bool) → get_or s.own.now at false ≡ b → own_in ranges Here ≡ cond b (Here ∷ []) []
  with-own b e = ap (λ c. cond c (Here ∷ []) []) (sym own-is ∙ e)

  -- no constant stands for it
  pub none_own : get_or s.own.now at false ≡ false → once seen (own_in ranges Here) ≡ seen
  none_own e = ap (once seen) (with-own false e)

  -- one of its class is listed
  pub own_listed : get_or s.own.now at false ≡ true → get_or f.listed.items (Class at) false ≡ true → once seen (own_in ranges Here) ≡ seen
  own_listed e l = ap (once seen) (with-own true e) ∙ ap (λ b. cond b seen (seen ++ Here ∷ [])) (sym (found.listed at lt) ∙ l)

  own_new : get_or s.own.now at false ≡ true → get_or f.listed.items (Class at) false ≡ false → once seen (own_in ranges Here) ≡ seen ++ Here ∷ []
  own_new e l = ap (once seen) (with-own true e) ∙ ap (λ b. cond b seen (seen ++ Here ∷ [])) (sym (found.listed at lt) ∙ l)

  pub found_same : once seen (own_in ranges Here) ≡ seen → IsFound ranges s f (once seen (own_in ranges Here))
  found_same e = subst (λ us. IsFound ranges s f us) (sym e) found

  listed-after : IsSized (length s.trees.now) f → (k : ℕ) → k < length s.trees.now → (Class k ≡ Class at) ⊎ (Class k ≡ Class at → ⊥) →
      get_or (set f.listed.items (Class at) true) (Class k) false ≡ has_tree (tree_at Ts k) seen || same_tree (tree_at Ts k) Here
  listed-after sized k h (inl e) =
      let all = src.all in
      let c = src.classes.below at (omega arith) in
      let there : Class at < length f.listed.items = omega (arith, sized.listed) in
      ap (λ i. get_or (set f.listed.items (Class at) true) i false) e ∙ get_or-set_same f.listed.items (Class at) true false there ∙
      sym (or_true (has_tree (tree_at Ts k) seen)) ∙
      ap (λ b. has_tree (tree_at Ts k) seen || b) (sym (sym (src.classes.same k at (omega arith) (omega arith)) ∙ eq-eqb (Class k) (Class at) e))
  listed-after sized k h (inr ne) =
      let all = src.all in
      get_or-set_other f.listed.items (Class at) (Class k) true false ne ∙ found.listed k h ∙ sym (or_false (has_tree (tree_at Ts k) seen)) ∙
      ap (λ b. has_tree (tree_at Ts k) seen || b) (sym (sym (src.classes.same k at (omega arith) (omega arith)) ∙ unequal (Class k) (Class at) ne))

  pub found_more : IsSized (length s.trees.now) f → get_or s.own.now at false ≡ true → get_or f.listed.items (Class at) false ≡ false → (g : Found) →
      g.order.items ≡ f.order.items ++ (at ∷ []) → g.listed.items ≡ set f.listed.items (Class at) true → g.marked.items ≡ f.marked.items →
      IsFound ranges s g (once seen (own_in ranges Here))
  found_more sized e l g o li ma =
      let new = own_new e l in
      record {
        order = ap (parts_at Ts) o ∙ map-append (tree_at Ts) f.order.items (at ∷ []) ∙ ap (λ us. us ++ Here ∷ []) found.order ∙ sym new;
        listed = λ k h. ap (λ bs. get_or bs (Class k) false) li ∙ listed-after sized k h (cases_eq (Class k) (Class at)) ∙ sym (has_end (tree_at Ts k) seen Here) ∙ ap (has_tree (tree_at Ts k)) (sym new);
        marked = λ k h m. all_have_once (fresh_in ranges (tree_at Ts k)) seen (own_in ranges Here) (found.marked k h (sym (ap (λ bs. get_or bs k false) ma) ∙ m));
      }

-- ---- a tree is marked

module _ (ranges : Ranges) (s : Source) (f : Found) (at : ℕ) (seen : List Tree) (found : IsFound ranges s f seen) where
  marked-after : AllHave seen (fresh_in ranges (tree_at (trees_in s.trees.now) at)) → (k : ℕ) → k < length s.trees.now → (k ≡ at) ⊎ (k ≡ at → ⊥) → get_or (set f.marked.items at true) k false ≡ true →
      AllHave seen (fresh_in ranges (tree_at (trees_in s.trees.now) k))
  marked-after here k h (inl e) m = subst (λ (i : ℕ). AllHave seen (fresh_in ranges (tree_at (trees_in s.trees.now) i))) (sym e) here
  marked-after here k h (inr ne) m = found.marked k h (sym (get_or-set_other f.marked.items at k true false ne) ∙ m)

  pub found_marked : AllHave seen (fresh_in ranges (tree_at (trees_in s.trees.now) at)) → (g : Found) → g.order.items ≡ f.order.items → g.listed.items ≡ f.listed.items →
      g.marked.items ≡ set f.marked.items at true → IsFound ranges s g seen
  found_marked here g o l m = record {
    order = ap (parts_at (trees_in s.trees.now)) o ∙ found.order;
    listed = λ k h. ap (λ bs. get_or bs (get_or s.classes.now k 0) false) l ∙ found.listed k h;
    marked = λ k h e. marked-after here k h (cases_eq k at) (sym (ap (λ bs. get_or bs k false) m) ∙ e);
  }

-- ---- sizes

pub below_end : (n : ℕ) (ks : List ℕ) (k : ℕ) → AreBelow n ks → k < n → AreBelow n (ks ++ (k ∷ []))
below_end n ks k h lt = all_join (λ i. i < n) ks (k ∷ []) h (lt, tt)
