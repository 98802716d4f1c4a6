-- Names that are bound, and the nearest of each.
use Rattle.std.proofs.Common.{◌≡◌, ℕ, zero, suc, drop, List, [], ◌∷◌, ◌++◌, map, Bool, true, false, cond, Option, Some, None, refl, ap, sym, ◌∙◌, subst, append-nil, append_assoc}
use Rattle.std.specs.Prelude.{is_some, slice_get}
use Rattle.std.specs.Borrow.{Bor}
use Rattle.std.specs.HashMap.{HashMap, get_by, UpdatesBy}
use Rattle.std.specs.Str.{bytes_eq}
use Rattle.std.proofs.lemmas.Map.Text.{hash_map_updates_str}
use Rattle.std.proofs.lemmas.Slice.Eq.{bytes_eq-Decides}
use Rattle.root_rewriting.specs.Locals.{local_node, IsIndexed, all_levels}
use Rattle.root_rewriting.specs.declared.unfold.locals.Local.{Local}

-- ---- one name more

more-none : (x : List ℕ) (ps : List Local) (p : Local) → local_node x ps ≡ None → local_node x (ps ++ (p ∷ [])) ≡ cond (bytes_eq x p.name.now) (Some p.node) None
more-none x [] p h = refl
more-none x (q ∷ ps) p h = go (bytes_eq x q.name.now) h (λ e. more-none x ps p e)
  where
    go : (b : Bool) → cond b (Some q.node) (local_node x ps) ≡ None → (local_node x ps ≡ None → local_node x (ps ++ (p ∷ [])) ≡ cond (bytes_eq x p.name.now) (Some p.node) None) →
        cond b (Some q.node) (local_node x (ps ++ (p ∷ []))) ≡ cond (bytes_eq x p.name.now) (Some p.node) None
    go true e f = cc
    go false e f = f e

pub nearest_some : (x : List ℕ) (ps qs : List Local) (s : ℕ) → local_node x ps ≡ Some s → local_node x (ps ++ qs) ≡ Some s
nearest_some x [] qs s h = cc
nearest_some x (p ∷ ps) qs s h = go (bytes_eq x p.name.now) h (λ e. nearest_some x ps qs s e)
  where
    go : (b : Bool) → cond b (Some p.node) (local_node x ps) ≡ Some s → (local_node x ps ≡ Some s → local_node x (ps ++ qs) ≡ Some s) → cond b (Some p.node) (local_node x (ps ++ qs)) ≡ Some s
    go true e f = e
    go false e f = f e

pub nearest_none : (x : List ℕ) (ps qs : List Local) → local_node x ps ≡ None → local_node x (ps ++ qs) ≡ local_node x qs
nearest_none x [] qs h = refl
nearest_none x (p ∷ ps) qs h = go (bytes_eq x p.name.now) h (λ e. nearest_none x ps qs e)
  where
    go : (b : Bool) → cond b (Some p.node) (local_node x ps) ≡ None → (local_node x ps ≡ None → local_node x (ps ++ qs) ≡ local_node x qs) → cond b (Some p.node) (local_node x (ps ++ qs)) ≡ local_node x qs
    go true e f = cc
    go false e f = f e

more-other : (x : List ℕ) (ps : List Local) (p : Local) → bytes_eq x p.name.now ≡ false → local_node x (ps ++ (p ∷ [])) ≡ local_node x ps
more-other x [] p h = ap (λ b. cond b (Some p.node) None) h
more-other x (q ∷ ps) p h = ap (cond (bytes_eq x q.name.now) (Some q.node)) (more-other x ps p h)

same-name : (x y : List ℕ) → bytes_eq x y ≡ true → x ≡ y
same-name x y h = (bytes_eq-Decides x y).0 h

other-way : (x y : List ℕ) → bytes_eq x y ≡ bytes_eq y x
other-way x y = one (bytes_eq x y) (bytes_eq y x) (λ h. (bytes_eq-Decides y x).1 (sym ((bytes_eq-Decides x y).0 h))) (λ h. (bytes_eq-Decides x y).1 (sym ((bytes_eq-Decides y x).0 h)))
  where
    one : (a b : Bool) → (a ≡ true → b ≡ true) → (b ≡ true → a ≡ true) → a ≡ b
    one true b f g = sym (f refl)
    one false true f g = g refl
    one false false f g = refl

some-of : (o : Option ℕ) → is_some o ≡ true → (s : ℕ) × (o ≡ Some s)
some-of (Some s) h = (s, refl)
some-of None h = cc

none-of : (o : Option ℕ) → is_some o ≡ false → o ≡ None
none-of (Some s) h = cc
none-of None h = refl

-- a name that stands there already
pub indexed_again : {S : Type 0} (ps : List Local) (p : Local) (first : HashMap (Bor (List ℕ)) ℕ S) → IsIndexed ps first → is_some (get_by (λ k. bytes_eq p.name.now k.now) first) ≡ true → IsIndexed (ps ++ (p ∷ [])) first
indexed_again ps p first i h = record { nodes = λ x. i.nodes x ∙ sym (stays x (bytes_eq x p.name.now) refl) }
  where
    there : (s : ℕ) × (local_node p.name.now ps ≡ Some s)
    there = let g = some-of (get_by (λ k. bytes_eq p.name.now k.now) first) h in (g.0, sym (i.nodes p.name.now) ∙ g.1)

    stays : (x : List ℕ) (b : Bool) → bytes_eq x p.name.now ≡ b → local_node x (ps ++ (p ∷ [])) ≡ local_node x ps
    stays x false e = more-other x ps p e
    stays x true e = subst (λ (y : List ℕ). local_node y (ps ++ (p ∷ [])) ≡ local_node y ps) (sym (same-name x p.name.now e)) (nearest_some p.name.now ps (p ∷ []) there.0 there.1 ∙ sym there.1)

-- a new name
pub indexed_more : {S : Type 0} (ps : List Local) (p : Local) (old new : HashMap (Bor (List ℕ)) ℕ S) → IsIndexed ps old → is_some (get_by (λ k. bytes_eq p.name.now k.now) old) ≡ false →
    UpdatesBy (λ a b. bytes_eq a.now b.now) (λ k. bytes_eq p.name.now k.now) old new (Some p.node) → IsIndexed (ps ++ (p ∷ [])) new
indexed_more ps p old new i h updates = record {
  nodes = λ x. hash_map_updates_str p.name.now old new (Some p.node) updates x ∙ ap (λ b. cond b (Some p.node) (get_by (λ k. bytes_eq x k.now) old)) (other-way p.name.now x)
      ∙ ap (cond (bytes_eq x p.name.now) (Some p.node)) (i.nodes x) ∙ sym (adds x (bytes_eq x p.name.now) refl);
}
  where
    absent : local_node p.name.now ps ≡ None
    absent = sym (i.nodes p.name.now) ∙ none-of (get_by (λ k. bytes_eq p.name.now k.now) old) h

    adds : (x : List ℕ) (b : Bool) → bytes_eq x p.name.now ≡ b → local_node x (ps ++ (p ∷ [])) ≡ cond (bytes_eq x p.name.now) (Some p.node) (local_node x ps)
    adds x false e = more-other x ps p e ∙ sym (ap (λ c. cond c (Some p.node) (local_node x ps)) e)
    adds x true e = more-none x ps p (subst (λ (y : List ℕ). local_node y ps ≡ None) (sym (same-name x p.name.now e)) absent) ∙ ap (λ c. cond c (Some p.node) None) e ∙ sym (ap (λ c. cond c (Some p.node) (local_node x ps)) e)

-- ---- levels

pub levels_at : {R : Type 0} (f : R → List Local) (ls : List R) (i j : ℕ) (r : R) → j ≡ suc i → slice_get ls i ≡ Some r → all_levels (map f (drop i ls)) ≡ f r ++ all_levels (map f (drop j ls))
levels_at f ls i j r e h = at ls i h ∙ ap (λ (k : ℕ). f r ++ all_levels (map f (drop k ls))) (sym e)
  where
    at : (xs : List _) (k : ℕ) → slice_get xs k ≡ Some r → all_levels (map f (drop k xs)) ≡ f r ++ all_levels (map f (drop (suc k) xs))
    at [] k g = cc
    at (x ∷ xs) zero g = ap (λ y. f y ++ all_levels (map f xs)) (same x g)
      where
        same : (y : _) → Some y ≡ Some r → y ≡ r
        same y e = cc
    at (x ∷ xs) (suc k) g = at xs k g

pub levels_end : {R : Type 0} (f : R → List Local) (ls : List R) (l : R) → all_levels (map f (ls ++ (l ∷ []))) ≡ all_levels (map f ls) ++ f l
levels_end f [] l = append-nil (f l)
levels_end f (x ∷ ls) l = ap (λ (ps : List Local). f x ++ ps) (levels_end f ls l) ∙ sym (append_assoc (f x) (all_levels (map f ls)) (f l))
