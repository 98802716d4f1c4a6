-- Factors in groups are the factors, gathered.
use Rattle.std.proofs.Common.{◌≡◌, ℕ, zero, suc, ◌+◌, ◌<◌, ◌≤◌, ◌⊎◌, inl, inr, List, [], ◌∷◌, ◌++◌, length, Bool, true, false, cond, Option, Some, None, refl, ap, ap₂, sym, ◌∙◌, subst, arith, nat_eq, eqb→eq, append_assoc, append-nil, length-append, slice_index_or, slice_set}
use Rattle.std.specs.Prelude.{replicate, option_map, Result, Ok, Err, IfOk, OnOk}
use Rattle.std.specs.Bool.{passes}
use Rattle.std.proofs.lemmas.List.{length-replicate}
use Rattle.std.specs.HashMap.{HashMap, get}
use Rattle.poly_graph.specs.Term.{Term, constant, variable, negate, add, multiply, square}
use Rattle.dyadic.specs.Fraction.{Fraction}
use Rattle.script_forms.specs.Terms.{Unfolded, same_term, repeats, beside, gathered, gathered_with}
use Rattle.script_forms.proofs.Numbered.{term_self}
use Rattle.term_build.specs.Built.{BuilderModel, IsMade, stand_of}
use Rattle.term_build.specs.Pairs.{tree_at, trees_at}
use Rattle.term_build.specs.Steps.{as_constant, tree_of}
use Rattle.term_build.proofs.Emits.{same_if}
use Rattle.term_build.proofs.Powers.{repeats_same}
use Rattle.value_build.specs.Arithmetic.{AreNodes}
use Rattle.value_build.specs.Groups.{all_in_rows, are_in_rows, is_among, expanded, one_of, raised, group_of, EachGroup, AreGroups, AddsFactor, Gathers, IsGathering}
use Rattle.value_build.specs.Weights.{term_at}
use Rattle.value_build.specs.declared.gather.Group.{Group}
use Rattle.value_build.proofs.Factors.{trees_both, length_trees, length_beside}

-- ---- which factors repeat others

not-repeated : (t u : Term) → same_term t u ≡ false → repeats t u ≡ false
not-repeated (constant p) u h = refl
not-repeated (variable i) u h = h
not-repeated (negate t) u h = h
not-repeated (add t t') u h = h
not-repeated (multiply t t') u h = h
not-repeated (square t) u h = h

constant-repeats : (t u : Term) (q : Fraction) → as_constant u ≡ Some q → repeats t u ≡ false
constant-repeats (constant p) u q h = refl
constant-repeats (variable i) (constant c) q h = refl
constant-repeats (negate t) (constant c) q h = refl
constant-repeats (add t t') (constant c) q h = refl
constant-repeats (multiply t t') (constant c) q h = refl
constant-repeats (square t) (constant c) q h = refl
constant-repeats t (variable i) q h = cc
constant-repeats t (negate u) q h = cc
constant-repeats t (add u u') q h = cc
constant-repeats t (multiply u u') q h = cc
constant-repeats t (square u) q h = cc

self-repeats : (t : Term) → as_constant t ≡ None → repeats t t ≡ true
self-repeats t e = sym (repeats_same t t (sym e)) ∙ term_self t

-- no one of these is repeated
abbrev NoneRepeats : List Term → List ℕ → ℕ → Type 0
NoneRepeats ts [] k = Unit {0}
NoneRepeats ts (j ∷ js) k = (repeats (term_at ts j) (term_at ts k) ≡ false) × NoneRepeats ts js k

none-times : (ts : List Term) (n f k : ℕ) → repeats (term_at ts f) (term_at ts k) ≡ false → NoneRepeats ts (replicate n f) k
none-times ts zero f k h = tt
none-times ts (suc n) f k h = (h, none-times ts n f k h)

none-both : (ts : List Term) (ks js : List ℕ) (k : ℕ) → NoneRepeats ts ks k → NoneRepeats ts js k → NoneRepeats ts (ks ++ js) k
none-both ts [] js k h g = g
none-both ts (i ∷ ks) js k h g = (h.0, none-both ts ks js k h.1 g)

-- ---- a factor beside others

beside-past : (ts : List Term) (ks js : List ℕ) (k : ℕ) → NoneRepeats ts ks k → beside (tree_at ts k) (trees_at ts (ks ++ js)) ≡ trees_at ts ks ++ beside (tree_at ts k) (trees_at ts js)
beside-past ts [] js k h = refl
beside-past ts (i ∷ ks) js k h =
    ap (λ b. cond b (tree_at ts i ∷ tree_at ts k ∷ trees_at ts (ks ++ js)) (tree_at ts i ∷ beside (tree_at ts k) (trees_at ts (ks ++ js)))) h.0
    ∙ ap (λ us. tree_at ts i ∷ us) (beside-past ts ks js k h.1)

beside-last : (ts : List Term) (ks : List ℕ) (k : ℕ) → NoneRepeats ts ks k → beside (tree_at ts k) (trees_at ts ks) ≡ trees_at ts ks ++ (tree_at ts k ∷ [])
beside-last ts [] k h = refl
beside-last ts (i ∷ ks) k h =
    ap (λ b. cond b (tree_at ts i ∷ tree_at ts k ∷ trees_at ts ks) (tree_at ts i ∷ beside (tree_at ts k) (trees_at ts ks))) h.0
    ∙ ap (λ us. tree_at ts i ∷ us) (beside-last ts ks k h.1)

-- beside the first of several equal factors
beside-times : (ts : List Term) (n k : ℕ) (js : List ℕ) → 0 < n → repeats (term_at ts k) (term_at ts k) ≡ true → beside (tree_at ts k) (trees_at ts (replicate n k ++ js)) ≡ trees_at ts (replicate (suc n) k ++ js)
beside-times ts zero k js l h = absurd (omega (arith, l))
beside-times ts (suc n) k js l h =
    ap (λ b. cond b (tree_at ts k ∷ tree_at ts k ∷ trees_at ts (replicate n k ++ js)) (tree_at ts k ∷ beside (tree_at ts k) (trees_at ts (replicate n k ++ js)))) h

-- ---- a group more

expanded-end : (gs : List Group) (k : ℕ) → expanded (gs ++ (one_of k ∷ [])) ≡ expanded gs ++ (k ∷ [])
expanded-end [] k = refl
expanded-end (g ∷ gs) k = ap (λ ks. replicate g.times g.factor ++ ks) (expanded-end gs k) ∙ sym (append_assoc (replicate g.times g.factor) (expanded gs) (k ∷ []))

added-last : (ts : List Term) (gs : List Group) (k : ℕ) → NoneRepeats ts (expanded gs) k → trees_at ts (expanded (gs ++ (one_of k ∷ []))) ≡ beside (tree_at ts k) (trees_at ts (expanded gs))
added-last ts gs k h = ap (λ ks. trees_at ts ks) (expanded-end gs k) ∙ trees_both ts (expanded gs) (k ∷ []) ∙ sym (beside-last ts (expanded gs) k h)

each-end : (m : BuilderModel) (gs : List Group) (k : ℕ) → EachGroup m gs → k < length m.nodes → EachGroup m (gs ++ (one_of k ∷ []))
each-end m [] k h l = (l, omega arith, tt)
each-end m (g ∷ gs) k h l = (h.0, h.1, each-end m gs k h.2 l)

constant-none : (ts : List Term) (gs : List Group) (k : ℕ) (q : Fraction) → as_constant (term_at ts k) ≡ Some q → NoneRepeats ts (expanded gs) k
constant-none ts [] k q e = tt
constant-none ts (g ∷ gs) k q e = none-both ts (replicate g.times g.factor) (expanded gs) k
    (none-times ts g.times g.factor k (constant-repeats (term_at ts g.factor) (term_at ts k) q e)) (constant-none ts gs k q e)

-- which comes first
later-none : (b : Bool) (o : Option ℕ) → cond b (Some 0) (option_map suc o) ≡ None → (b ≡ false) × (o ≡ None)
later-none true o e = cc
later-none false None e = (refl, refl)
later-none false (Some n) e = cc

apart : (m : BuilderModel) (j k : ℕ) → IsMade m → j < length m.nodes → k < length m.nodes → nat_eq j k ≡ false → repeats (tree_of m j) (tree_of m k) ≡ false
apart m j k h a b e = not-repeated (tree_of m j) (tree_of m k) (same_if m j k h a b ∙ e)

new-none : (m : BuilderModel) (gs : List Group) (k : ℕ) → IsMade m → EachGroup m gs → k < length m.nodes → group_of gs k ≡ None → NoneRepeats (stand_of m).trees (expanded gs) k
new-none m [] k h each l e = tt
new-none m (g ∷ gs) k h each l e = let n = later-none (nat_eq g.factor k) (group_of gs k) e in
    none-both (stand_of m).trees (replicate g.times g.factor) (expanded gs) k
    (none-times (stand_of m).trees g.times g.factor k (apart m g.factor k h each.0 l n.0)) (new-none m gs k h each.2 l n.1)

-- ---- places

group-more : (gs : List Group) (k q : ℕ) → group_of gs k ≡ None → cond (nat_eq k q) (Some (length gs)) (group_of gs q) ≡ group_of (gs ++ (one_of k ∷ [])) q
group-more [] k q e = refl
group-more (g ∷ gs) k q e =
    let n = later-none (nat_eq g.factor k) (group_of gs k) e in
    go (nat_eq k q) refl (nat_eq g.factor q) refl n.0 (group-more gs k q n.1)
  where
    go : (b : Bool) → nat_eq k q ≡ b → (c : Bool) → nat_eq g.factor q ≡ c → nat_eq g.factor k ≡ false → cond b (Some (length gs)) (group_of gs q) ≡ group_of (gs ++ (one_of k ∷ [])) q →
        cond b (Some (suc (length gs))) (cond c (Some 0) (option_map suc (group_of gs q))) ≡ cond c (Some 0) (option_map suc (group_of (gs ++ (one_of k ∷ [])) q))
    go true d true f a h = let e : nat_eq g.factor q ≡ nat_eq g.factor k = ap (λ i. nat_eq g.factor i) (sym (eqb→eq k q (passes _ d))) in cc
    go true d false f a h = ap (λ o. option_map suc o) h
    go false d true f a h = refl
    go false d false f a h = ap (λ o. option_map suc o) h

group-other : (gs : List Group) (k q : ℕ) → nat_eq k q ≡ false → group_of gs q ≡ group_of (gs ++ (one_of k ∷ [])) q
group-other [] k q e = ap (λ b. cond b (Some 0) None) (sym e)
group-other (g ∷ gs) k q e = ap (λ o. cond (nat_eq g.factor q) (Some 0) (option_map suc o)) (group-other gs k q e)

-- a constant is no other tree
constant-apart : (m : BuilderModel) (k q : ℕ) (c : Fraction) → as_constant (tree_of m k) ≡ Some c → as_constant (tree_of m q) ≡ None → nat_eq k q ≡ false
constant-apart m k q c = go (nat_eq k q) refl
  where
    go : (b : Bool) → nat_eq k q ≡ b → as_constant (tree_of m k) ≡ Some c → as_constant (tree_of m q) ≡ None → b ≡ false
    go false d e f = refl
    go true d e f = let g : as_constant (tree_of m k) ≡ as_constant (tree_of m q) = ap (λ i. as_constant (tree_of m i)) (eqb→eq k q (passes _ d)) in cc

-- ---- a factor more in a group

later-some : (b : Bool) (o : Option ℕ) (p : ℕ) → cond b (Some 0) (option_map suc o) ≡ Some p → ((b ≡ true) × (p ≡ 0)) ⊎ ((j : ℕ) × (b ≡ false) × (o ≡ Some j) × (p ≡ suc j))
later-some true o p e = inl (refl, cc)
later-some false None p e = cc
later-some false (Some j) p e = inr (j, refl, refl, cc)

pub group_below : (gs : List Group) (k p : ℕ) → group_of gs k ≡ Some p → p < length gs
group_below [] k p e = cc
group_below (g ∷ gs) k p e = elim (later-some (nat_eq g.factor k) (group_of gs k) p e) [
  | inl h ↦ omega (arith, h.1)
  | inr h ↦ omega (arith, h.3, group_below gs k h.0 h.2)
]

raised-beside : (m : BuilderModel) (gs : List Group) (k p : ℕ) → IsMade m → EachGroup m gs → k < length m.nodes → as_constant (tree_of m k) ≡ None → group_of gs k ≡ Some p →
    trees_at (stand_of m).trees (expanded (raised gs p)) ≡ beside (tree_at (stand_of m).trees k) (trees_at (stand_of m).trees (expanded gs))
raised-beside m [] k p h each l n e = cc
raised-beside m (g ∷ gs) k p h each l n e = let ts = (stand_of m).trees in elim (later-some (nat_eq g.factor k) (group_of gs k) p e) [
  | inl x ↦ let s : g.factor ≡ k = eqb→eq g.factor k (passes _ x.0) in
      ap (λ i. trees_at ts (expanded (raised (g ∷ gs) i))) x.1
      ∙ ap (λ i. trees_at ts (replicate (suc g.times) i ++ expanded gs)) s
      ∙ sym (beside-times ts g.times k (expanded gs) each.1 (self-repeats (term_at ts k) n))
      ∙ ap (λ i. beside (tree_at ts k) (trees_at ts (replicate g.times i ++ expanded gs))) (sym s)
  | inr x ↦
      ap (λ i. trees_at ts (expanded (raised (g ∷ gs) i))) x.3
      ∙ trees_both ts (replicate g.times g.factor) (expanded (raised gs x.0))
      ∙ ap (λ us. trees_at ts (replicate g.times g.factor) ++ us) (raised-beside m gs k x.0 h each.2 l n x.2)
      ∙ sym (beside-past ts (replicate g.times g.factor) (expanded gs) k (none-times ts g.times g.factor k (apart m g.factor k h each.0 l x.1)))
]

raised-group : (gs : List Group) (p q : ℕ) → group_of gs q ≡ group_of (raised gs p) q
raised-group [] p q = refl
raised-group (g ∷ gs) zero q = refl
raised-group (g ∷ gs) (suc p) q = ap (λ o. cond (nat_eq g.factor q) (Some 0) (option_map suc o)) (raised-group gs p q)

raised-each : (m : BuilderModel) (gs : List Group) (p : ℕ) → EachGroup m gs → EachGroup m (raised gs p)
raised-each m [] p h = tt
raised-each m (g ∷ gs) zero h = (h.0, omega arith, h.2)
raised-each m (g ∷ gs) (suc p) h = (h.0, h.1, raised-each m gs p h.2)

-- ---- what counting a factor does

pub added_constant : {S : Type 0} (m : BuilderModel) (gs : List Group) (places : HashMap ℕ ℕ S) (k : ℕ) (c : Fraction) → AreGroups m gs places → k < length m.nodes → as_constant (tree_of m k) ≡ Some c →
    AddsFactor m gs (gs ++ (one_of k ∷ [])) places k
added_constant m gs places k c h l e = record {
  grouped = record {
    each = each-end m gs k h.each l;
    found = λ q b n. h.found q b n ∙ group-other gs k q (constant-apart m k q c e n);
  };
  factors = added-last (stand_of m).trees gs k (constant-none (stand_of m).trees gs k c e);
}

pub added_new : {S : Type 0} (m : BuilderModel) (gs : List Group) (places after : HashMap ℕ ℕ S) (k : ℕ) → IsMade m → AreGroups m gs places → k < length m.nodes → as_constant (tree_of m k) ≡ None →
    None ≡ get nat_eq places k → ((q : ℕ) → get nat_eq after q ≡ cond (nat_eq k q) (Some (length gs)) (get nat_eq places q)) → AddsFactor m gs (gs ++ (one_of k ∷ [])) after k
added_new m gs places after k made h l n e u =
    let none : group_of gs k ≡ None = sym (h.found k l n) ∙ sym e in record {
      grouped = record {
        each = each-end m gs k h.each l;
        found = λ q b a. u q ∙ ap (λ o. cond (nat_eq k q) (Some (length gs)) o) (h.found q b a) ∙ group-more gs k q none;
      };
      factors = added-last (stand_of m).trees gs k (new-none m gs k made h.each l none);
    }

pub added_again : {S : Type 0} (m : BuilderModel) (gs : List Group) (places : HashMap ℕ ℕ S) (k p : ℕ) → IsMade m → AreGroups m gs places → k < length m.nodes → as_constant (tree_of m k) ≡ None →
    Some p ≡ get nat_eq places k → AddsFactor m gs (raised gs p) places k
added_again m gs places k p made h l n e = record {
  grouped = record {
    each = raised-each m gs p h.each;
    found = λ q b a. h.found q b a ∙ raised-group gs p q;
  };
  factors = raised-beside m gs k p made h.each l n (sym (h.found k l n) ∙ sym e);
}

abbrev group : ℕ → ℕ → Group
group f n = record { factor = f; times = n }

pub set_raised : (gs : List Group) (p : ℕ) (d x : Group) → p < length gs → x.factor ≡ (slice_index_or gs p d).factor → x.times ≡ suc (slice_index_or gs p d).times → slice_set gs p x ≡ raised gs p
set_raised [] p d x l e f = absurd (omega (arith, l))
set_raised (g ∷ gs) zero d x l e f = ap₂ (λ (a b : ℕ). group a b ∷ gs) e f
set_raised (g ∷ gs) (suc p) d x l e f = ap (λ (hs : List Group). g ∷ hs) (set_raised gs p d x (omega (arith, l)) e f)

-- a factor stands no more often than there are factors
pub times_fit : (gs : List Group) (p : ℕ) (d : Group) → p < length gs → (slice_index_or gs p d).times ≤ length (expanded gs)
times_fit [] p d l = absurd (omega (arith, l))
times_fit (g ∷ gs) zero d l = omega (arith, length-append (replicate g.times g.factor) (expanded gs), length-replicate g.times g.factor)
times_fit (g ∷ gs) (suc p) d l = omega (arith, times_fit gs p d (omega (arith, l)), length-append (replicate g.times g.factor) (expanded gs))

-- ---- a product's factors, one after the other

pub gathering_begun : {S : Type 0} (m : BuilderModel) (nodes : List ℕ) (places : HashMap ℕ ℕ S) → IsMade m → AreNodes m nodes → ((q : ℕ) → get nat_eq places q ≡ None) → IsGathering m nodes nodes [] places
gathering_begun m nodes places made below none = record {
  made = made;
  below = below;
  grouped = record { each = tt; found = λ k b n. none k };
  counted = omega arith;
  same = refl;
}

pub gathering_step : {S : Type 0} (m : BuilderModel) (nodes later : List ℕ) (k : ℕ) (gs gs' : List Group) (places places' : HashMap ℕ ℕ S) → IsGathering m nodes (k ∷ later) gs places → AddsFactor m gs gs' places' k →
    IsGathering m nodes later gs' places'
gathering_step m nodes later k gs gs' places places' h a = let ts = (stand_of m).trees in
    let n = sym (length_trees ts (expanded gs')) ∙ ap (λ (us : List Unfolded). length us) a.factors ∙ length_beside (tree_at ts k) (trees_at ts (expanded gs)) ∙ ap suc (length_trees ts (expanded gs)) in record {
      made = h.made;
      below = h.below.1;
      grouped = a.grouped;
      counted = omega (arith, h.counted, n);
      same = h.same ∙ ap (λ us. gathered_with us (trees_at ts later)) (sym a.factors);
    }

nodes-times : (m : BuilderModel) (n k : ℕ) (ks : List ℕ) → k < length m.nodes → AreNodes m ks → AreNodes m (replicate n k ++ ks)
nodes-times m zero k ks l h = h
nodes-times m (suc n) k ks l h = (l, nodes-times m n k ks l h)

pub group_nodes : (m : BuilderModel) (gs : List Group) → EachGroup m gs → AreNodes m (expanded gs)
group_nodes m [] h = tt
group_nodes m (g ∷ gs) h = nodes-times m g.times g.factor (expanded gs) h.0 (group_nodes m gs h.2)

pub gathering_room : {S : Type 0} (m : BuilderModel) (nodes later : List ℕ) (k : ℕ) (gs : List Group) (places : HashMap ℕ ℕ S) → IsGathering m nodes (k ∷ later) gs places → length (expanded gs) < length nodes
gathering_room m nodes later k gs places h = omega (arith, h.counted)

pub gathering_done : {S X E : Type 0} (m : BuilderModel) (nodes : List ℕ) (gs : List Group) (places : HashMap ℕ ℕ S) → IsGathering m nodes [] gs places → (view : X → List ℕ) (r : Result X E) → IfOk r (λ x. view x ≡ expanded gs) → IfOk r (λ x. Gathers m nodes (view x))
gathering_done m nodes gs places h view (Ok x) e = (
  ap (λ (ks : List ℕ). trees_at (stand_of m).trees ks) e ∙ sym h.same,
  subst (λ (ks : List ℕ). AreNodes m ks) (sym e) (group_nodes m gs h.grouped.each),
)
gathering_done m nodes gs places h view (Err z) e = tt

-- ---- results

pub on_ok_then : {X E A B : Type 0} (r : Result X E) → (A → B) → OnOk r A → OnOk r B
on_ok_then (Ok x) f h = f h
on_ok_then (Err z) f h = h

-- ---- factors that stand in rows are gathered

abbrev Apart : List ℕ → ℕ → Type 0
Apart [] k = Unit {0}
Apart (j ∷ js) k = (nat_eq j k ≡ false) × Apart js k

abbrev EachApart : List ℕ → List ℕ → Type 0
EachApart js [] = Unit {0}
EachApart js (k ∷ ks) = Apart js k × EachApart js ks

apart-none : (m : BuilderModel) (js : List ℕ) (k : ℕ) → IsMade m → AreNodes m js → k < length m.nodes → Apart js k → NoneRepeats (stand_of m).trees js k
apart-none m [] k h b l a = tt
apart-none m (j ∷ js) k h b l a = (apart m j k h b.0 l a.0, apart-none m js k h b.1 l a.1)

apart-row : (js : List ℕ) (n j k : ℕ) → Apart js k → nat_eq j k ≡ false → Apart (js ++ replicate n j) k
apart-row [] zero j k a e = tt
apart-row [] (suc n) j k a e = (e, apart-row [] n j k tt e)
apart-row (i ∷ js) n j k a e = (a.0, apart-row js n j k a.1 e)

not-among : (b c : Bool) → cond b true c ≡ false → (b ≡ false) × (c ≡ false)
not-among true c e = cc
not-among false c e = (refl, e)

each-apart-row : (js : List ℕ) (n j : ℕ) (ks : List ℕ) → EachApart js ks → is_among j ks ≡ false → EachApart (js ++ replicate n j) ks
each-apart-row js n j [] a e = tt
each-apart-row js n j (k ∷ ks) a e = let x = not-among (nat_eq j k) (is_among j ks) e in (apart-row js n j k a.0 x.0, each-apart-row js n j ks a.1 x.1)

either-way : (b : Bool) (us vs : List Unfolded) → vs ≡ us → cond b us vs ≡ us
either-way true us vs e = refl
either-way false us vs e = e

same-row : (ts : List Term) (n k : ℕ) → beside (tree_at ts k) (trees_at ts (replicate n k)) ≡ trees_at ts (replicate (suc n) k)
same-row ts zero k = refl
same-row ts (suc n) k = either-way (repeats (term_at ts k) (term_at ts k)) (tree_at ts k ∷ tree_at ts k ∷ trees_at ts (replicate n k)) (tree_at ts k ∷ beside (tree_at ts k) (trees_at ts (replicate n k)))
    (ap (λ us. tree_at ts k ∷ us) (same-row ts n k))

row-shift : (n k : ℕ) (js : List ℕ) → replicate n k ++ (k ∷ js) ≡ replicate (suc n) k ++ js
row-shift zero k js = refl
row-shift (suc n) k js = ap (λ ks. k ∷ ks) (row-shift n k js)

nodes-row : (m : BuilderModel) (js : List ℕ) (n k : ℕ) → AreNodes m js → k < length m.nodes → AreNodes m (js ++ replicate n k)
nodes-row m [] zero k b l = tt
nodes-row m [] (suc n) k b l = (l, nodes-row m [] n k tt l)
nodes-row m (j ∷ js) n k b l = (b.0, nodes-row m js n k b.1 l)

data Turn (k j : ℕ) (js : List ℕ) : Type 0 where
  same_row : k ≡ j → are_in_rows k js ≡ true → Turn k j js
  next_row : nat_eq k j ≡ false → is_among k js ≡ false → are_in_rows j js ≡ true → Turn k j js

turn : (k j : ℕ) (js : List ℕ) → are_in_rows k (j ∷ js) ≡ true → Turn k j js
turn k j js = go (nat_eq k j) refl (is_among k js) refl
  where
    go : (b : Bool) → nat_eq k j ≡ b → (c : Bool) → is_among k js ≡ c → cond b (are_in_rows k js) (cond c false (are_in_rows j js)) ≡ true → Turn k j js
    go true d c f e = same_row (eqb→eq k j (passes _ d)) e
    go false d false f e = next_row d f e
    go false d true f e = cc

in-rows : (m : BuilderModel) (js : List ℕ) (n k : ℕ) (ks : List ℕ) → IsMade m → AreNodes m js → k < length m.nodes → AreNodes m ks → EachApart js (k ∷ ks) → are_in_rows k ks ≡ true →
    let ts = (stand_of m).trees in gathered_with (trees_at ts (js ++ replicate (suc n) k)) (trees_at ts ks) ≡ trees_at ts ((js ++ replicate (suc n) k) ++ ks)
in-rows m js n k [] h b l g a e = ap (λ (is : List ℕ). trees_at (stand_of m).trees is) (sym (append-nil (js ++ replicate (suc n) k)))
in-rows m js n k (j ∷ ks) h b l g a e = go (turn k j ks e)
    (λ r. in-rows m js (suc n) k ks h b l g.1 (a.0, a.1.1) r)
    (λ d f r. in-rows m (js ++ replicate (suc n) k) 0 j ks h (nodes-row m js (suc n) k b l) g.0 g.1 (each-apart-row js (suc n) k (j ∷ ks) a.1 (ap (λ x. cond x true (is_among k ks)) d ∙ f)) r)
  where
    ts : List Term
    ts = (stand_of m).trees

    go : Turn k j ks →
        (are_in_rows k ks ≡ true → gathered_with (trees_at ts (js ++ replicate (suc (suc n)) k)) (trees_at ts ks) ≡ trees_at ts ((js ++ replicate (suc (suc n)) k) ++ ks)) →
        (nat_eq k j ≡ false → is_among k ks ≡ false → are_in_rows j ks ≡ true →
        gathered_with (trees_at ts ((js ++ replicate (suc n) k) ++ replicate 1 j)) (trees_at ts ks) ≡ trees_at ts (((js ++ replicate (suc n) k) ++ replicate 1 j) ++ ks)) →
        gathered_with (trees_at ts (js ++ replicate (suc n) k)) (trees_at ts (j ∷ ks)) ≡ trees_at ts ((js ++ replicate (suc n) k) ++ (j ∷ ks))
    go (same_row s r) f f' = subst (λ (i : ℕ). gathered_with (trees_at ts (js ++ replicate (suc n) k)) (trees_at ts (i ∷ ks)) ≡ trees_at ts ((js ++ replicate (suc n) k) ++ (i ∷ ks))) s
        (ap (λ us. gathered_with us (trees_at ts ks))
        (beside-past ts js (replicate (suc n) k) k (apart-none m js k h b l a.0) ∙ ap (λ us. trees_at ts js ++ us) (same-row ts (suc n) k) ∙ sym (trees_both ts js (replicate (suc (suc n)) k)))
        ∙ f r
        ∙ ap (λ (is : List ℕ). trees_at ts is)
        (append_assoc js (replicate (suc (suc n)) k) ks ∙ ap (λ (is : List ℕ). js ++ is) (sym (row-shift (suc n) k ks)) ∙ sym (append_assoc js (replicate (suc n) k) (k ∷ ks))))
    go (next_row d p r) f f' = let is = js ++ replicate (suc n) k in
        ap (λ us. gathered_with us (trees_at ts ks))
        (beside-last ts is j (apart-none m is j h (nodes-row m js (suc n) k b l) g.0 (apart-row js (suc n) k j a.1.0 d)) ∙ sym (trees_both ts is (j ∷ [])))
        ∙ f' d p r
        ∙ ap (λ (ns : List ℕ). trees_at ts ns) (append_assoc is (j ∷ []) ks)

each-nothing : (ks : List ℕ) → EachApart [] ks
each-nothing [] = tt
each-nothing (k ∷ ks) = (tt, each-nothing ks)

pub rows_gathered : (m : BuilderModel) (nodes : List ℕ) → IsMade m → AreNodes m nodes → all_in_rows nodes ≡ true → trees_at (stand_of m).trees nodes ≡ gathered (trees_at (stand_of m).trees nodes)
rows_gathered m [] h b e = refl
rows_gathered m (k ∷ ks) h b e = sym (in-rows m [] 0 k ks h tt b.0 b.1 (tt, each-nothing ks) e)
