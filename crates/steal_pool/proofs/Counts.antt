-- Each step keeps the count of resting hands.
use Rattle.std.proofs.Common.{◌≡◌, ◌≢◌, ℕ, zero, suc, ◌+◌, ◌-◌, ◌%◌, ◌<◌, ◌≤◌, Bool, List, [], ◌∷◌, ◌++◌, set, get_or, refl, sym, ap, ◌∙◌, subst, ⊎_elim, arith, length-set, get_or-set_same}
use mathlib.Core.Option.{some, none, some-injective, some-ne-none}
use lib.ListN.{get_elem?}
use Rattle.atomic_table.specs.Table.{State, Me, step, keeps, stepped, Allows, Splits}
use Rattle.atomic_table.proofs.Lists.{at_set, at_snoc}
use Rattle.steal_pool.specs.declared.count.CountView.{CountView}
use Rattle.steal_pool.specs.Count.{total_of, parts_in, resting_in, one_resting, one_less, no_part, CountsResting, RestsOneMore, RestsOneLess, ReadsCount, LooksOnce}

abbrev St : Type 0
St = State (Unit {0}) CountView

abbrev M : Type 0
M = Me (Unit {0}) CountView

abbrev N : ℕ
N = 18446744073709551616

total_set : (f : CountView → ℕ) (vs : List CountView) (j : ℕ) (v w : CountView) → get_elem? vs j ≡ some v → total_of f (set vs j w) + f v ≡ total_of f vs + f w
total_set f [] j v w e = absurd (some-ne-none v (sym e))
total_set f (x ∷ vs) zero v w e = let same : f x ≡ f v = ap f (some-injective x v e) in omega arith
total_set f (x ∷ vs) (suc j) v w e = let t = total_set f vs j v w e in omega (arith, t)

total_snoc : (f : CountView → ℕ) (vs : List CountView) (w : CountView) → total_of f (vs ++ w ∷ []) ≡ total_of f vs + f w
total_snoc f [] w = omega arith
total_snoc f (x ∷ vs) w = let t = total_snoc f vs w in omega (arith, t)

total_le : (vs : List CountView) → ((j : ℕ) (v : CountView) → get_elem? vs j ≡ some v → v.resting ≤ v.parts) → total_of resting_in vs ≤ total_of parts_in vs
total_le [] h = omega arith
total_le (x ∷ vs) h = let a = h 0 x refl in let t = total_le vs (λ j v e. h (suc j) v e) in omega (arith, a, t)

total_ge : (f : CountView → ℕ) (vs : List CountView) (j : ℕ) (v : CountView) → get_elem? vs j ≡ some v → f v ≤ total_of f vs
total_ge f [] j v e = absurd (some-ne-none v (sym e))
total_ge f (x ∷ vs) zero v e = let same : f x ≡ f v = ap f (some-injective x v e) in omega arith
total_ge f (x ∷ vs) (suc j) v e = let t = total_ge f vs j v e in omega (arith, t)

all_set : (P : CountView → Type 0) (vs : List CountView) (id : ℕ) (w : CountView) → P w → ((j : ℕ) (u : CountView) → get_elem? vs j ≡ some u → P u) → (j : ℕ) (u : CountView) → get_elem? (set vs id w) j ≡ some u → P u
all_set P vs id w mine others j u e = ⊎_elim (λ (t : (j ≡ id) × (w ≡ u)). subst P t.1 mine) (λ (t : (j ≢ id) × (get_elem? vs j ≡ some u)). others j u t.1) (at_set vs id j w u e)

plus_one : (x : ℕ) → x < 100 → (x + 1) % N ≡ x + 1
plus_one x h = omega arith

less_one : (x : ℕ) → 0 < x → x < 100 → (x + (N - 1)) % N ≡ x - 1
less_one x p h = omega arith

module _ (n : ℕ) where
  -- the word becomes what the seat's change makes of the sum
  moved : (s : St) (r : CountsResting n s) (id x : ℕ) (v w : CountView) (cs : List (ℕ × Unit {0})) → get_elem? s.views id ≡ some v → w.parts ≡ v.parts → w.resting ≤ w.parts → x + v.resting ≡ get_or s.words 0 0 + w.resting → CountsResting n (stepped s 0 x id cs w keeps)
  moved s r id x v w cs at parts within change = let wide = r.wide in record {
    wide = length-set s.words 0 x ∙ wide;
    few = r.few;
    whole = (let t = total_set parts_in s.views id v w at in let a = r.whole in omega (arith, t));
    sum = get_or-set_same s.words 0 x 0 (omega arith) ∙ (let t = total_set resting_in s.views id v w at in let a = r.sum in omega (arith, t));
    each = all_set (λ u. u.resting ≤ u.parts) s.views id w within r.each;
  }

  small : (s : St) (r : CountsResting n s) → get_or s.words 0 0 ≤ 64
  small s r = let t = total_le s.views r.each in let a = r.sum in let b = r.whole in let c = r.few in omega (arith, t)

  -- a new view comes, with what the old one gives it
  joins_in : (s : St) (r : CountsResting n s) (id : ℕ) (v w u : CountView) → get_elem? s.views id ≡ some v → w.parts + u.parts ≡ v.parts → w.resting + u.resting ≡ v.resting → w.resting ≤ w.parts → u.resting ≤ u.parts
      → CountsResting n record { words = s.words; homes = s.homes; views = set s.views id w ++ u ∷ [] }
  joins_in s r id v w u at parts resting within within' = record {
    wide = r.wide;
    few = r.few;
    whole = (let t = total_set parts_in s.views id v w at in let p = total_snoc parts_in (set s.views id w) u in let a = r.whole in omega (arith, t, p));
    sum = (let t = total_set resting_in s.views id v w at in let p = total_snoc resting_in (set s.views id w) u in let a = r.sum in omega (arith, t, p));
    each = λ j x e. ⊎_elim (all_set (λ u. u.resting ≤ u.parts) s.views id w within r.each j x) (λ (t : u ≡ x). subst (λ (u : CountView). u.resting ≤ u.parts) t within') (at_snoc (set s.views id w) u x j e);
  }

  pub rests : (slots id : ℕ) (me : M) → me.0.resting < me.0.parts → Allows (CountsResting n) slots id me 0 (λ x. (x + 1) % N) (RestsOneMore (step slots 0 1 0 none) me)
  rests slots id me room s r deep at _ =
      let v : CountView = me.0 in let w : CountView = record v { resting = v.resting + 1 } in
      let few = small s r in let e = plus_one (get_or s.words 0 0) (omega arith) in
      (w, keeps, tt, moved s r id _ v w me.1 at refl (omega arith) (omega (arith, e)), (refl, few))

  pub wakes : (slots id : ℕ) (me : M) → 0 < me.0.resting → Allows (CountsResting n) slots id me 0 (λ x. (x + (N - 1)) % N) (RestsOneLess (step slots 0 1 0 none) me)
  wakes slots id me awake s r deep at _ =
      let v : CountView = me.0 in let w : CountView = record v { resting = v.resting - 1 } in
      let few = small s r in let t = total_ge resting_in s.views id v at in let a = r.sum in
      let e = less_one (get_or s.words 0 0) (omega (arith, t)) (omega arith) in
      let k = r.each id v at in
      (w, keeps, tt, moved s r id _ v w me.1 at refl (omega arith) (omega (arith, e, t)), refl)

  pub reads : (slots id : ℕ) (me : M) → Allows (CountsResting n) slots id me 0 (λ x. x) (ReadsCount (step slots 0 0 0 none) me)
  reads slots id me s r deep at _ =
      let v : CountView = me.0 in let w : CountView = record v { reads = v.reads + 1; last = get_or s.words 0 0 } in
      (w, keeps, tt, moved s r id (get_or s.words 0 0) v w me.1 at refl (r.each id v at) refl, (refl, small s r))

  pub looks : (found : Bool) (slots id : ℕ) (me : M) → Allows (CountsResting n) slots id me 0 (λ x. x) (LooksOnce found (step slots 0 0 0 none) me)
  looks found slots id me s r deep at _ =
      let v : CountView = me.0 in let w : CountView = record v { looks = v.looks + 1; found_empty = found } in
      (w, keeps, tt, moved s r id (get_or s.words 0 0) v w me.1 at refl (r.each id v at) refl, refl)

  pub cuts : (id : ℕ) (v : CountView) → 1 < v.parts → 0 < v.resting → Splits (CountsResting n) id v (one_less v) one_resting
  cuts id v two awake s r at = let w : CountView = one_less v in let k = r.each id v at in joins_in s r id v w one_resting at (omega arith) (omega arith) (omega arith) (omega arith)

  pub copies : (id : ℕ) (v : CountView) → Splits (CountsResting n) id v v no_part
  copies id v s r at = joins_in s r id v v no_part at (omega arith) (omega arith) (r.each id v at) (omega arith)
