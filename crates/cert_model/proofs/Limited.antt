-- A problem with a limit of its goal is a problem, over the same box, with the same atoms and one more; that one holds at each point where
-- the goal is below the limit.
use Rattle.std.proofs.Common.{◌≡◌, ◌⊎◌, inl, inr, ℕ, zero, suc, ◌+◌, ◌-◌, ◌*◌, ◌^◌, ◌<◌, ◌≤◌, List, [], ◌∷◌, ◌++◌, length, Bool, true, not, ◌&&◌, ◌||◌, IsTrue, Some, ℤ, pos, negsuc, ◌+ℤ◌, ◌*ℤ◌, neg_ℤ, ◌≤ℤ◌, nat_abs, refl, ap, ap₂, ◌∙◌, subst, arith, nat_eq, nat_le, nat_lt, lit<, length-append, le_of_mul-le-mul_right}
use Rattle.std.specs.Prelude.{slice_get, All}
use Rattle.std.proofs.Math.ListN.{get_or-append}
use Rattle.std.proofs.lemmas.Bool.{leb-true, eqb-true, lt-ltb}
use borrow.Author.Differences.{up, down}
use Rattle.std.proofs.lemmas.List.Elements.{All-append}
use Rattle.std.proofs.lemmas.Nat.{pow_pos}
use Rattle.std.proofs.Math.Nat.{one-dvd}
use Rattle.std.proofs.Math.Seq.{get_or-append_seam}
use Rattle.dyadic.specs.Fraction.{Fraction, zero_fraction, whole, sum_of, product_of, at_most}
use Rattle.dyadic.specs.Point.{Sort, Coordinate}
use Rattle.dyadic.specs.Rounding.{Dyadic, exact}
use Rattle.dyadic.proofs.Equal.{both_true, both_pass, total, through, le_holds, holds_le}
use Rattle.dyadic.proofs.Nearest.{pow_le, pow_split}
use Rattle.dyadic.proofs.Ring.{atom, natural, plus, minus, times, same, read, below, read_below}
use Rattle.poly_graph.specs.Form.{Form, Forms, yes_form, no_form, atom_is, bool_is, all_form, any_form, no_forms, more_forms, form_truth, all_truth, any_truth}
use Rattle.poly_graph.specs.Problem.{Problem, IsProblem, IsNode, IsConstant, IsForm, AreForms, sorts_of_axes, atom_at, no_place, term_of, full_atom, bool_holds}
use Rattle.poly_graph.specs.Term.{Term, constant, add, multiply, Node, constant_node, multiply_node, add_node, Kind, le, in_order, comes_after, node_term, terms_after, graph_terms, term_value, in_range, atom_holds}
use Rattle.poly_graph.proofs.Graphs.{term_at, length_terms, unfolds}
use Rattle.cover_model.specs.State.{Loosenings, margin_of, MeetsForm}
use Rattle.cert_model.specs.LeastLaws.{IsNotBelow}
use Rattle.cert_model.specs.Limited.{scale_of, limit_size, opposite, offset_of, has_constant, is_limit, limit_nodes, limited}

-- ---- lists that go on

-- what stands behind the first list
behind : {A : Type 0} (xs ys : List A) (k : ℕ) (x : A) → slice_get ys k ≡ Some x → slice_get (xs ++ ys) (length xs + k) ≡ Some x
behind [] ys k x e = subst (λ (j : ℕ). slice_get ys j ≡ Some x) (let z : k ≡ 0 + k = omega arith in z) e
behind (a ∷ xs) ys k x e = subst (λ (j : ℕ). slice_get (a ∷ xs ++ ys) j ≡ Some x) (let z : suc (length xs + k) ≡ suc (length xs) + k = omega arith in z) (behind xs ys k x e)

in-order-then : (n : ℕ) (xs ys : List Node) → IsTrue (in_order n xs) → IsTrue (in_order (n + length xs) ys) → IsTrue (in_order n (xs ++ ys))
in-order-then n [] ys h k = subst (λ (m : ℕ). IsTrue (in_order m ys)) (let e : n + 0 ≡ n = omega arith in e) k
in-order-then n (x ∷ xs) ys h k = let e = both_true (comes_after n x) (in_order (suc n) xs) h in
    ap₂ (λ a b. a && b) e.0 (in-order-then (suc n) xs ys e.1 (subst (λ (m : ℕ). IsTrue (in_order m ys)) (let e : n + suc (length xs) ≡ suc n + length xs = omega arith in e) k))

terms-split : (ns more : List Node) (done : List Term) → terms_after done (ns ++ more) ≡ terms_after (terms_after done ns) more
terms-split [] more done = refl
terms-split (n ∷ ns) more done = terms-split ns more (done ++ (node_term done n ∷ []))

terms-stay : (ns : List Node) (done : List Term) (k : ℕ) → k < length done → term_at (terms_after done ns) k ≡ term_at done k
terms-stay [] done k h = refl
terms-stay (n ∷ ns) done k h =
    terms-stay ns (done ++ (node_term done n ∷ [])) k (let l = length-append done (node_term done n ∷ []) in omega (arith, l, h)) ∙ get_or-append done (node_term done n ∷ []) (constant zero_fraction) k h

terms-begin : (ns more : List Node) (k : ℕ) → k < length ns → term_at (graph_terms (ns ++ more)) k ≡ term_at (graph_terms ns) k
terms-begin ns more k h = ap (λ (ts : List Term). term_at ts k) (terms-split ns more []) ∙ terms-stay more (graph_terms ns) k (omega (arith, length_terms ns, h))

-- a form that names the first of more atoms
module _ (sorts : List Sort) (n m : ℕ) (fewer : n ≤ m) where
  mutual
    form-in-more : (φ : Form ℕ) → IsForm sorts n φ → IsForm sorts m φ
    form-in-more yes_form h = tt
    form-in-more no_form h = tt
    form-in-more (atom_is j) h = omega arith
    form-in-more (bool_is axis v) h = h
    form-in-more (all_form φs) h = forms-in-more φs h
    form-in-more (any_form φs) h = forms-in-more φs h

    forms-in-more : (φs : Forms ℕ) → AreForms sorts n φs → AreForms sorts m φs
    forms-in-more no_forms h = tt
    forms-in-more (more_forms φ φs) h = (form-in-more φ h.0, forms-in-more φs h.1)

-- forms over atoms that agree where the form names them
module _ (sorts : List Sort) (n : ℕ) (a b : ℕ → Bool) (c : ℕ → Bool → Bool) (f : (j : ℕ) → j < n → a j ≡ b j) where
  mutual
    same-truth : (φ : Form ℕ) → IsForm sorts n φ → form_truth a c φ ≡ form_truth b c φ
    same-truth yes_form i = refl
    same-truth no_form i = refl
    same-truth (atom_is j) i = f j i
    same-truth (bool_is axis v) i = refl
    same-truth (all_form φs) i = all-same φs i
    same-truth (any_form φs) i = any-same φs i

    all-same : (φs : Forms ℕ) → AreForms sorts n φs → all_truth a c φs ≡ all_truth b c φs
    all-same no_forms i = refl
    all-same (more_forms φ φs) i = ap₂ (λ x y. x && y) (same-truth φ i.0) (all-same φs i.1)

    any-same : (φs : Forms ℕ) → AreForms sorts n φs → any_truth a c φs ≡ any_truth b c φs
    any-same no_forms i = refl
    any-same (more_forms φ φs) i = ap₂ (λ x y. x || y) (same-truth φ i.0) (any-same φs i.1)

-- ---- the constants

whole-constant : (z : ℤ) → nat_abs z ≤ 10 ^ 36 → IsConstant (whole z)
whole-constant z h = (lit< tt, (one-dvd (nat_abs z), one-dvd 1, λ c e f. f), h, omega arith)

size-opposite : (n : ℕ) (z : ℤ) → nat_abs (opposite n z) ≡ n
size-opposite zero (pos u) = refl
size-opposite (suc n) (pos u) = refl
size-opposite n (negsuc u) = refl

-- minus the limit is a multiple
opposite-times : (n e : ℕ) (z : ℤ) → n * e ≡ nat_abs z → opposite n z *ℤ pos e ≡ neg_ℤ z
opposite-times n e (pos u) h = same (times (minus (natural n)) (natural e)) (minus (natural u)) (omega (arith, h))
opposite-times n e (negsuc u) h = same (times (natural n) (natural e)) (natural (suc u)) (omega (arith, h))

-- a / b at most z / w, where w is e * s, and o * e is -z: then s * a / b + o is at most 0
scaled-below : (a z o : ℤ) (b s e : ℕ) → 0 < e → o *ℤ pos e ≡ neg_ℤ z → (a *ℤ pos (e * s)) ≤ℤ (z *ℤ pos b) →
    ((((pos s *ℤ a) *ℤ pos 1) +ℤ (o *ℤ pos (1 * b))) *ℤ pos 1) ≤ℤ (pos 0 *ℤ pos (1 * b * 1))
scaled-below a z o b s e p q h =
    let h' = read_below (times (atom a) (natural (e * s))) (times (atom z) (natural b)) h in
    let q' = read (times (atom o) (natural e)) (minus (atom z)) q in
    let scaled : (s * up a + up o * b) * e ≤ (s * down a + down o * b) * e = omega (arith, h', ap (λ x. x * b) q') in
    let less : s * up a + up o * b ≤ s * down a + down o * b = le_of_mul-le-mul_right scaled p in
    below (times (plus (times (times (natural s) (atom a)) (natural 1)) (times (atom o) (natural (1 * b)))) (natural 1)) (times (natural 0) (natural (1 * b * 1))) (omega (arith, less))

-- ---- the nodes

more-in-order : (n t : ℕ) (s o : Fraction) → t < n → IsTrue (in_order n (limit_nodes n t s o))
more-in-order n t s o h =
    both_pass (nat_lt n (suc n) && nat_lt t (suc n)) _ (both_pass (nat_lt n (suc n)) (nat_lt t (suc n)) (lt-ltb n (suc n) (omega arith)) (lt-ltb t (suc n) (omega arith)))
    (both_pass (nat_lt (n + 1) (suc (suc (suc n))) && nat_lt (n + 2) (suc (suc (suc n)))) true
    (both_pass (nat_lt (n + 1) (suc (suc (suc n)))) (nat_lt (n + 2) (suc (suc (suc n)))) (lt-ltb (n + 1) (suc (suc (suc n))) (omega arith)) (lt-ltb (n + 2) (suc (suc (suc n))) (omega arith)))
    refl)

more-are : (sorts : List Sort) (n t : ℕ) (s o : Fraction) → IsConstant s → IsConstant o → All (IsNode sorts) (limit_nodes n t s o)
more-are sorts n t s o f h zero d l = f
more-are sorts n t s o f h (suc zero) d l = tt
more-are sorts n t s o f h (suc (suc zero)) d l = h
more-are sorts n t s o f h (suc (suc (suc zero))) d l = tt
more-are sorts n t s o f h (suc (suc (suc (suc k)))) d l = absurd (omega arith)

atoms-more : (n m : ℕ) (atoms : List (ℕ × Kind)) (a : ℕ × Kind) → n ≤ m → a.0 < m → All (λ (x : ℕ × Kind). x.0 < n) atoms → All (λ (x : ℕ × Kind). x.0 < m) (atoms ++ (a ∷ []))
atoms-more n m atoms a fewer there h = All-append (λ (x : ℕ × Kind). x.0 < m) atoms (a ∷ []) (λ i d l. let b = h i d l in omega (arith, b)) last
  where
    last : All (λ (x : ℕ × Kind). x.0 < m) (a ∷ [])
    last zero d l = there
    last (suc i) d l = absurd (omega arith)

-- ---- what a limit is

module _ (p : Problem) (k : ℕ) (d : Dyadic) (fits : IsTrue (is_limit p k d)) where
  abbrev few-bits : Bool
  few-bits = nat_le k 119

  abbrev is-multiple : Bool
  is-multiple = nat_eq (limit_size k d * 2 ^ (120 - k)) (nat_abs d.units)

  abbrev is-small : Bool
  is-small = nat_le (limit_size k d) (10 ^ 36)

  abbrev new-scale : Bool
  new-scale = not (has_constant p.nodes (scale_of k))

  abbrev new-offset : Bool
  new-offset = not (has_constant (constant_node (scale_of k) ∷ p.nodes) (offset_of k d))

  limit-facts : (k ≤ 119) × (limit_size k d * 2 ^ (120 - k) ≡ nat_abs d.units) × (limit_size k d ≤ 10 ^ 36)
  limit-facts =
      let a = both_true (few-bits && is-multiple && is-small && new-scale) new-offset fits in
      let b = both_true (few-bits && is-multiple && is-small) new-scale a.0 in
      let c = both_true (few-bits && is-multiple) is-small b.0 in
      let e = both_true few-bits is-multiple c.0 in
      (leb-true k 119 e.0, eqb-true (limit_size k d * 2 ^ (120 - k)) (nat_abs d.units) e.1, leb-true (limit_size k d) (10 ^ 36) c.1)

  scale-constant : IsConstant (scale_of k)
  scale-constant = whole-constant (pos (2 ^ k)) (let l = pow_le k 119 limit-facts.0 in omega (arith, l))

  offset-constant : IsConstant (offset_of k d)
  offset-constant = whole-constant (opposite (limit_size k d) d.units) (let l = limit-facts.2 in let e = size-opposite (limit_size k d) d.units in omega (arith, l, e))

  -- where a value is at most the limit
  limit-above : (v : Fraction) → IsTrue (at_most v (exact d)) → IsTrue (at_most (sum_of (product_of (scale_of k) v) (offset_of k d)) zero_fraction)
  unfolding at_most sum_of product_of
  limit-above v h =
      let f = limit-facts in
      let few : k ≤ 120 = omega (arith, f.0) in
      le_holds _ _ (scaled-below v.num d.units (opposite (limit_size k d) d.units) v.den (2 ^ k) (2 ^ (120 - k)) (pow_pos (120 - k))
      (opposite-times (limit_size k d) (2 ^ (120 - k)) d.units f.1)
      (subst (λ (w : ℕ). (v.num *ℤ pos w) ≤ℤ (d.units *ℤ pos v.den)) (pow_split k 120 few) (holds_le _ _ h)))

-- ---- the problem with a limit

margin-some : (s : Loosenings) → IsTrue (at_most zero_fraction (exact (margin_of s)))
unfolding at_most
margin-some s = le_holds _ _ (below (times (natural 0) (natural (2 ^ 120))) (times (natural (2 ^ (120 - s.margin_bits))) (natural 1)) (omega arith))

module _ (p : Problem) (good : IsProblem p) (g : ℕ) (there : g < length p.atoms) (k : ℕ) (d : Dyadic) (fits : IsTrue (is_limit p k d)) where
  abbrev new : Problem
  new = limited p g k d

  abbrev root : ℕ
  root = (atom_at p g).0

  abbrev more : List Node
  more = limit_nodes (length p.nodes) root (scale_of k) (offset_of k d)

  abbrev last : ℕ × Kind
  last = (length p.nodes + 3, le)

  root-there : root < length p.nodes
  root-there = good.atoms g no_place there

  more-nodes : length new.nodes ≡ length p.nodes + 4
  more-nodes = length-append p.nodes more

  more-atoms : length new.atoms ≡ length p.atoms + 1
  more-atoms = length-append p.atoms (last ∷ [])

  new-ordered : IsTrue (in_order 0 new.nodes)
  new-ordered = in-order-then 0 p.nodes more good.ordered
      (subst (λ (n : ℕ). IsTrue (in_order n more)) (let e : length p.nodes ≡ 0 + length p.nodes = omega arith in e) (more-in-order (length p.nodes) root (scale_of k) (offset_of k d) root-there))

  pub limited_problem : IsProblem (limited p g k d)
  limited_problem = record {
    bounds = good.bounds;
    ordered = new-ordered;
    nodes = All-append (IsNode (sorts_of_axes p.axes)) p.nodes more good.nodes
        (more-are (sorts_of_axes p.axes) (length p.nodes) root (scale_of k) (offset_of k d) (scale-constant p k d fits) (offset-constant p k d fits));
    atoms = let l = more-nodes in atoms-more (length p.nodes) (length new.nodes) p.atoms last (omega (arith, l)) (omega (arith, l)) good.atoms;
    form = let l = more-atoms in (form-in-more (sorts_of_axes p.axes) (length p.atoms) (length new.atoms) (omega (arith, l)) p.form good.form, (omega (arith, l), tt));
  }

  -- ---- the atoms

  -- the old ones are the same
  pub limited_term : (j : ℕ) → j < length p.atoms → (term_of (limited p g k d) j ≡ term_of p j) × (atom_at (limited p g k d) j ≡ atom_at p j)
  limited_term j h =
      let place : atom_at new j ≡ atom_at p j = get_or-append p.atoms (last ∷ []) no_place j h in
      (ap (λ (x : ℕ × Kind). term_at (graph_terms new.nodes) x.0) place ∙ terms-begin p.nodes more (atom_at p j).0 (good.atoms j no_place h), place)

  -- the new one
  pub limited_last : atom_at (limited p g k d) (length p.atoms) ≡ (length p.nodes + 3, le)
  limited_last = get_or-append_seam p.atoms last [] no_place

  node-at : (i : ℕ) (n : Node) → slice_get more i ≡ Some n → term_at (graph_terms new.nodes) (length p.nodes + i) ≡ node_term (graph_terms new.nodes) n
  node-at i n e = unfolds new.nodes new-ordered (length p.nodes + i) n (behind p.nodes more i n e)

  scale-term : term_at (graph_terms new.nodes) (length p.nodes) ≡ constant (scale_of k)
  scale-term = ap (λ (i : ℕ). term_at (graph_terms new.nodes) i) (let e : length p.nodes ≡ length p.nodes + 0 = omega arith in e) ∙ node-at 0 (constant_node (scale_of k)) refl

  pub limited_last_term : term_of (limited p g k d) (length p.atoms) ≡ add (multiply (constant (scale_of k)) (term_of p g)) (constant (offset_of k d))
  limited_last_term =
      ap (λ (x : ℕ × Kind). term_at (graph_terms new.nodes) x.0) limited_last
      ∙ node-at 3 (add_node (length p.nodes + 1) (length p.nodes + 2)) refl
      ∙ ap₂ add (node-at 1 (multiply_node (length p.nodes) root) refl ∙ ap₂ multiply scale-term (terms-begin p.nodes more root root-there)) (node-at 2 (constant_node (offset_of k d)) refl)

  last-holds : (m : Fraction) → IsTrue (at_most zero_fraction m) → (point : List Coordinate) → IsTrue (at_most (term_value point (term_of p g)) (exact d)) → IsTrue (atom_holds m point (full_atom new (length p.atoms)))
  last-holds m some point h =
      let v : Fraction = term_value point (term_of p g) in
      ap₂ (λ (t : Term) (kind : Kind). in_range m kind (term_value point t)) limited_last_term (ap (λ (x : ℕ × Kind). x.1) limited_last)
      ∙ through (sum_of (product_of (scale_of k) v) (offset_of k d)) zero_fraction m (lit< tt) (limit-above p k d fits v h) some

  -- at a point the goal is not below the limit, or the new atom holds, at each margin
  pub limited_goal : (m : Fraction) → IsTrue (at_most zero_fraction m) → (point : List Coordinate) → IsNotBelow p g (Some d) point ⊎ IsTrue (atom_holds m point (full_atom (limited p g k d) (length p.atoms)))
  limited_goal m some point = elim (total (exact d) (term_value point (term_of p g))) [ inl h ↦ inl h | inr h ↦ inr (last-holds m some point h) ]

  -- ---- the form

  old-holds : (m : Fraction) (point : List Coordinate) (j : ℕ) → j < length p.atoms → atom_holds m point (full_atom new j) ≡ atom_holds m point (full_atom p j)
  old-holds m point j h = let e = limited_term j h in ap₂ (λ (t : Term) (kind : Kind). in_range m kind (term_value point t)) e.0 (ap (λ (x : ℕ × Kind). x.1) e.1)

  meets-with : (s : Loosenings) (point : List Coordinate) → MeetsForm p s point → IsTrue (atom_holds (exact (margin_of s)) point (full_atom new (length p.atoms))) → MeetsForm new s point
  meets-with s point h also =
      let m : Fraction = exact (margin_of s) in
      let atoms : ℕ → Bool = λ j. atom_holds m point (full_atom new j) in
      both_pass (form_truth atoms (bool_holds point) p.form) (atoms (length p.atoms) && true)
      (same-truth (sorts_of_axes p.axes) (length p.atoms) atoms (λ j. atom_holds m point (full_atom p j)) (bool_holds point) (old-holds m point) p.form good.form ∙ h)
      (ap (λ b. b && true) also)

  -- where the goal is below the limit, a point that meets the form of p meets that with the limit
  pub limited_meets : (s : Loosenings) (point : List Coordinate) → (IsNotBelow p g (Some d) point → ⊥) → MeetsForm p s point → MeetsForm (limited p g k d) s point
  limited_meets s point never h = elim (limited_goal (exact (margin_of s)) (margin-some s) point) [
    | inl e ↦ absurd (never e)
    | inr e ↦ meets-with s point h e
  ]
