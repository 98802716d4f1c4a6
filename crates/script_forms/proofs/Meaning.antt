-- The tree of an expression means what the expression means, at every point and loosening.
use Rattle.std.proofs.Common.{◌≡◌, ℕ, List, [], ◌∷◌, ◌++◌, map, Bool, true, false, ◌&&◌, ◌||◌, cond, refl, ap, sym, ◌∙◌, length, nat_eq, arith, true≢false, suc, eqb→eq}
use Rattle.std.specs.Bool.{passes}
use native.Mathlib.Nat.{one-le-pow}
use Rattle.dyadic.specs.Fraction.{Fraction, IsFraction, zero_fraction, negated, sum_of, quotient_of, difference_of}
use Rattle.dyadic.specs.Point.{Coordinate}
use Rattle.script_model.specs.Sexp.{Place}
use Rattle.script_model.specs.Reading.{literal_value, Operator, truth, falsehood, negation, conjunction, disjunction, implication, exclusive, equality, distinctness, choice, minus, plus, times, divide, at_most_op, below_op, at_least_op, above_op}
use Rattle.script_model.specs.Meaning.{Pair, Value, real, bool, either as either_value, pair_of, step_values, compare_values, differing_values, subtract_values, choice_of, all_true, some_true, pos_of, neg_of, all_pair, true_pair, not_pair, xor_pair, implies_pair, neighbours, pairs, from_left, first_and_rest, equality_of, distinctness_of, negation_of, operation, loosened, at_most_pair, at_least_pair, equal_pair}
use Rattle.script_model.proofs.Related.{Each, Respects}
use Rattle.poly_graph.specs.Term.{Term, constant}
use Rattle.poly_graph.specs.Form.{Form}
use Rattle.dyadic.specs.Lowest.{reduced}
use Rattle.script_forms.specs.Terms.{Comparison, Unfolded, term, formula, refused, either, is_either, hold_either, behind_first, divisor_not_constant, negate_tree, all_steps, ill_formed, Fault, subtraction_tree, subtract_tree, divide_tree, add_tree}
use Rattle.script_forms.specs.Unfolded.{chain, not_of, xor_of, and_of, different, at_most_terms, at_least_terms, equal_terms, equal_two, differ_two, choice_tree, is_real_tree, picks_terms, are_terms, are_formulas, at_least_long, takes, operation_tree, unfolded_operation, as_tree, equality_form, distinctness_form, not_first, xor_all, xor_from, implies_of}
use Rattle.script_forms.proofs.Lowest.{reduced_same}
use Rattle.script_forms.proofs.Forms.{Same, EachSame, and_same, or_same, not_same, implies_same, xor_same, choice_same, any_pos}
use Rattle.script_forms.proofs.Powers.{product_tree_means}
use Rattle.script_forms.proofs.Quotient.{divide_constant}
use Rattle.script_forms.proofs.Means.{Means, Num, Reals, no_reals, more_reals, reals, Sames, no_sames, more_sames, all_formulas, each_of, checked_means, chain_means, neighbours_sames, pairs_sames, compare_says, compare_formula, IsFormula, real_or, lift_means, at_most_compares, at_least_compares, equal_compares, sum_means, difference_means, negated_num, steps_means, all_steps_means, add_real, subtract_real, divide_real, both_true}

module _ (m : Fraction) (point : List Coordinate) where
  -- ---- each operator, at arguments that it takes

  bool-neighbours : {ps : List Pair} {us : List Unfolded} → Sames m point ps us →
      Sames m point (neighbours (λ a b. not_pair (xor_pair a b)) ps) (neighbours (λ a b. not_of (xor_of a b)) us)
  bool-neighbours no_sames = no_sames
  bool-neighbours (more_sames h no_sames) = no_sames
  bool-neighbours (more_sames {p = p} {f = f} {g = g} h (more_sames {p = q} {f = f'} {g = g'} k r)) =
      more_sames (not_same m point (xor_pair p q) (xor_of (formula f g) (formula f' g')) (xor_same m point p q (formula f g) (formula f' g') h k)) (bool-neighbours (more_sames k r))

  or-left : (x y : Bool) → x || y ≡ true → y ≡ false → x ≡ true
  or-left true y h e = refl
  or-left false y h e = cc

  -- the first argument is a formula, so all are
  formulas-first : (us : List Unfolded) (u : Unfolded) (n : ℕ) → are_terms (u ∷ us) ≡ false →
      (are_formulas (u ∷ us) || are_terms (u ∷ us)) && at_least_long n (u ∷ us) ≡ true → are_formulas (u ∷ us) ≡ true
  formulas-first us u n e h = or-left (are_formulas (u ∷ us)) (are_terms (u ∷ us)) (both_true _ _ h).0 e

  equal-reals : (at : Place) (vs : List Value) (us : List Unfolded) → Each (Means m point) vs us → are_terms us ≡ true →
      Means m point (bool (all_pair (neighbours (compare_values (equal_pair m)) vs))) (chain (neighbours (equal_two at) us))
  equal-reals at vs us h e = chain_means m point (neighbours_sames m point (equal_pair m) (equal_terms at) (equal_compares m point at) (λ t u. tt) (reals m point vs us h e))

  equality-means : (at : Place) (vs : List Value) (us : List Unfolded) → Each (Means m point) vs us → takes equality us ≡ true → Means m point (bool (equality_of m vs)) (equality_form at us)
  equality-means at (bool p ∷ vs) (formula f g ∷ us) h e =
      chain_means m point (bool-neighbours (all_formulas m point (bool p ∷ vs) (formula f g ∷ us) h (formulas-first us (formula f g) 2 refl e)))
  equality-means at (real q ∷ vs) (term t ∷ us) h e = equal-reals at (real q ∷ vs) (term t ∷ us) h (both_true (are_terms us) _ e).0
  equality-means at (either_value p v w ∷ vs) (either f g a b ∷ us) h e =
      equal-reals at (either_value p v w ∷ vs) (either f g a b ∷ us) h (both_true (are_terms (either f g a b ∷ us)) _ e).0
  equality-means at (real q ∷ vs) (formula f g ∷ us) h e = elim h.0 [ ]
  equality-means at (either_value p v w ∷ vs) (formula f g ∷ us) h e = elim h.0 [ ]
  equality-means at (either_value p v w ∷ vs) (term t ∷ us) h e = elim h.0 [ ]
  equality-means at (real q ∷ vs) (either f g a b ∷ us) h e = elim h.0 [ ]
  equality-means at (bool p ∷ vs) (either f g a b ∷ us) h e = elim h.0 [ ]
  equality-means at (bool p ∷ vs) (term t ∷ us) h e = elim h.0 [ ]
  equality-means at (v ∷ vs) (refused x ∷ us) h e = cc
  equality-means at [] [] h e = cc
  equality-means at [] (u ∷ us) h e = elim h [ ]
  equality-means at (v ∷ vs) [] h e = elim h [ ]

  append-same : (ps qs : List Pair) (us vs : List Unfolded) → EachSame m point ps us → EachSame m point qs vs → EachSame m point (ps ++ qs) (us ++ vs)
  append-same [] qs [] vs h k = k
  append-same (p ∷ ps) qs (u ∷ us) vs h k = (h.0, append-same ps qs us vs h.1 k)
  append-same [] qs (u ∷ us) vs h k = elim h [ ]
  append-same (p ∷ ps) qs [] vs h k = elim h [ ]

  xor-each : (p : Pair) (u : Unfolded) (ps : List Pair) (us : List Unfolded) → Same m point p u → EachSame m point ps us → EachSame m point (map (xor_pair p) ps) (map (xor_of u) us)
  xor-each p u [] [] h k = tt
  xor-each p u (q ∷ ps) (v ∷ us) h k = (xor_same m point p q u v h k.0, xor-each p u ps us h k.1)
  xor-each p u [] (v ∷ us) h k = elim k [ ]
  xor-each p u (q ∷ ps) [] h k = elim k [ ]

  xor-pairs : (ps : List Pair) (us : List Unfolded) → EachSame m point ps us → EachSame m point (pairs xor_pair ps) (pairs xor_of us)
  xor-pairs [] [] h = tt
  xor-pairs (p ∷ ps) (u ∷ us) h = append-same (map (xor_pair p) ps) (pairs xor_pair ps) (map (xor_of u) us) (pairs xor_of us) (xor-each p u ps us h.0 h.1) (xor-pairs ps us h.1)
  xor-pairs [] (u ∷ us) h = elim h [ ]
  xor-pairs (p ∷ ps) [] h = elim h [ ]

  -- of the pairs of `distinct` every pos is true, and the neg is the pos of `=`
  abbrev IsPlain : Value → Type 0
  IsPlain (real q) = Unit {0}
  IsPlain v = ⊥

  abbrev ArePlain : List Value → Type 0
  ArePlain [] = Unit {0}
  ArePlain (v ∷ vs) = IsPlain v × ArePlain vs

  plain-one : (v : Value) (u : Unfolded) → Means m point v u → is_either u ≡ false → is_real_tree u ≡ true → IsPlain v
  plain-one (real q) u h e r = tt
  plain-one (either_value p v w) (either c d a b) h e r = cc
  plain-one (bool p) (formula f g) h e r = cc
  plain-one v (refused x) h e r = cc
  plain-one (either_value p v w) (term t) h e r = elim h [ ]
  plain-one (either_value p v w) (formula f g) h e r = elim h [ ]
  plain-one (bool p) (term t) h e r = elim h [ ]
  plain-one (bool p) (either c d a b) h e r = elim h [ ]

  neither : (x y : Bool) → x || y ≡ false → (x ≡ false) × (y ≡ false)
  neither false y h = (refl, h)
  neither true y h = cc

  plain : (vs : List Value) (us : List Unfolded) → Each (Means m point) vs us → are_terms us ≡ true → hold_either us ≡ false → ArePlain vs
  plain [] [] h r e = tt
  plain (v ∷ vs) (u ∷ us) h r e = let b = both_true (is_real_tree u) (are_terms us) r in let n = neither (is_either u) (hold_either us) e in (plain-one v u h.0 n.0 b.0, plain vs us h.1 b.1 n.1)
  plain [] (u ∷ us) h r e = elim h [ ]
  plain (v ∷ vs) [] h r e = elim h [ ]

  different-pos : (v : Value) (vs : List Value) (ps : List Pair) → IsPlain v → ArePlain vs → all_true (map pos_of ps) ≡ true → all_true (map pos_of (map (differing_values m v) vs ++ ps)) ≡ true
  different-pos v [] ps i j h = h
  different-pos (real q) (real r ∷ vs) ps i j h = different-pos (real q) vs ps i j.1 h
  different-pos (real q) (bool p ∷ vs) ps i j h = elim j.0 [ ]
  different-pos (real q) (either_value p v w ∷ vs) ps i j h = elim j.0 [ ]
  different-pos (bool p) (v ∷ vs) ps i j h = elim i [ ]
  different-pos (either_value p v w) (x ∷ vs) ps i j h = elim i [ ]

  distinct-pos : (vs : List Value) → ArePlain vs → true ≡ all_true (map pos_of (pairs (differing_values m) vs))
  distinct-pos [] j = refl
  distinct-pos (v ∷ vs) j = sym (different-pos v vs (pairs (differing_values m) vs) j.0 j.1 (sym (distinct-pos vs j.1)))

  different-neg : (v : Value) (vs : List Value) (ps ps' : List Pair) → some_true (map pos_of ps) ≡ some_true (map neg_of ps') →
      some_true (map pos_of (map (compare_values (equal_pair m) v) vs ++ ps)) ≡ some_true (map neg_of (map (differing_values m v) vs ++ ps'))
  different-neg v [] ps ps' h = h
  different-neg v (w ∷ vs) ps ps' h = ap (λ x. (compare_values (equal_pair m) v w).pos || x) (different-neg v vs ps ps' h)

  distinct-neg : (vs : List Value) → some_true (map pos_of (pairs (compare_values (equal_pair m)) vs)) ≡ some_true (map neg_of (pairs (differing_values m) vs))
  distinct-neg [] = refl
  distinct-neg (v ∷ vs) = different-neg v vs (pairs (compare_values (equal_pair m)) vs) (pairs (differing_values m) vs) (distinct-neg vs)

  not-formula : (u : Unfolded) → IsFormula m point (not_of u)
  not-formula u = tt

  differ-reals : (at : Place) (vs : List Value) (us : List Unfolded) → Each (Means m point) vs us → are_terms us ≡ true → (b : Bool) → hold_either us ≡ b →
      Means m point (bool (all_pair (pairs (differing_values m) vs))) (cond b (and_of (pairs (differ_two at) us)) (different (pairs (equal_two at) us)))
  differ-reals at vs us h r true e = and_same m point (pairs (differing_values m) vs) (pairs (differ_two at) us)
      (each_of m point (pairs_sames m point (differing_values m) (differ_two at)
      (λ v w t u i j k l. (not_same m point (compare_values (equal_pair m) v w) (equal_two at t u) (compare_says m point (equal_pair m) (equal_terms at) (equal_compares m point at) v w t u i j k l), tt))
      (reals m point vs us h r)))
  differ-reals at vs us h r false e = record {
    pos = distinct-pos vs (plain vs us h r e);
    neg = any_pos m point (pairs (compare_values (equal_pair m)) vs) (pairs (equal_two at) us)
        (each_of m point (pairs_sames m point (compare_values (equal_pair m)) (equal_two at)
        (λ v w t u i j k l. (compare_says m point (equal_pair m) (equal_terms at) (equal_compares m point at) v w t u i j k l, compare_formula m point (equal_terms at) (λ x y. tt) t u))
        (reals m point vs us h r)))
        ∙ distinct-neg vs;
  }

  distinctness-means : (at : Place) (vs : List Value) (us : List Unfolded) → Each (Means m point) vs us → takes distinctness us ≡ true → Means m point (bool (distinctness_of m vs)) (distinctness_form at us)
  distinctness-means at (bool p ∷ vs) (formula f g ∷ us) h e =
      and_same m point (pairs xor_pair (map pair_of (bool p ∷ vs))) (pairs xor_of (formula f g ∷ us)) (xor-pairs (map pair_of (bool p ∷ vs)) (formula f g ∷ us)
      (each_of m point (all_formulas m point (bool p ∷ vs) (formula f g ∷ us) h (formulas-first us (formula f g) 2 refl e))))
  distinctness-means at (real q ∷ vs) (term t ∷ us) h e = differ-reals at (real q ∷ vs) (term t ∷ us) h (both_true (are_terms us) _ e).0 (hold_either (term t ∷ us)) refl
  distinctness-means at (either_value p v w ∷ vs) (either f g a b ∷ us) h e =
      differ-reals at (either_value p v w ∷ vs) (either f g a b ∷ us) h (both_true (are_terms (either f g a b ∷ us)) _ e).0 true refl
  distinctness-means at (real q ∷ vs) (formula f g ∷ us) h e = elim h.0 [ ]
  distinctness-means at (bool p ∷ vs) (term t ∷ us) h e = elim h.0 [ ]
  distinctness-means at (either_value p v w ∷ vs) (formula f g ∷ us) h e = elim h.0 [ ]
  distinctness-means at (either_value p v w ∷ vs) (term t ∷ us) h e = elim h.0 [ ]
  distinctness-means at (real q ∷ vs) (either f g a b ∷ us) h e = elim h.0 [ ]
  distinctness-means at (bool p ∷ vs) (either f g a b ∷ us) h e = elim h.0 [ ]
  distinctness-means at (v ∷ vs) (refused x ∷ us) h e = cc
  distinctness-means at [] [] h e = cc
  distinctness-means at [] (u ∷ us) h e = elim h [ ]
  distinctness-means at (v ∷ vs) [] h e = elim h [ ]

  minus-means : (at : Place) {vs : List Value} {us : List Unfolded} → Reals m point vs us → at_least_long 1 us ≡ true → Means m point (subtract_values vs) (subtraction_tree at us)
  minus-means at no_reals e = cc
  minus-means at (more_reals {v = v} {u = u} r h no_reals) e = lift_means m point (λ q. real (negated q)) (λ t. term (negate_tree t)) (λ q t n. negated_num m point q t n) v u (real_or m point u r) h
  minus-means at (more_reals {v = v} {u = u} r h (more_reals s k rest)) e =
      steps_means m point difference_of (subtract_tree at) (difference_means m point at) (subtract_real m point at) v u (real_or m point u r) h (more_reals s k rest)

  divide-means : (at : Place) (p q : Fraction) (t u : Term) → Num m point p t → Num m point q u → Means m point (real (quotient_of p q)) (divide_tree at t u)
  divide-means at p q t (constant c) h k = divide_constant m point at p q.num q.den t c.num c.den h k
  divide-means at p q t _ h k = tt

  quotient-means : (at : Place) (b : Bool) {vs : List Value} {us : List Unfolded} → Reals m point vs us →
      Means m point (first_and_rest (step_values quotient_of) (real zero_fraction) vs) (cond b (refused (divisor_not_constant at)) (all_steps (divide_tree at) us))
  quotient-means at true h = tt
  quotient-means at false h = all_steps_means m point quotient_of (divide_tree at) (divide-means at) (divide_real m point at) h

  negation-means : {ps : List Pair} {us : List Unfolded} → Sames m point ps us → nat_eq (length us) 1 ≡ true → Means m point (bool (negation_of ps)) (not_first us)
  negation-means (more_sames {p = p} {f = f} {g = g} h r) e = not_same m point p (formula f g) h
  negation-means no_sames e = cc

  pick-means : (c a b : Value) (x y z : Unfolded) (vs : List Value) (us : List Unfolded) → Means m point c x → Means m point a y → Means m point b z → is_real_tree y ≡ true → is_real_tree z ≡ true →
      (f g : Form Comparison) → x ≡ formula f g → Means m point (choice_of (c ∷ a ∷ b ∷ vs)) (choice_tree (x ∷ y ∷ z ∷ us))
  pick-means (bool p) (real q) b (formula f g) (term t) z vs us h k l r s f' g' e = (h, k, l)
  pick-means (bool p) (either_value o v w) b (formula f g) (either c d a' b') z vs us h k l r s f' g' e = (h, k, l)
  pick-means (real q) a b (formula f g) y z vs us h k l r s f' g' e = elim h [ ]
  pick-means (either_value o v w) a b (formula f g) y z vs us h k l r s f' g' e = elim h [ ]
  pick-means c a b (term t) y z vs us h k l r s f' g' e = cc
  pick-means c a b (refused x) y z vs us h k l r s f' g' e = cc
  pick-means c a b (either c' d' a' b') y z vs us h k l r s f' g' e = cc
  pick-means (bool p) a b (formula f g) (formula f' g') z vs us h k l r s f'' g'' e = cc
  pick-means (bool p) a b (formula f g) (refused x) z vs us h k l r s f' g' e = cc
  pick-means (bool p) (bool o) b (formula f g) (term t) z vs us h k l r s f' g' e = elim k [ ]
  pick-means (bool p) (either_value o v w) b (formula f g) (term t) z vs us h k l r s f' g' e = elim k [ ]
  pick-means (bool p) (real q) b (formula f g) (either c d a' b') z vs us h k l r s f' g' e = elim k [ ]
  pick-means (bool p) (bool o) b (formula f g) (either c d a' b') z vs us h k l r s f' g' e = elim k [ ]

  three-formulas : (vs : List Value) {ps : List Pair} {us : List Unfolded} → Sames m point ps us → ps ≡ map pair_of vs → Each (Means m point) vs us → nat_eq (length us) 3 ≡ true → Means m point (choice_of vs) (choice_tree us)
  three-formulas (bool p ∷ bool q ∷ bool r ∷ []) (more_sames {f = f} {g = g} h (more_sames {f = f'} {g = g'} k (more_sames {f = f''} {g = g''} l no_sames))) i e n =
      choice_same m point p q r (formula f g) (formula f' g') (formula f'' g'') e.0 e.1.0 e.1.1.0 []
  three-formulas (v ∷ w ∷ x ∷ vs) (more_sames h (more_sames k (more_sames l (more_sames {us = us} o r)))) i e n = absurd (omega (arith, eqb→eq (suc (suc (suc (suc (length us))))) 3 (passes _ n)))
  three-formulas vs (more_sames h (more_sames k no_sames)) i e n = cc
  three-formulas vs (more_sames h no_sames) i e n = cc
  three-formulas vs no_sames i e n = cc
  three-formulas (real q ∷ vs) (more_sames h (more_sames k (more_sames l r))) i e n = elim e.0 [ ]
  three-formulas (either_value o v w ∷ vs) (more_sames h (more_sames k (more_sames l r))) i e n = elim e.0 [ ]
  three-formulas (x ∷ real q ∷ vs) (more_sames h (more_sames k (more_sames l r))) i e n = elim e.1.0 [ ]
  three-formulas (x ∷ either_value o v w ∷ vs) (more_sames h (more_sames k (more_sames l r))) i e n = elim e.1.0 [ ]
  three-formulas (x ∷ y ∷ real q ∷ vs) (more_sames h (more_sames k (more_sames l r))) i e n = elim e.1.1.0 [ ]
  three-formulas (x ∷ y ∷ either_value o v w ∷ vs) (more_sames h (more_sames k (more_sames l r))) i e n = elim e.1.1.0 [ ]
  three-formulas [] (more_sames h (more_sames k (more_sames l r))) i e n = elim e [ ]
  three-formulas (x ∷ []) (more_sames h (more_sames k (more_sames l r))) i e n = elim e.1 [ ]
  three-formulas (x ∷ y ∷ []) (more_sames h (more_sames k (more_sames l r))) i e n = elim e.1.1 [ ]
  three-formulas (x ∷ y ∷ z ∷ v ∷ vs) (more_sames h (more_sames k (more_sames l no_sames))) i e n = elim e.1.1.1 [ ]

  or-else : (x y : Bool) → x || y ≡ true → x ≡ false → y ≡ true
  or-else true y h e = cc
  or-else false y h e = h

  choice-picked : (vs : List Value) (us : List Unfolded) → Each (Means m point) vs us → picks_terms us ≡ true → Means m point (choice_of vs) (choice_tree us)
  choice-picked (c ∷ a ∷ b ∷ []) (formula f g ∷ y ∷ z ∷ []) h e =
      let r = both_true (is_real_tree y) (is_real_tree z && true) (both_true (are_terms (y ∷ z ∷ [])) true e).0 in
      pick-means c a b (formula f g) y z [] [] h.0 h.1.0 h.1.1.0 r.0 (both_true (is_real_tree z) true r.1).0 f g refl
  choice-picked vs [] h e = cc
  choice-picked vs (term t ∷ us) h e = cc
  choice-picked vs (refused x ∷ us) h e = cc
  choice-picked vs (either c d a b ∷ us) h e = cc
  choice-picked vs (formula f g ∷ []) h e = cc
  choice-picked vs (formula f g ∷ y ∷ []) h e = absurd (true≢false (sym ((both_true (are_terms (y ∷ [])) false e).1)))
  choice-picked vs (formula f g ∷ y ∷ z ∷ x ∷ us) h e = absurd (omega (arith, eqb→eq (suc (suc (suc (length us)))) 2 (passes _ (both_true (are_terms (y ∷ z ∷ x ∷ us)) _ e).1)))
  choice-picked [] (formula f g ∷ us) h e = elim h [ ]
  choice-picked (c ∷ []) (formula f g ∷ y ∷ us) h e = elim h.1 [ ]
  choice-picked (c ∷ a ∷ []) (formula f g ∷ y ∷ z ∷ us) h e = elim h.1.1 [ ]
  choice-picked (c ∷ a ∷ b ∷ d ∷ vs) (formula f g ∷ y ∷ z ∷ []) h e = elim h.1.1.1 [ ]

  choice-means : (vs : List Value) (us : List Unfolded) → Each (Means m point) vs us → takes choice us ≡ true → Means m point (choice_of vs) (choice_tree us)
  choice-means vs us h e = go (are_formulas us && nat_eq (length us) 3) refl
    where
      go : (b : Bool) → are_formulas us && nat_eq (length us) 3 ≡ b → Means m point (choice_of vs) (choice_tree us)
      go true k = let b = both_true (are_formulas us) _ k in three-formulas vs (all_formulas m point vs us h b.0) refl h b.1
      go false k = choice-picked vs us h (or-else (are_formulas us && nat_eq (length us) 3) (picks_terms us) e k)

  implies-means : {ps : List Pair} {us : List Unfolded} → Sames m point ps us → Means m point (bool (implies_pair ps)) (implies_of us)
  implies-means no_sames = record { pos = refl; neg = refl }
  implies-means (more_sames h no_sames) = h
  implies-means (more_sames {p = p} {f = f} {g = g} h (more_sames {p = q} {f = f'} {g = g'} {ps = ps} {us = us} k r)) =
      implies_same m point (p ∷ q ∷ ps) (formula f g ∷ formula f' g' ∷ us) (each_of m point (more_sames h (more_sames k r)))

  xor-means : (p : Pair) (f g : Form Comparison) → Same m point p (formula f g) → {ps : List Pair} {us : List Unfolded} → Sames m point ps us →
      Means m point (bool (from_left xor_pair p ps)) (xor_from (formula f g) us)
  xor-means p f g h no_sames = h
  xor-means p f g h (more_sames {p = q} {f = f'} {g = g'} k r) = xor-means (xor_pair p q) _ _ (xor_same m point p q (formula f g) (formula f' g') h k) r

  exclusive-means : {ps : List Pair} {us : List Unfolded} → Sames m point ps us → Means m point (bool (first_and_rest xor_pair true_pair ps)) (xor_all us)
  exclusive-means no_sames = record { pos = refl; neg = refl }
  exclusive-means (more_sames {p = p} {f = f} {g = g} h r) = xor-means p f g h r

  apply-means : (at : Place) (op : Operator) (vs : List Value) (us : List Unfolded) → Each (Means m point) vs us → takes op us ≡ true → Means m point (operation m op vs) (unfolded_operation at op us)
  apply-means at truth vs us h e = record { pos = refl; neg = refl }
  apply-means at falsehood vs us h e = record { pos = refl; neg = refl }
  apply-means at negation vs us h e = let b = both_true (are_formulas us) _ e in negation-means (all_formulas m point vs us h b.0) b.1
  apply-means at conjunction vs us h e = and_same m point _ us (each_of m point (all_formulas m point vs us h (both_true (are_formulas us) _ e).0))
  apply-means at disjunction vs us h e = or_same m point _ us (each_of m point (all_formulas m point vs us h (both_true (are_formulas us) _ e).0))
  apply-means at implication vs us h e = implies-means (all_formulas m point vs us h (both_true (are_formulas us) _ e).0)
  apply-means at exclusive vs us h e = exclusive-means (all_formulas m point vs us h (both_true (are_formulas us) _ e).0)
  apply-means at equality vs us h e = equality-means at vs us h e
  apply-means at distinctness vs us h e = distinctness-means at vs us h e
  apply-means at choice vs us h e = choice-means vs us h e
  apply-means at minus vs us h e = let b = both_true (are_terms us) _ e in minus-means at (reals m point vs us h b.0) b.1
  apply-means at plus vs us h e = all_steps_means m point sum_of (add_tree at) (sum_means m point at) (add_real m point at) (reals m point vs us h (both_true (are_terms us) _ e).0)
  apply-means at times vs us h e = product_tree_means m point at (reals m point vs us h (both_true (are_terms us) _ e).0)
  apply-means at divide vs us h e = quotient-means at (hold_either (behind_first us)) (reals m point vs us h (both_true (are_terms us) _ e).0)
  apply-means at at_most_op vs us h e = chain_means m point (neighbours_sames m point (at_most_pair m) (at_most_terms at) (at_most_compares m point at) (λ t u. tt) (reals m point vs us h (both_true (are_terms us) _ e).0))
  apply-means at below_op vs us h e = chain_means m point (neighbours_sames m point (at_most_pair m) (at_most_terms at) (at_most_compares m point at) (λ t u. tt) (reals m point vs us h (both_true (are_terms us) _ e).0))
  apply-means at at_least_op vs us h e = chain_means m point (neighbours_sames m point (at_least_pair m) (at_least_terms at) (at_least_compares m point at) (λ t u. tt) (reals m point vs us h (both_true (are_terms us) _ e).0))
  apply-means at above_op vs us h e = chain_means m point (neighbours_sames m point (at_least_pair m) (at_least_terms at) (at_least_compares m point at) (λ t u. tt) (reals m point vs us h (both_true (are_terms us) _ e).0))

  literal-means : (q : Fraction) → IsFraction q → Means m point (real q) (term (constant (reduced q)))
  literal-means q f = let h = reduced_same q f in record { one = f; other = h.0; equal = h.1 }

  refused-at : (v : Value) (b : Bool) (u : Unfolded) (x : Fault) → b ≡ b → (b ≡ true → Means m point v u) → Means m point v (cond b u (refused x))
  refused-at v true u x e f = f refl
  refused-at v false u x e f = tt

  operation-means : (at : Place) (op : Operator) (vs : List Value) (us : List Unfolded) → Each (Means m point) vs us → Means m point (operation m op vs) (operation_tree at op us)
  operation-means at op vs us h =
      checked_means m point (operation m op vs) us (cond (takes op us) (unfolded_operation at op us) (refused (ill_formed at)))
      (λ e. refused-at (operation m op vs) (takes op us) (unfolded_operation at op us) (ill_formed at) refl (apply-means at op vs us h))

  pub respects : Respects (Means m point) (loosened m) as_tree
  respects = record {
    literal = λ at digits more_digits. literal-means (literal_value digits more_digits) (one-le-pow (length more_digits) 10 (omega arith));
    named = λ at v u h. h;
    annotated = λ at v u h. h;
    apply = operation-means;
    bind = λ at names vs us v u h k. checked_means m point v us u (λ e. k);
    call = λ at vs us v u h k. checked_means m point v us u (λ e. k);
    nothing = λ at why. tt;
  }
