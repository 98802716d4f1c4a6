-- The tree of a Bool expression means what the expression means, operator by operator.
use Rattle.std.proofs.Common.{◌≡◌, List, [], ◌∷◌, map, Bool, true, false, ◌&&◌, ◌||◌, refl, ap₂, ◌∙◌}
use Rattle.dyadic.specs.Fraction.{Fraction, difference_of}
use Rattle.dyadic.specs.Point.{Coordinate}
use Rattle.poly_graph.specs.Term.{term_value, in_range}
use Rattle.poly_graph.specs.Form.{Form, all_form, Forms, form_truth, all_truth, any_truth}
use Rattle.script_model.specs.Meaning.{Pair, all_true, some_true, pos_of, neg_of, all_pair, any_pair, not_pair, xor_pair, choice_pair, implies_pair, from_left}
use Rattle.script_forms.specs.Terms.{Comparison, Unfolded}
use Rattle.script_forms.specs.Unfolded.{truth_of, negation_form, forms_of, two, and_of, or_of, not_of, implies_of, xor_of, xor_from, choice_form}
use Rattle.poly_graph.specs.Problem.{bool_holds}

-- a comparison holds at the point, loosened by m
abbrev pub comparison_holds : Fraction → List Coordinate → Comparison → Bool
comparison_holds m point c = in_range m c.kind (difference_of (term_value point c.left) (term_value point c.right))

module _ (m : Fraction) (point : List Coordinate) where
  -- the truth of a form at the point, loosened by m
  abbrev pub holds : Form Comparison → Bool
  holds f = form_truth (comparison_holds m point) (bool_holds point) f

  abbrev pub all_hold : Forms Comparison → Bool
  all_hold fs = all_truth (comparison_holds m point) (bool_holds point) fs

  abbrev pub any_holds : Forms Comparison → Bool
  any_holds fs = any_truth (comparison_holds m point) (bool_holds point) fs

  -- the pair is that of the two forms
  pub record Same (p : Pair) (u : Unfolded) : Type 0 where
    pub pos : holds (truth_of u) ≡ p.pos
    pub neg : holds (negation_form u) ≡ p.neg

  abbrev pub EachSame : List Pair → List Unfolded → Type 0
  EachSame [] [] = Unit {0}
  EachSame (p ∷ ps) (u ∷ us) = Same p u × EachSame ps us
  EachSame _ _ = ⊥

  pub all_pos : (ps : List Pair) (us : List Unfolded) → EachSame ps us → all_hold (forms_of truth_of us) ≡ all_true (map pos_of ps)
  all_pos [] [] h = refl
  all_pos (p ∷ ps) (u ∷ us) h = ap₂ (λ x y. x && y) h.0.pos (all_pos ps us h.1)
  all_pos [] (u ∷ us) h = elim h [ ]
  all_pos (p ∷ ps) [] h = elim h [ ]

  all-neg : (ps : List Pair) (us : List Unfolded) → EachSame ps us → all_hold (forms_of negation_form us) ≡ all_true (map neg_of ps)
  all-neg [] [] h = refl
  all-neg (p ∷ ps) (u ∷ us) h = ap₂ (λ x y. x && y) h.0.neg (all-neg ps us h.1)
  all-neg [] (u ∷ us) h = elim h [ ]
  all-neg (p ∷ ps) [] h = elim h [ ]

  pub any_pos : (ps : List Pair) (us : List Unfolded) → EachSame ps us → any_holds (forms_of truth_of us) ≡ some_true (map pos_of ps)
  any_pos [] [] h = refl
  any_pos (p ∷ ps) (u ∷ us) h = ap₂ (λ x y. x || y) h.0.pos (any_pos ps us h.1)
  any_pos [] (u ∷ us) h = elim h [ ]
  any_pos (p ∷ ps) [] h = elim h [ ]

  any-neg : (ps : List Pair) (us : List Unfolded) → EachSame ps us → any_holds (forms_of negation_form us) ≡ some_true (map neg_of ps)
  any-neg [] [] h = refl
  any-neg (p ∷ ps) (u ∷ us) h = ap₂ (λ x y. x || y) h.0.neg (any-neg ps us h.1)
  any-neg [] (u ∷ us) h = elim h [ ]
  any-neg (p ∷ ps) [] h = elim h [ ]

  pub and_same : (ps : List Pair) (us : List Unfolded) → EachSame ps us → Same (all_pair ps) (and_of us)
  and_same ps us h = record { pos = all_pos ps us h; neg = any-neg ps us h }

  pub or_same : (ps : List Pair) (us : List Unfolded) → EachSame ps us → Same (any_pair ps) (or_of us)
  or_same ps us h = record { pos = any_pos ps us h; neg = all-neg ps us h }

  pub not_same : (p : Pair) (u : Unfolded) → Same p u → Same (not_pair p) (not_of u)
  not_same p u h = record { pos = h.neg; neg = h.pos }

  and_true : (b : Bool) → b && true ≡ b
  and_true true = refl
  and_true false = refl

  or_false : (b : Bool) → b || false ≡ b
  or_false true = refl
  or_false false = refl

  both-hold : (f g : Form Comparison) (x y : Bool) → holds f ≡ x → holds g ≡ y → all_hold (two f g) ≡ x && y
  both-hold f g x y h k = ap₂ (λ x y. x && y) h (and_true (holds g) ∙ k)

  one-holds : (f g : Form Comparison) (x y : Bool) → holds f ≡ x → holds g ≡ y → any_holds (two f g) ≡ x || y
  one-holds f g x y h k = ap₂ (λ x y. x || y) h (or_false (holds g) ∙ k)

  pub xor_same : (p q : Pair) (u v : Unfolded) → Same p u → Same q v → Same (xor_pair p q) (xor_of u v)
  xor_same p q u v h k = record {
    pos = one-holds (all_form (two (truth_of u) (negation_form v))) (all_form (two (negation_form u) (truth_of v))) _ _
        (both-hold (truth_of u) (negation_form v) _ _ h.pos k.neg) (both-hold (negation_form u) (truth_of v) _ _ h.neg k.pos);
    neg = one-holds (all_form (two (truth_of u) (truth_of v))) (all_form (two (negation_form u) (negation_form v))) _ _
        (both-hold (truth_of u) (truth_of v) _ _ h.pos k.pos) (both-hold (negation_form u) (negation_form v) _ _ h.neg k.neg);
  }

  pub implies_same : (ps : List Pair) (us : List Unfolded) → EachSame ps us → Same (implies_pair ps) (implies_of us)
  implies_same [] [] h = record { pos = refl; neg = refl }
  implies_same (p ∷ []) (u ∷ []) h = h.0
  implies_same (p ∷ q ∷ ps) (u ∷ v ∷ us) h = let k = implies_same (q ∷ ps) (v ∷ us) h.1 in record {
    pos = one-holds (negation_form u) (truth_of (implies_of (v ∷ us))) _ _ h.0.neg k.pos;
    neg = both-hold (truth_of u) (negation_form (implies_of (v ∷ us))) _ _ h.0.pos k.neg;
  }
  implies_same [] (u ∷ us) h = elim h [ ]
  implies_same (p ∷ ps) [] h = elim h [ ]
  implies_same (p ∷ []) (u ∷ v ∷ us) h = elim h.1 [ ]
  implies_same (p ∷ q ∷ ps) (u ∷ []) h = elim h.1 [ ]

  pub xor_from_same : (p : Pair) (u : Unfolded) (ps : List Pair) (us : List Unfolded) → Same p u → EachSame ps us → Same (from_left xor_pair p ps) (xor_from u us)
  xor_from_same p u [] [] h k = h
  xor_from_same p u (q ∷ ps) (v ∷ us) h k = xor_from_same (xor_pair p q) (xor_of u v) ps us (xor_same p q u v h k.0) k.1
  xor_from_same p u [] (v ∷ us) h k = elim k [ ]
  xor_from_same p u (q ∷ ps) [] h k = elim k [ ]

  pub choice_same : (c a b : Pair) (u v w : Unfolded) → Same c u → Same a v → Same b w → (us : List Unfolded) → Same (choice_pair c a b) (choice_form (u ∷ v ∷ w ∷ us))
  choice_same c a b u v w h k l us = record {
    pos = one-holds (all_form (two (truth_of u) (truth_of v))) (all_form (two (negation_form u) (truth_of w))) _ _
        (both-hold (truth_of u) (truth_of v) _ _ h.pos k.pos) (both-hold (negation_form u) (truth_of w) _ _ h.neg l.pos);
    neg = one-holds (all_form (two (truth_of u) (negation_form v))) (all_form (two (negation_form u) (negation_form w))) _ _
        (both-hold (truth_of u) (negation_form v) _ _ h.pos k.neg) (both-hold (negation_form u) (negation_form w) _ _ h.neg l.neg);
  }
