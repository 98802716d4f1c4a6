-- The arms of a Real value, and what is made of two.
use Rattle.std.proofs.Common.{◌≡◌, ℕ, List, [], ◌∷◌, ◌++◌, length, Some, refl, ap, sym, ◌∙◌, subst}
use Rattle.std.specs.Prelude.{slice_get, Ok}
use Rattle.script_model.specs.Sexp.{Place}
use Rattle.poly_graph.specs.Term.{Term, Kind, le, ge, eq}
use Rattle.poly_graph.specs.Form.{Form}
use Rattle.script_forms.specs.Terms.{Comparison, Unfolded, term, formula, either, arms}
use Rattle.script_forms.specs.Unfolded.{compare_two}
use Rattle.term_build.specs.Built.{BuilderModel, stand_of}
use Rattle.term_build.specs.Does.{IsTree}
use Rattle.term_build.specs.Sketch.{SketchNode, choice_sketch, as_choice, IsSketch}
use Rattle.term_build.specs.Pairs.{Grown, Draws, AddsChoice, compared}
use Rattle.term_build.specs.declared.connectives.Pair.{Pair}
use Rattle.term_build.specs.declared.sketch.Arm.{Arm}
use Rattle.term_build.specs.declared.sketch.Arm.TheVariants as arm
use Rattle.term_build.proofs.Pairs.{pair_more, sketch_end}
use Rattle.term_build.proofs.Settled.{extends_self}
use Rattle.value_build.specs.Arms.{IsLifted, terms_of}
use Rattle.value_build.specs.Values.{IsArm, is_tree, is_choice}
use Rattle.value_build.proofs.Growth.{arm_stays}

-- ---- arms

-- the parts of a Real `ite`
pub record ChoiceParts (m : BuilderModel) (ds : List SketchNode) (u : Unfolded) (p : Pair) (x y : Arm) : Type 0 where
  pub c : Form Comparison
  pub d : Form Comparison
  pub a : Unfolded
  pub b : Unfolded
  pub is : u ≡ either c d a b
  pub drawn : Draws (stand_of m).trees ds (formula c d) p
  pub one : IsArm m ds a x
  pub other : IsArm m ds b y

pub parts : (m : BuilderModel) (ds : List SketchNode) (u : Unfolded) (k : ℕ) (p : Pair) (x y : Arm) → Some (p, x, y) ≡ as_choice (slice_get ds k) → IsArm m ds u (arm.Choice k) → ChoiceParts m ds u p x y
parts m ds _ k p x y h (is_choice {c = c} {d = d} {u = a} {v = b} {p = p'} {x = x'} {y = y'} e w i j) =
    let q = h ∙ ap as_choice e in
    let left : Pair × Arm × Arm = (p, x, y) in let right : Pair × Arm × Arm = (p', x', y') in
    let t : left ≡ right = cc in record {
      c = c;
      d = d;
      a = a;
      b = b;
      is = refl;
      drawn = subst (λ (z : Pair). Draws (stand_of m).trees ds (formula c d) z) (sym (ap (λ z. z.0) t)) w;
      one = subst (λ (z : Arm). IsArm m ds a z) (sym (ap (λ z. z.1) t)) i;
      other = subst (λ (z : Arm). IsArm m ds b z) (sym (ap (λ z. z.2) t)) j;
    }

pub tree_parts : (m : BuilderModel) (ds : List SketchNode) (u : Unfolded) (k : ℕ) → IsArm m ds u (arm.Tree k) → (t : Term) × (u ≡ term t) × IsTree m t k
tree_parts m ds _ k (is_tree {t = t} h) = (t, refl, h)

-- arms of which neither is a fault
pub arms_are : (m : BuilderModel) (ds : List SketchNode) (c d : Form Comparison) (a b : Unfolded) (x y : Arm) → IsArm m ds a x → IsArm m ds b y → arms c d a b ≡ either c d a b
arms_are m ds c d _ _ _ _ (is_tree h) (is_tree k) = refl
arms_are m ds c d _ _ _ _ (is_tree h) (is_choice e w i j) = refl
arms_are m ds c d _ _ _ _ (is_choice e w i j) (is_tree h) = refl
arms_are m ds c d _ _ _ _ (is_choice e w i j) (is_choice e' w' i' j') = refl

at-end : (ds : List SketchNode) (d : SketchNode) → slice_get (ds ++ (d ∷ [])) (length ds) ≡ Some d
at-end [] d = refl
at-end (x ∷ ds) d = at-end ds d

pub added : (m : BuilderModel) (ds ds' : List SketchNode) (c d : Form Comparison) (a b : Unfolded) (p : Pair) (x y z : Arm) → AddsChoice ds ds' p x y (Ok z) → IsSketch m ds → Draws (stand_of m).trees ds (formula c d) p →
    IsArm m ds a x → IsArm m ds b y → IsLifted m ds ds' (either c d a b) z
added m ds ds' c d a b p x y (arm.Choice k) h s w i j =
    let g : Grown ds ds' = record { more = choice_sketch p x y ∷ []; is = h.0 } in record {
      grown = g;
      sketch = subst (λ (l : List SketchNode). IsSketch m l) (sym h.0) (sketch_end m ds (choice_sketch p x y) s refl tt);
      arm = is_choice (ap (λ l. slice_get l k) h.0 ∙ ap (λ n. slice_get (ds ++ (choice_sketch p x y ∷ [])) n) h.1 ∙ at-end ds (choice_sketch p x y))
          (pair_more (stand_of m).trees ds ds' (formula c d) p g w)
          (arm_stays m m ds ds' a x (extends_self (stand_of m)) g i) (arm_stays m m ds ds' b y (extends_self (stand_of m)) g j);
    }
added m ds ds' c d a b p x y (arm.Tree k) h s w i j = elim h [ ]

pub compared_is : (kind : Kind) (at : Place) (u v : Unfolded) → compare_two (terms_of kind at) u v ≡ compared kind at u v
compared_is le at u v = refl
compared_is ge at u v = refl
compared_is eq at u v = refl
