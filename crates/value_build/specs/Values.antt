-- What values stand for: the unfolding of an expression, and what it is to the declared box.
use Rattle.std.specs.Prelude.{◌≡◌, ℕ, ◌<◌, List, [], ◌∷◌, length, Some, Result, slice_get}
use Rattle.dyadic.specs.Fraction.{Fraction}
use Rattle.dyadic.specs.Point.{Sort}
use Rattle.script_model.specs.Declared.{Bound, Bounding, known, constant_of, other, bounds, bounds_in, constant_bounding, bounding_operation}
use Rattle.poly_graph.specs.Term.{Term, constant, variable}
use Rattle.poly_graph.specs.Form.{Form, form_map}
use Rattle.poly_graph.specs.Problem.{HasSort}
use Rattle.script_forms.specs.Terms.{Comparison, Unfolded, term, formula, either}
use Rattle.script_forms.specs.Unfolded.{truth_of, operation_tree}
use Rattle.script_model.specs.Sexp.{Place}
use Rattle.script_model.specs.Reading.{Operator}
use Rattle.script_forms.specs.Atoms.{atom_of, constant_tree}
use Rattle.script_forms.specs.Work.{ending, form_events, operator_events}
use Rattle.term_build.specs.Built.{BuilderModel, stand_of}
use Rattle.term_build.specs.declared.connectives.Pair.{Pair}
use Rattle.term_build.specs.declared.sketch.Arm.{Arm}
use Rattle.term_build.specs.declared.sketch.Arm.TheVariants as arm
use Rattle.term_build.specs.Does.{IsTree}
use Rattle.term_build.specs.Pairs.{Draws}
use Rattle.term_build.specs.Settled.{Extends, FormSettled}
use Rattle.term_build.specs.Sketch.{SketchNode, choice_sketch, IsFormOf}
use Rattle.term_build.specs.Steps.{Emits}
use Rattle.term_build.specs.declared.stop.Stop.{Stop}
use Rattle.declared_box.specs.Same.{SameNumber, SameBounds}
use Rattle.declared_box.specs.Table.{list_at}
use Rattle.value_build.specs.Making.{Making, MoreLists, Steps}
use Rattle.value_build.specs.declared.value.Value.{Value}
use Rattle.value_build.specs.declared.value.Value.TheVariants as values

-- what a tree says of an expression's bounds: a constant its number, a variable its axis
abbrev pub Weighs : Term → Bounding → Type 0
Weighs (constant q) b = (p : Fraction) × (b ≡ known p) × SameNumber p q
Weighs (variable axis) b = b ≡ constant_of axis
Weighs t b = b ≡ other

-- the list of this number has the same bounds as these
abbrev pub Lists : List (List Bound) → ℕ → List Bound → Type 0
Lists lists n bs = (n < length lists) × SameBounds (list_at lists n) bs

module _ (m : BuilderModel) (ds : List SketchNode) where
  -- the arm stands for a Real expression that unfolds so
  pub data IsArm : Unfolded → Arm → Type 0 where
    is_tree : {t : Term} {k : ℕ} → IsTree m t k → IsArm (term t) (arm.Tree k)
    is_choice : {c d : Form Comparison} {u v : Unfolded} {p : Pair} {x y : Arm} {k : ℕ} → slice_get ds k ≡ Some (choice_sketch p x y) → Draws (stand_of m).trees ds (formula c d) p →
        IsArm u x → IsArm v y → IsArm (either c d u v) (arm.Choice k)

-- the value stands for an expression that unfolds so, with these bounds
abbrev pub IsValue : Making → Unfolded → Bounding → Value → Type 0
IsValue m u b (values.Real k) = (t : Term) × (u ≡ term t) × IsTree m.made t k × Weighs t b
IsValue m u b (values.Choice k) = IsArm m.made m.drawn u (arm.Choice k) × (b ≡ other)
IsValue m u b (values.Bool pair n) = Draws (stand_of m.made).trees m.drawn u pair × ((bs : List Bound) × (b ≡ bounds bs) × Lists m.bounds n bs)

abbrev pub AreValues : Making → List Unfolded → List Bounding → List Value → Type 0
AreValues m [] [] [] = Unit {0}
AreValues m (u ∷ us) (b ∷ bs) (v ∷ vs) = IsValue m u b v × AreValues m us bs vs
AreValues m us bs vs = ⊥

-- there are expressions that the values stand for
abbrev pub AreKnown : Making → List Value → Type 0
AreKnown m vs = (us : List Unfolded) × (bs : List Bounding) × AreValues m us bs vs

abbrev pub IsKnown : Making → Value → Type 0
IsKnown m v = (u : Unfolded) × (b : Bounding) × IsValue m u b v

-- a declared constant is named
abbrev pub Names : Making → Making → ℕ → Result Value Stop → Type 0
Names old new axis r = (sort : Sort) → HasSort sort old.made.sorts axis →
    Steps old new (ending (constant_tree axis sort)) r (IsValue new (constant_tree axis sort) (constant_bounding axis sort))

-- an assertion: the node of its form, which is settled, and the list of its bounds
pub record IsClaim (m : Making) (u : Unfolded) (b : Bounding) (claim : ℕ × ℕ) : Type 0 where
  pub settled : FormSettled (stand_of m.made) (truth_of u)
  pub form : IsFormOf m.made (form_map atom_of (truth_of u)) claim.0
  pub bounds : Lists m.bounds claim.1 (bounds_in b)

-- where an assertion's form was made, what is made stays
pub record IsClaimed (old new : Making) (u : Unfolded) (b : Bounding) (made : ℕ × ℕ) : Type 0 where
  pub stand : Extends (stand_of old.made) (stand_of new.made)
  pub lists : MoreLists old.bounds new.bounds
  pub claim : IsClaim new u b made

-- the form of an assertion is made
abbrev pub Claims : Making → Making → Value → Result (ℕ × ℕ) Stop → Type 0
Claims old new v r = (u : Unfolded) (b : Bounding) → IsValue old u b v → Emits old.made new.made (form_events (truth_of u)) r (IsClaimed old new u b)

-- an operator is applied to arguments that the values stand for
abbrev pub Operates : Making → Making → Place → Operator → List Value → Result Value Stop → Type 0
Operates old new at op vs r = (us : List Unfolded) (bs : List Bounding) → AreValues old us bs vs →
    Steps old new (operator_events at op us) r (IsValue new (operation_tree at op us) (bounding_operation op bs))
