-- The forms of expressions before their atoms have numbers: nodes that are shared, their comparisons in place.
use Rattle.std.specs.Prelude.{◌≡◌, Option, Some, None, slice_get, ℕ, suc, ◌<◌, ◌≤◌, List, [], ◌∷◌, ◌++◌, map, length, Bool, true, false, ◌&&◌, IsTrue, slice_index_or, nat_lt}
use Rattle.std.specs.List.{list_all}
use Rattle.dyadic.specs.Fraction.{zero_fraction}
use Rattle.dyadic.specs.Point.{bool_sort}
use Rattle.script_model.specs.Meaning.{pairs}
use Rattle.script_model.specs.Sexp.{Place}
use Rattle.poly_graph.specs.Term.{Term, constant, Kind, eq, Atom}
use Rattle.poly_graph.specs.Form.{Form, Forms, yes_form, no_form, atom_is, bool_is, all_form, any_form, no_forms, more_forms, form_map}
use Rattle.poly_graph.specs.Problem.{HasSort}
use Rattle.script_forms.specs.Terms.{Comparison, Unfolded, formula}
use Rattle.script_forms.specs.Unfolded.{truth_of, negation_form, xor_of}
use Rattle.script_forms.specs.Atoms.{number_in}
use Rattle.term_build.specs.Built.{BuilderModel, stand_of}
use Rattle.term_build.specs.declared.connectives.Pair.{Pair}
use Rattle.term_build.specs.declared.sketch.Arm.{Arm}

-- a node; a comparison names the nodes of its trees, and `all` and `any` their children, which have smaller numbers
pub data SketchNode : Type 0 where
  yes_sketch no_sketch : SketchNode
  comparison_sketch : Place → ℕ → ℕ → Kind → SketchNode
  bool_sketch : ℕ → Bool → SketchNode
  all_sketch any_sketch : List ℕ → SketchNode
  -- that two of these trees are equal, of an expression at this place
  equal_sketch : Place → List ℕ → SketchNode
  -- that so many formulas differ, each from every other, that no form has room for it, or that two of them are the same;
  -- these nodes say it of the first and each later one
  crowd_sketch : Bool → List ℕ → SketchNode
  -- a Real `ite`, which is part of no form
  choice_sketch : Pair → Arm → Arm → SketchNode

abbrev pub as_choice : Option SketchNode → Option (Pair × Arm × Arm)
as_choice (Some (choice_sketch p x y)) = Some (p, x, y)
as_choice d = None

abbrev pub sketch_after : ℕ → SketchNode → Bool
sketch_after n (all_sketch ks) = list_all (λ k. nat_lt k n) ks
sketch_after n (any_sketch ks) = list_all (λ k. nat_lt k n) ks
sketch_after n (crowd_sketch v ks) = list_all (λ k. nat_lt k n) ks
sketch_after n d = true

abbrev pub sketch_in_order : ℕ → List SketchNode → Bool
sketch_in_order n [] = true
sketch_in_order n (d ∷ ds) = sketch_after n d && sketch_in_order (suc n) ds

abbrev pub sketch_at : List (Form Comparison) → ℕ → Form Comparison
sketch_at fs k = slice_index_or fs k no_form

abbrev pub sketch_children : List (Form Comparison) → List ℕ → Forms Comparison
sketch_children fs [] = no_forms
sketch_children fs (k ∷ ks) = more_forms (sketch_at fs k) (sketch_children fs ks)

abbrev pub comparison_of : List Term → Place → ℕ → ℕ → Kind → Comparison
comparison_of ts at l r kind = record { at = at; left = slice_index_or ts l (constant zero_fraction); right = slice_index_or ts r (constant zero_fraction); kind = kind }

abbrev pub forms_in : List (Form Comparison) → Forms Comparison
forms_in [] = no_forms
forms_in (f ∷ fs) = more_forms f (forms_in fs)

-- that the tree of a node equals those of others
abbrev pub equal_with : List Term → Place → ℕ → List ℕ → List (Form Comparison)
equal_with ts at k [] = []
equal_with ts at k (l ∷ ls) = atom_is (comparison_of ts at k l eq) ∷ equal_with ts at k ls

-- the same of each with every later one
abbrev pub equal_pairs : List Term → Place → List ℕ → List (Form Comparison)
equal_pairs ts at [] = []
equal_pairs ts at (k ∷ ks) = equal_with ts at k ks ++ equal_pairs ts at ks

abbrev pub some_equal : List Term → Place → List ℕ → Form Comparison
some_equal ts at ks = any_form (forms_in (equal_pairs ts at ks))

-- ---- many formulas, each two of which differ

abbrev pub parts_of : Form Comparison → Forms Comparison
parts_of (all_form fs) = fs
parts_of (any_form fs) = fs
parts_of f = no_forms

abbrev pub first_of : Forms Comparison → Form Comparison
first_of no_forms = no_form
first_of (more_forms f fs) = f

abbrev pub rest_of : Forms Comparison → Forms Comparison
rest_of no_forms = no_forms
rest_of (more_forms f fs) = fs

abbrev pub second_of : Forms Comparison → Form Comparison
second_of fs = first_of (rest_of fs)

-- the second of two formulas, in the form that they differ, or in the form that they are the same
abbrev pub second_in : Bool → Form Comparison → Unfolded
second_in true f = formula (second_of (parts_of (second_of (parts_of f)))) (second_of (parts_of (first_of (parts_of f))))
second_in false f = formula (second_of (parts_of (first_of (parts_of f)))) (second_of (parts_of (second_of (parts_of f))))

abbrev pub side : Bool → Unfolded → Form Comparison
side true = truth_of
side false = negation_form

abbrev pub joined_by : Bool → Forms Comparison → Form Comparison
joined_by true = all_form
joined_by false = any_form

-- each two of the formulas after the first, where these are the forms of the first and each later one
abbrev pub later_links : Bool → List (Form Comparison) → List (Form Comparison)
later_links v fs = map (side v) (pairs xor_of (map (second_in v) fs))

abbrev pub crowd : Bool → List (Form Comparison) → Form Comparison
crowd v fs = joined_by v (forms_in (fs ++ later_links v fs))

abbrev pub sketch_row : List (Form Comparison) → List ℕ → List (Form Comparison)
sketch_row fs [] = []
sketch_row fs (k ∷ ks) = sketch_at fs k ∷ sketch_row fs ks

-- so many formulas after the first make more pairs than a form has room for
abbrev pub least_crowd : ℕ
least_crowd = 1448

-- the form of a node, over these trees, where these are the forms of the nodes before it
abbrev pub sketch_form : List Term → List (Form Comparison) → SketchNode → Form Comparison
sketch_form ts fs yes_sketch = yes_form
sketch_form ts fs no_sketch = no_form
sketch_form ts fs (comparison_sketch at l r kind) = atom_is (comparison_of ts at l r kind)
sketch_form ts fs (bool_sketch axis v) = bool_is axis v
sketch_form ts fs (choice_sketch p x y) = no_form
sketch_form ts fs (equal_sketch at ks) = some_equal ts at ks
sketch_form ts fs (crowd_sketch v ks) = crowd v (sketch_row fs ks)
sketch_form ts fs (all_sketch ks) = all_form (sketch_children fs ks)
sketch_form ts fs (any_sketch ks) = any_form (sketch_children fs ks)

-- these are the forms of these nodes, over these trees
pub record IsDrawing (ts : List Term) (ds : List SketchNode) (fs : List (Form Comparison)) : Type 0 where
  pub count : length fs ≡ length ds
  pub forms : (k : ℕ) (d : SketchNode) → slice_get ds k ≡ Some d → sketch_at fs k ≡ sketch_form ts fs d

-- a comparison names nodes of trees, and a Bool value a Bool constant
abbrev pub IsDrawn : BuilderModel → SketchNode → Type 0
IsDrawn m (comparison_sketch at l r kind) = (l < length m.nodes) × (r < length m.nodes)
IsDrawn m (bool_sketch axis v) = HasSort bool_sort m.sorts axis
IsDrawn m (equal_sketch at ks) = IsTrue (list_all (λ k. nat_lt k (length m.nodes)) ks)
IsDrawn m (crowd_sketch v ks) = least_crowd ≤ length ks
IsDrawn m d = Unit {0}

pub record IsSketch (m : BuilderModel) (ds : List SketchNode) : Type 0 where
  pub ordered : IsTrue (sketch_in_order 0 ds)
  pub drawn : (k : ℕ) (d : SketchNode) → slice_get ds k ≡ Some d → IsDrawn m d

-- node j of the form is this one, with the numbers of its atoms
abbrev pub IsFormOf : BuilderModel → Form Atom → ℕ → Type 0
IsFormOf m f j = slice_get (stand_of m).forms j ≡ Some (form_map (number_in (stand_of m).atoms) f)

abbrev pub IsAtomForm : BuilderModel → Atom → ℕ → Type 0
IsAtomForm m a j = IsFormOf m (atom_is a) j
