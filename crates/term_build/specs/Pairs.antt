-- A Bool expression as a pair of nodes of a sketch: the form of its truth, and that of its negation.
use Rattle.std.specs.Prelude.{◌≡◌, ℕ, ◌<◌, ◌≤◌, List, [], ◌∷◌, ◌++◌, map, length, Result, Ok, Err, IfOk, IsTrue, Bool, true, false, slice_index_or, drop, nat_lt}
use Rattle.std.specs.List.{list_all}
use Rattle.script_model.specs.Meaning.{pairs}
use Rattle.script_model.specs.Sexp.{Place}
use Rattle.dyadic.specs.Fraction.{zero_fraction}
use Rattle.poly_graph.specs.Term.{Term, constant, Kind, le, ge, eq}
use Rattle.poly_graph.specs.Form.{Form, Forms, no_forms, more_forms, all_form, any_form, yes_form, no_form}
use Rattle.script_forms.specs.Atoms.{constant_tree}
use Rattle.dyadic.specs.Point.{bool_sort}
use Rattle.poly_graph.specs.Problem.{HasSort}
use Rattle.script_forms.specs.Terms.{Comparison, Unfolded, term, formula}
use Rattle.script_forms.specs.Unfolded.{truth_of, negation_form, and_of, not_of, xor_of, implies_of, choice_form, different, two, at_most_two, at_least_two, equal_two}
use Rattle.term_build.specs.Built.{BuilderModel}
use Rattle.term_build.specs.Sketch.{SketchNode, choice_sketch, least_crowd, sketch_after, sketch_at, sketch_form, IsDrawing, IsDrawn, IsSketch}
use Rattle.term_build.specs.declared.connectives.Pair.{Pair}
use Rattle.term_build.specs.declared.sketch.Arm.{Arm}
use Rattle.term_build.specs.declared.sketch.Arm.TheVariants.{Tree, Choice}
use Rattle.std.specs.declared.alloc.AllocError.{AllocError}

-- the later sketch begins with the earlier one
pub record Grown (ds ds' : List SketchNode) : Type 0 where
  pub more : List SketchNode
  pub is : ds' ≡ ds ++ more

-- whatever trees and nodes come after these, the form of node k is f
pub record DrawsForm (ts : List Term) (ds : List SketchNode) (f : Form Comparison) (k : ℕ) : Type 0 where
  pub below : k < length ds
  pub form : (ts' : List Term) (more : List SketchNode) (fs : List (Form Comparison)) → IsDrawing (ts ++ ts') (ds ++ more) fs → sketch_at fs k ≡ f

abbrev pub DrawsForms : List Term → List SketchNode → Forms Comparison → List ℕ → Type 0
DrawsForms ts ds no_forms [] = Unit {0}
DrawsForms ts ds (more_forms f fs) (k ∷ ks) = DrawsForm ts ds f k × DrawsForms ts ds fs ks
DrawsForms ts ds no_forms (k ∷ ks) = ⊥
DrawsForms ts ds (more_forms f fs) [] = ⊥

-- the nodes of the pair draw this formula
pub record Draws (ts : List Term) (ds : List SketchNode) (u : Unfolded) (p : Pair) : Type 0 where
  pub yes : DrawsForm ts ds (truth_of u) p.truth
  pub no : DrawsForm ts ds (negation_form u) p.negation
  pub is : u ≡ formula (truth_of u) (negation_form u)

abbrev pub DrawsEach : List Term → List SketchNode → List Unfolded → List Pair → Type 0
DrawsEach ts ds [] [] = Unit {0}
DrawsEach ts ds (u ∷ us) (p ∷ ps) = Draws ts ds u p × DrawsEach ts ds us ps
DrawsEach ts ds [] (p ∷ ps) = ⊥
DrawsEach ts ds (u ∷ us) [] = ⊥

-- the second draws the negation of each formula that the first draws
abbrev pub Negates : Pair → Pair → Type 0
Negates p q = (ts : List Term) (ds : List SketchNode) (u : Unfolded) → Draws ts ds u p → Draws ts ds (not_of u) q

-- the sketch has grown and is one still; what is answered, unless memory is wanting, is as P says
pub record Sketches {X : Type 0} (ds ds' : List SketchNode) (m : BuilderModel) (P : X → Type 0) (r : Result X AllocError) : Type 0 where
  pub grown : Grown ds ds'
  pub sketch : IsSketch m ds'
  pub drawn : IfOk r P

-- the node is at the end, or memory is wanting
abbrev pub Adds : List SketchNode → List SketchNode → SketchNode → Result ℕ AllocError → Type 0
Adds ds ds' d (Ok k) = (ds' ≡ ds ++ (d ∷ [])) × (k ≡ length ds)
Adds ds ds' d (Err e) = ds' ≡ ds

-- the Real `ite` is at the end, unless memory is wanting
abbrev pub AddsChoice : List SketchNode → List SketchNode → Pair → Arm → Arm → Result Arm AllocError → Type 0
AddsChoice ds ds' p x y (Ok (Choice k)) = (ds' ≡ ds ++ (choice_sketch p x y ∷ [])) × (k ≡ length ds)
AddsChoice ds ds' p x y (Ok (Tree k)) = ⊥
AddsChoice ds ds' p x y (Err e) = Unit {0}

-- the node may come next, and its form is f
pub record NodeDraws (m : BuilderModel) (ts : List Term) (ds : List SketchNode) (d : SketchNode) (f : Form Comparison) : Type 0 where
  pub after : IsTrue (sketch_after (length ds) d)
  pub drawn : IsDrawn m d
  pub form : (ts' : List Term) (more : List SketchNode) (fs : List (Form Comparison)) → IsDrawing (ts ++ ts') (ds ++ more) fs → sketch_form (ts ++ ts') fs d ≡ f

-- two nodes at the end
abbrev pub AddsPair : List SketchNode → List SketchNode → SketchNode → SketchNode → Result Pair AllocError → Type 0
AddsPair ds ds' d e r = (m : BuilderModel) (ts : List Term) (f g : Form Comparison) → IsSketch m ds → NodeDraws m ts ds d f → NodeDraws m ts ds e g → Sketches ds ds' m (Draws ts ds' (formula f g)) r

-- a pair for this formula, which no other formula is asked for
abbrev pub Writes : Unfolded → List SketchNode → List SketchNode → Result Pair AllocError → Type 0
Writes u ds ds' r = (m : BuilderModel) (ts : List Term) → IsSketch m ds → Sketches ds ds' m (Draws ts ds' u) r

-- a node over two nodes
abbrev pub JoinsTwo : (Forms Comparison → Form Comparison) → List SketchNode → List SketchNode → ℕ → ℕ → Result ℕ AllocError → Type 0
JoinsTwo join ds ds' a b r = (m : BuilderModel) (ts : List Term) (f g : Form Comparison) → IsSketch m ds → DrawsForm ts ds f a → DrawsForm ts ds g b → Sketches ds ds' m (DrawsForm ts ds' (join (two f g))) r

-- that both of two nodes hold, or both of two others
abbrev pub JoinsFour : List SketchNode → List SketchNode → ℕ → ℕ → ℕ → ℕ → Result ℕ AllocError → Type 0
JoinsFour ds ds' a b c d r = (m : BuilderModel) (ts : List Term) (f g h k : Form Comparison) → IsSketch m ds → DrawsForm ts ds f a → DrawsForm ts ds g b → DrawsForm ts ds h c → DrawsForm ts ds k d →
    Sketches ds ds' m (DrawsForm ts ds' (any_form (two (all_form (two f g)) (all_form (two h k))))) r

-- a pair over pairs of these formulas
abbrev pub Connects : (List Unfolded → Unfolded) → List SketchNode → List SketchNode → List Pair → Result Pair AllocError → Type 0
Connects op ds ds' ps r = (m : BuilderModel) (ts : List Term) (us : List Unfolded) → IsSketch m ds → DrawsEach ts ds us ps → Sketches ds ds' m (Draws ts ds' (op us)) r

abbrev pub ConnectsTwo : (Unfolded → Unfolded → Unfolded) → List SketchNode → List SketchNode → Pair → Pair → Result Pair AllocError → Type 0
ConnectsTwo op ds ds' p q r = (m : BuilderModel) (ts : List Term) (u v : Unfolded) → IsSketch m ds → Draws ts ds u p → Draws ts ds v q → Sketches ds ds' m (Draws ts ds' (op u v)) r

-- the tree of a node, unfolded
abbrev pub tree_at : List Term → ℕ → Unfolded
tree_at ts k = term (slice_index_or ts k (constant zero_fraction))

abbrev pub trees_at : List Term → List ℕ → List Unfolded
trees_at ts [] = []
trees_at ts (k ∷ ks) = tree_at ts k ∷ trees_at ts ks

-- a comparison of two terms, which stands in its form
abbrev pub compared : Kind → Place → Unfolded → Unfolded → Unfolded
compared le = at_most_two
compared ge = at_least_two
compared eq = equal_two

-- a pair for the comparison of the trees of these nodes
abbrev pub ComparesTwo : Kind → Place → List SketchNode → List SketchNode → ℕ → ℕ → Result Pair AllocError → Type 0
ComparesTwo kind at ds ds' l r' r = (m : BuilderModel) (ts : List Term) → IsSketch m ds → l < length ts → r' < length ts → length ts ≤ length m.nodes →
    Sketches ds ds' m (Draws ts ds' (compared kind at (tree_at ts l) (tree_at ts r'))) r

-- a pair for that the trees of these nodes differ, each from every other
abbrev pub DiffersEach : Place → List SketchNode → List SketchNode → List ℕ → Result Pair AllocError → Type 0
DiffersEach at ds ds' ks r = (m : BuilderModel) (ts : List Term) → IsSketch m ds → IsTrue (list_all (λ k. nat_lt k (length ts)) ks) → length ts ≤ length m.nodes →
    Sketches ds ds' m (Draws ts ds' (different (pairs (compared eq at) (trees_at ts ks)))) r

abbrev pub constant_formula : Bool → Unfolded
constant_formula true = formula yes_form no_form
constant_formula false = formula no_form yes_form

-- a pair for the value of a Bool constant
abbrev pub WritesBool : ℕ → List SketchNode → List SketchNode → Result Pair AllocError → Type 0
WritesBool axis ds ds' r = (m : BuilderModel) (ts : List Term) → IsSketch m ds → HasSort bool_sort m.sorts axis → Sketches ds ds' m (Draws ts ds' (constant_tree axis bool_sort)) r

-- a pair for the second where the first holds, else for the third
abbrev pub ConnectsChoice : List SketchNode → List SketchNode → Pair → Pair → Pair → Result Pair AllocError → Type 0
ConnectsChoice ds ds' o p q r = (m : BuilderModel) (ts : List Term) (c u v : Unfolded) → IsSketch m ds → Draws ts ds c o → Draws ts ds u p → Draws ts ds v q → Sketches ds ds' m (Draws ts ds' (choice_form (c ∷ u ∷ v ∷ []))) r

-- a pair for what is made, from the left, of a first pair and these
abbrev pub ConnectsFrom : (Unfolded → List Unfolded → Unfolded) → List SketchNode → List SketchNode → Pair → List Pair → Result Pair AllocError → Type 0
ConnectsFrom op ds ds' p ps r = (m : BuilderModel) (ts : List Term) (u : Unfolded) (us : List Unfolded) → IsSketch m ds → Draws ts ds u p → DrawsEach ts ds us ps → Sketches ds ds' m (Draws ts ds' (op u us)) r

-- each is a formula
abbrev pub AreFormulas : List Unfolded → Type 0
AreFormulas us = map (λ u. formula (truth_of u) (negation_form u)) us ≡ us

-- where these are pairs for that a first formula differs from each of many: a pair for that each two of them all differ
abbrev pub ConnectsCrowd : List SketchNode → List SketchNode → List Pair → Result Pair AllocError → Type 0
ConnectsCrowd ds ds' ps r = (m : BuilderModel) (ts : List Term) (u : Unfolded) (us : List Unfolded) → IsSketch m ds → least_crowd ≤ length us → AreFormulas us → DrawsEach ts ds (map (xor_of u) us) ps →
    Sketches ds ds' m (Draws ts ds' (and_of (pairs xor_of (u ∷ us)))) r

-- what is left, after some of the pairs, makes the same
pub record Left (op : Unfolded → List Unfolded → Unfolded) (u : Unfolded) (m : BuilderModel) (ts : List Term) (ds ds' : List SketchNode) (p : Pair) (ps : List Pair) : Type 0 where
  pub grown : Grown ds ds'
  pub sketch : IsSketch m ds'
  pub first : Unfolded
  pub rest : List Unfolded
  pub now : Draws ts ds' first p
  pub next : DrawsEach ts ds' rest ps
  pub same : op first rest ≡ u

abbrev pub IsLeft : (Unfolded → List Unfolded → Unfolded) → List SketchNode → List SketchNode → Pair → List Pair → Pair → List Pair → Type 0
IsLeft op ds ds' p ps q qs = (m : BuilderModel) (ts : List Term) (u : Unfolded) (us : List Unfolded) → IsSketch m ds → Draws ts ds u p → DrawsEach ts ds us ps → Left op (op u us) m ts ds ds' q qs

-- a pair for what is made, from the right, of these and a last pair
abbrev pub ImpliesFrom : List SketchNode → List SketchNode → Pair → List Pair → Result Pair AllocError → Type 0
ImpliesFrom ds ds' p ps r = (m : BuilderModel) (ts : List Term) (u : Unfolded) (us : List Unfolded) → IsSketch m ds → Draws ts ds u p → DrawsEach ts ds us ps → Sketches ds ds' m (Draws ts ds' (implies_of (us ++ (u ∷ [])))) r

-- the last pairs are made already, from this one on
abbrev pub IsRight : List SketchNode → List SketchNode → Pair → List Pair → Pair → ℕ → Type 0
IsRight ds ds' p ps q k = (m : BuilderModel) (ts : List Term) (u : Unfolded) (us : List Unfolded) → IsSketch m ds → Draws ts ds u p → DrawsEach ts ds us ps → Sketches ds ds' m (Draws ts ds' (implies_of (drop k us ++ (u ∷ [])))) (Ok q)

-- of two Bool expressions
abbrev pub same_of : Unfolded → Unfolded → Unfolded
same_of a b = not_of (xor_of a b)
