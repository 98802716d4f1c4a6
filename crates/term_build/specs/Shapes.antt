-- A form that is being made from its sketch.
use Rattle.std.specs.Prelude.{◌≡◌, ℕ, ◌<◌, ◌≤◌, List, [], ◌∷◌, ◌++◌, map, Bool, length, Option, Some, Result, Ok, Err, drop, slice_get, slice_set, slice_index_or, IsTrue, nat_lt}
use Rattle.std.specs.List.{AllByRecursion, list_all}
use Rattle.script_model.specs.Sexp.{Place}
use Rattle.smt_sexp.specs.Views.{place_of}
use Rattle.poly_graph.specs.Views.{kind_of}
use Rattle.poly_graph.specs.FormGraph.{FormNode, yes_node, no_node, bool_node, all_node, any_node, node_form, graph_forms}
use Rattle.poly_graph.specs.Form.{Form, atom_is, all_form, any_form, form_map, forms_map}
use Rattle.script_forms.specs.Terms.{Comparison}
use Rattle.script_forms.specs.Atoms.{atom_of, number_in}
use Rattle.script_forms.specs.Work.{Event, formed, form_events, forms_events}
use Rattle.script_forms.specs.Walk.{Stand, after_events, all_sizes, make_form, most_forms}
use Rattle.term_build.specs.Built.{BuilderModel, stand_of}
use Rattle.term_build.specs.Does.{StopsAs, Does, IsForm}
use Rattle.term_build.specs.declared.stop.Stop.{Stop}
use Rattle.term_build.specs.declared.stop.Stop.TheVariants.{TooMany}
use Rattle.script_fault.specs.declared.limit.Limit.TheVariants.{Forms}
use Rattle.term_build.specs.Steps.{Emits}
use Rattle.term_build.specs.Sketch.{SketchNode, yes_sketch, no_sketch, comparison_sketch, bool_sketch, all_sketch, any_sketch, choice_sketch, equal_sketch, crowd_sketch, crowd, forms_in, later_links, sketch_at, sketch_children, sketch_row, comparison_of, some_equal, IsAtomForm, IsFormOf, IsDrawing, IsSketch}
use Rattle.term_build.specs.Settled.{Extends, FormSettled}
use Rattle.term_build.specs.declared.shape.Frame as code_frame
use Rattle.term_build.specs.declared.sketch.SketchNode as code
use Rattle.term_build.specs.declared.sketch.SketchNode.TheVariants as drawn

abbrev pub sketch_of : code.SketchNode → SketchNode
sketch_of drawn.True = yes_sketch
sketch_of drawn.False = no_sketch
sketch_of (drawn.Compare at l r kind) = comparison_sketch (place_of at) l r (kind_of kind)
sketch_of (drawn.BoolIs axis v) = bool_sketch axis v
sketch_of (drawn.And ks) = all_sketch ks.items
sketch_of (drawn.Or ks) = any_sketch ks.items
sketch_of (drawn.Choice p x y) = choice_sketch p x y
sketch_of (drawn.SomeEqual at ks) = equal_sketch (place_of at) ks.items
sketch_of (drawn.Crowd v ks) = crowd_sketch v ks.items

abbrev pub children : SketchNode → List ℕ
children (all_sketch ks) = ks
children (any_sketch ks) = ks
children (crowd_sketch v ks) = ks
children d = []

-- what is left of many formulas, where the forms of the first and each later one are made
abbrev pub crowd_left : Bool → List (Form Comparison) → List Event
crowd_left v fs = forms_events (forms_in (later_links v fs)) ++ (formed (form_map atom_of (crowd v fs)) ∷ [])

-- what is left to do of a node of this form, where so many of its children are done
abbrev pub left_of : List (Form Comparison) → Form Comparison → SketchNode → ℕ → List Event
left_of fs f (all_sketch ks) i = forms_events (sketch_children fs (drop i ks)) ++ (formed (all_form (forms_map atom_of (sketch_children fs ks))) ∷ [])
left_of fs f (any_sketch ks) i = forms_events (sketch_children fs (drop i ks)) ++ (formed (any_form (forms_map atom_of (sketch_children fs ks))) ∷ [])
left_of fs f (crowd_sketch v ks) i = forms_events (sketch_children fs (drop i ks)) ++ crowd_left v (sketch_row fs ks)
left_of fs f d i = form_events f

-- a node whose children these are the numbers of, as many as are done
pub record Frame : Type 0 where
  pub node : ℕ
  pub numbers : List ℕ

abbrev pub frame_of : code_frame.Frame → Frame
frame_of f = record { node = f.node; numbers = f.numbers.items }

abbrev pub node_at : List SketchNode → ℕ → SketchNode
node_at ds k = slice_index_or ds k yes_sketch

abbrev pub left_in : List (Form Comparison) → List SketchNode → Frame → List Event
left_in fs ds f = left_of fs (sketch_at fs f.node) (node_at ds f.node) (length f.numbers)

-- of frames with the last one on top
abbrev pub left_on : List (Form Comparison) → List SketchNode → List Frame → List Event
left_on fs ds [] = []
left_on fs ds (f ∷ above) = left_on fs ds above ++ left_in fs ds f

-- node k is settled, and j is its number
abbrev pub IsShaped : Stand → List (Form Comparison) → ℕ → ℕ → Type 0
IsShaped s fs k j = FormSettled s (sketch_at fs k) × (slice_get s.forms j ≡ Some (form_map (number_in s.atoms) (form_map atom_of (sketch_at fs k))))

-- as many of the children as have numbers
abbrev pub AreShaped : Stand → List (Form Comparison) → List ℕ → List ℕ → Type 0
AreShaped s fs ks [] = Unit {0}
AreShaped s fs (k ∷ ks) (j ∷ js) = IsShaped s fs k j × AreShaped s fs ks js
AreShaped s fs [] (j ∷ js) = ⊥

abbrev pub FramesShaped : Stand → List (Form Comparison) → List SketchNode → List Frame → Type 0
FramesShaped s fs ds [] = Unit {0}
FramesShaped s fs ds (f ∷ rest) = AreShaped s fs (children (node_at ds f.node)) f.numbers × FramesShaped s fs ds rest

abbrev pub MemoShaped : Stand → List (Form Comparison) → List (Option ℕ) → Type 0
MemoShaped s fs memo = (k j : ℕ) → slice_get memo k ≡ Some (Some j) → IsShaped s fs k j

-- what is left on the stack is what is left of the walk over these events from s0
pub record IsWalkLeft (s0 : Stand) (es : List Event) (fs : List (Form Comparison)) (ds : List SketchNode) (m : BuilderModel) (memo : List (Option ℕ)) (stack : List Frame) : Type 0 where
  pub walk : (claim : Place) → after_events claim s0 es ≡ after_events claim (stand_of m) (left_on fs ds stack)
  pub extends : Extends s0 (stand_of m)
  pub made : MemoShaped (stand_of m) fs memo
  pub frames : FramesShaped (stand_of m) fs ds stack

-- numbers of nodes of the form
abbrev pub AreNumbers : ℕ → List ℕ → Type 0
AreNumbers n js = IsTrue (list_all (λ j. nat_lt j n) js)

-- the frame names a node of the sketch, and nodes of the form
pub record IsFrame (ds : List SketchNode) (m : BuilderModel) (f : Frame) : Type 0 where
  pub node : f.node < length ds
  pub numbers : AreNumbers (length m.forms) f.numbers

abbrev pub AreFrames : List SketchNode → BuilderModel → List Frame → Type 0
AreFrames ds m fs = AllByRecursion (IsFrame ds m) fs

pub record IsMemo (ds : List SketchNode) (m : BuilderModel) (memo : List (Option ℕ)) : Type 0 where
  pub count : length memo ≡ length ds
  pub numbers : (k j : ℕ) → slice_get memo k ≡ Some (Some j) → j < length m.forms

-- a node of the form, of numbers of its children
abbrev pub joined : SketchNode → List ℕ → FormNode
joined yes_sketch js = yes_node
joined no_sketch js = no_node
joined (bool_sketch axis v) js = bool_node axis v
joined (all_sketch ks) js = all_node js
joined (any_sketch ks) js = any_node js
joined (comparison_sketch at l r kind) js = no_node
joined (choice_sketch p x y) js = no_node
joined (equal_sketch at ks) js = no_node
joined (crowd_sketch v ks) js = no_node

-- the last step of a node: the events of a comparison or of several, or one node of the form; many formulas stop it
abbrev pub Finishes : BuilderModel → BuilderModel → SketchNode → List ℕ → Result ℕ Stop → Type 0
Finishes old new (comparison_sketch at l r kind) js r' =
    let c = comparison_of (stand_of old).trees at l r kind in Emits old new (form_events (atom_is c)) r' (IsAtomForm new (atom_of c))
Finishes old new (equal_sketch at ks) js r = let f = some_equal (stand_of old).trees at ks in Emits old new (form_events f) r (IsFormOf new (form_map atom_of f))
Finishes old new (crowd_sketch v ks) js r = (r ≡ Err (TooMany Forms)) × (all_sizes (stand_of old).forms ≤ most_forms)
Finishes old new d js r = let f = node_form (graph_forms old.forms) (joined d js) in Does old new (λ claim s. make_form claim s f) r (IsForm new f)

-- the walk goes on from what is left on the stack, or stops
abbrev pub Steps : {X : Type 0} → Stand → List Event → List (Form Comparison) → List SketchNode → BuilderModel → List (Option ℕ) → List Frame → Result X Stop → Type 0
Steps s0 es fs ds m memo stack (Ok x) = IsWalkLeft s0 es fs ds m memo stack
Steps s0 es fs ds m memo stack (Err e) = (claim : Place) → StopsAs claim (after_events claim s0 es) e

-- the node is made: what is left on the stack goes on, with its number in the memo
abbrev pub Completes : Stand → List Event → List (Form Comparison) → List SketchNode → BuilderModel → List (Option ℕ) → ℕ → List Frame → Result ℕ Stop → Type 0
Completes s0 es fs ds m memo k stack (Ok j) = IsWalkLeft s0 es fs ds m (slice_set memo k (Some j)) stack
Completes s0 es fs ds m memo k stack (Err e) = (claim : Place) → StopsAs claim (after_events claim s0 es) e

-- whatever is left below it on a stack, the node of this frame is made
abbrev pub Completing : {X : Type 0} → List SketchNode → BuilderModel → BuilderModel → List (Option ℕ) → List (Option ℕ) → Frame → Result X Stop → Type 0
Completing ds old new memo memo' f r = (m0 : BuilderModel) (es : List Event) (fs : List (Form Comparison)) (xs : List Frame) → IsDrawing (stand_of m0).trees ds fs → IsSketch m0 ds →
    IsWalkLeft (stand_of m0) es fs ds old memo (xs ++ (f ∷ [])) → Steps (stand_of m0) es fs ds new memo' xs r

-- the frame, taken from the top of the stack, goes on
abbrev pub Stepping : {X : Type 0} → List SketchNode → BuilderModel → BuilderModel → List (Option ℕ) → List (Option ℕ) → List code_frame.Frame → List code_frame.Frame → Frame → Result X Stop → Type 0
Stepping ds old new memo memo' stack stack' f r = (m0 : BuilderModel) (es : List Event) (fs : List (Form Comparison)) → IsDrawing (stand_of m0).trees ds fs → IsSketch m0 ds →
    IsWalkLeft (stand_of m0) es fs ds old memo (map frame_of stack ++ (f ∷ [])) → Steps (stand_of m0) es fs ds new memo' (map frame_of stack') r

-- what is asked of a sketch, a memo and frames still holds
pub record StaysSafe (ds : List SketchNode) (old new : BuilderModel) (memo : List (Option ℕ)) : Type 0 where
  pub sketched : IsSketch new ds
  pub kept : IsMemo ds new memo
  pub more : length old.forms ≤ length new.forms

abbrev pub IfDone : {X : Type 0} → Result X Stop → Type 0 → Type 0
IfDone (Ok x) P = P
IfDone (Err e) P = Unit {0}

-- the builder does what the form of this node asks for
abbrev pub Shaping : BuilderModel → BuilderModel → List SketchNode → ℕ → Result ℕ Stop → Type 0
Shaping old new ds root r = (fs : List (Form Comparison)) → IsDrawing (stand_of old).trees ds fs → Emits old new (form_events (sketch_at fs root)) r (IsFormOf new (form_map atom_of (sketch_at fs root)))

-- whatever the stack came from, it goes on to this one
abbrev pub Draining : {X : Type 0} → List SketchNode → BuilderModel → BuilderModel → List (Option ℕ) → List (Option ℕ) → List Frame → List Frame → Result X Stop → Type 0
Draining ds old new memo memo' stack stack' r = (m0 : BuilderModel) (es : List Event) (fs : List (Form Comparison)) → IsDrawing (stand_of m0).trees ds fs → IsSketch m0 ds →
    IsWalkLeft (stand_of m0) es fs ds old memo stack → Steps (stand_of m0) es fs ds new memo' stack' r
