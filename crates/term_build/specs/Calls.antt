-- What the calls answer, in values of the code.
use Rattle.std.specs.Prelude.{◌≡◌, ℕ, List, [], ◌∷◌, ◌++◌, map, length, None, Option, Some, Bool, Result, Vec, cond, option_map, slice_get}
use Rattle.std.specs.Global.{Global}
use Rattle.std.specs.declared.alloc.AllocError.{AllocError}
use Rattle.dyadic.specs.Fraction.{Fraction}
use Rattle.dyadic.specs.Views.{fraction_of_frac}
use Rattle.dyadic.specs.declared.frac.Frac.{Frac}
use Rattle.smt_sexp.specs.Views.{place_of}
use Rattle.script_fault.specs.declared.place.Place.{Place}
use Rattle.script_model.specs.Sexp as sexp
use Rattle.poly_graph.specs.Term.{Term, Atom, Node, graph_terms, node_term}
use Rattle.poly_graph.specs.Form.{atom_is}
use Rattle.poly_graph.specs.FormGraph.{FormNode, graph_forms, node_form}
use Rattle.poly_graph.specs.Views.{kind_of}
use Rattle.poly_graph.specs.declared.node.Kind.{Kind}
use Rattle.script_forms.specs.Atoms.{atom_of}
use Rattle.script_forms.specs.Terms.{Comparison, Times, Unfolded, comparison_tree, constant_or, inverse_of, is_nought, power}
use Rattle.script_forms.specs.Work.{Event, asked, comparison_events, ending, form_events, formed, power_events}
use Rattle.script_forms.specs.Walk.{after_event, ask_atom, make_form, make_tree}
use Rattle.term_build.specs.Built.{BuilderModel, full_atom, stand_of}
use Rattle.term_build.specs.Does.{Does, IsAtom, IsForm, IsTree}
use Rattle.term_build.specs.Steps.{Emits, Folds, IsTreeOf, count, tree_of}
use Rattle.term_build.specs.Sketch.{SketchNode, IsAtomForm, comparison_of}
use Rattle.term_build.specs.Pairs.{ComparesTwo, DiffersEach}
use Rattle.term_build.specs.Shapes.{AreFrames, Completing, Draining, Frame, IfDone, StaysSafe, Stepping, children, sketch_of, frame_of, node_at}
use Rattle.term_build.specs.Turns.{IsNumbered, IsRooted, IsTurn}
use Rattle.term_build.specs.declared.shape.Frame as code_frame
use Rattle.term_build.specs.declared.sketch.SketchNode as code
use Rattle.term_build.specs.declared.connectives.Pair.{Pair}
use Rattle.term_build.specs.declared.stop.Stop.{Stop}

-- ---- the builder's tables

abbrev pub fraction_in : Option Frac → Option Fraction
fraction_in o = option_map fraction_of_frac o

-- the builder does one event; where it does not stop, P holds of the answer
abbrev pub DoesEvent : {X : Type 0} → BuilderModel → BuilderModel → Event → Result X Stop → (X → Type 0) → Type 0
DoesEvent old new e r P = Does old new (λ claim s. after_event claim s e) r P

-- the tree of a node is made, and this is its number
abbrev pub MakesNode : BuilderModel → BuilderModel → Node → Result ℕ Stop → Type 0
MakesNode old new n r = let t = node_term (graph_terms old.nodes) n in Does old new (λ claim s. make_tree claim s t) r (IsTree new t)

-- the atom of a term's node and a kind is made, and this is its number
abbrev pub AsksAtom : BuilderModel → BuilderModel → ℕ → Kind → Result ℕ Stop → Type 0
AsksAtom old new k kind r = let a = full_atom (graph_terms old.nodes) (k, kind_of kind) in Does old new (λ claim s. ask_atom claim s a) r (IsAtom new a)

-- the form of a node is made, and this is its number
abbrev pub MakesForm : BuilderModel → BuilderModel → FormNode → Result ℕ Stop → Type 0
MakesForm old new n r = let f = node_form (graph_forms old.forms) n in Does old new (λ claim s. make_form claim s f) r (IsForm new f)

-- ---- the steps of terms

-- an expression ends in this: its tree is made, and this is its number
abbrev pub Ends : BuilderModel → BuilderModel → Unfolded → Result ℕ Stop → Type 0
Ends old new u r = Emits old new (ending u) r (IsTreeOf new u)

-- it ends in the constant that a step of constants gave, where that is narrow enough
abbrev pub EndsFolded : {E : Type 0} → BuilderModel → BuilderModel → Place → Result Frac E → Result ℕ Stop → Type 0
EndsFolded old new at folded r = (fits : Bool) (q : Fraction) → Folds folded fits q → Ends old new (constant_or (place_of at) fits q) r

-- a step of two trees, of an expression at this place: its events, and the tree that it makes
abbrev pub Computes : (sexp.Place → Term → Term → List Event) → (sexp.Place → Term → Term → Unfolded) → BuilderModel → BuilderModel → Place → ℕ → ℕ → Result ℕ Stop → Type 0
Computes events tree old new at a b r =
    Emits old new (events (place_of at) (tree_of old a) (tree_of old b)) r (IsTreeOf new (tree (place_of at) (tree_of old a) (tree_of old b)))

-- the power of a node's tree, which is a factor so many times
abbrev pub MakesPower : BuilderModel → BuilderModel → ℕ → ℕ → Result ℕ Stop → Type 0
MakesPower old new k n r = (w : Times) → count w ≡ n → Emits old new (power_events w (tree_of old k)) r (IsTree new (power w (tree_of old k)))

abbrev pub inverse_unless_nought : Fraction → Option Fraction
inverse_unless_nought q = cond (is_nought q) None (Some (inverse_of q))

-- ---- comparisons

-- of the trees of two nodes
abbrev pub comparison_at : BuilderModel → Place → ℕ → ℕ → Kind → Comparison
comparison_at m at left right kind = comparison_of (stand_of m).trees (place_of at) left right (kind_of kind)

-- of a term's node and a kind
abbrev pub asked_atom : BuilderModel → ℕ → Kind → Atom
asked_atom m k kind = full_atom (stand_of m).trees (k, kind_of kind)

-- the term of a comparison is made, and this is its number
abbrev pub MakesTermOf : BuilderModel → BuilderModel → Comparison → Result ℕ Stop → Type 0
MakesTermOf old new c r = Emits old new (comparison_events c) r (IsTreeOf new (comparison_tree c))

-- the atom is made and its form, and this is the form's number
abbrev pub MakesAtomForm : BuilderModel → BuilderModel → Atom → Result ℕ Stop → Type 0
MakesAtomForm old new a r = Emits old new (asked a ∷ formed (atom_is a) ∷ []) r (IsAtomForm new a)

-- the same from the comparison on
abbrev pub MakesFormOf : BuilderModel → BuilderModel → Comparison → Result ℕ Stop → Type 0
MakesFormOf old new c r = Emits old new (form_events (atom_is c)) r (IsAtomForm new (atom_of c))

-- ---- sketches

-- the nodes of a sketch
abbrev pub drawn : Vec code.SketchNode Global → List SketchNode
drawn sketch = map sketch_of sketch.items

-- a pair for the comparison of the trees of two nodes, of an expression at this place
abbrev pub Compares : Kind → Place → List SketchNode → List SketchNode → ℕ → ℕ → Result Pair AllocError → Type 0
Compares kind at ds ds' left right r = ComparesTwo (kind_of kind) (place_of at) ds ds' left right r

-- a pair for that the trees of these nodes differ, each from every other, of an expression at this place
abbrev pub Differs : Place → List SketchNode → List SketchNode → List ℕ → Result Pair AllocError → Type 0
Differs at ds ds' ks r = DiffersEach (place_of at) ds ds' ks r

-- ---- forms that are made from a sketch

abbrev pub frames : Vec code_frame.Frame Global → List Frame
frames stack = map frame_of stack.items

-- with one more on top
abbrev pub frames_under : Vec code_frame.Frame Global → code_frame.Frame → List Frame
frames_under stack top = map frame_of stack.items ++ (frame_of top ∷ [])

-- all of its children are made
abbrev pub IsComplete : List SketchNode → Frame → Type 0
IsComplete ds f = slice_get (children (node_at ds f.node)) (length f.numbers) ≡ None

-- the node of this frame is made, whatever is left below it on a stack
abbrev pub CompletesFrame : {X : Type 0} → List code.SketchNode → BuilderModel → BuilderModel → List (Option ℕ) → List (Option ℕ) → code_frame.Frame → Result X Stop → Type 0
CompletesFrame sketch old new memo memo' f r = Completing (map sketch_of sketch) old new memo memo' (frame_of f) r

-- this frame, taken from the top of the stack, goes on
abbrev pub GoesOn : {X : Type 0} → List code.SketchNode → BuilderModel → BuilderModel → List (Option ℕ) → List (Option ℕ) → Vec code_frame.Frame Global → Vec code_frame.Frame Global → code_frame.Frame → Result X Stop → Type 0
GoesOn sketch old new memo memo' stack stack' f r = Stepping (map sketch_of sketch) old new memo memo' stack.items stack'.items (frame_of f) r

-- where nothing stops it, what is asked of a sketch, a memo and frames still holds
abbrev pub KeepsSafe : {X : Type 0} → List code.SketchNode → BuilderModel → BuilderModel → List (Option ℕ) → Result X Stop → Type 0
KeepsSafe sketch old new memo r = IfDone r (StaysSafe (map sketch_of sketch) old new memo)

abbrev pub KeepsFrames : {X : Type 0} → List code.SketchNode → BuilderModel → BuilderModel → Vec code_frame.Frame Global → Vec code_frame.Frame Global → Result X Stop → Type 0
KeepsFrames sketch old new stack stack' r = AreFrames (map sketch_of sketch) old (frames stack) → IfDone r (AreFrames (map sketch_of sketch) new (frames stack'))

-- where nothing stops it, fewer turns are left
abbrev pub TakesTurn : {X : Type 0} → List code.SketchNode → List (Option ℕ) → List (Option ℕ) → Vec code_frame.Frame Global → Vec code_frame.Frame Global → code_frame.Frame → Result X Stop → Type 0
TakesTurn sketch memo memo' stack stack' f r = IfDone r (IsTurn (map sketch_of sketch) memo memo' (frames_under stack f) (frames stack'))

-- all frames of the stack are done
abbrev pub DrainsStack : {X : Type 0} → List code.SketchNode → BuilderModel → BuilderModel → List (Option ℕ) → List (Option ℕ) → Vec code_frame.Frame Global → Result X Stop → Type 0
DrainsStack sketch old new memo memo' stack r = Draining (map sketch_of sketch) old new memo memo' (frames stack) [] r

-- where nothing stops it, the root is made whose frame is at the bottom
abbrev pub NumbersRoot : {X : Type 0} → List (Option ℕ) → List (Option ℕ) → Vec code_frame.Frame Global → Result X Stop → Type 0
NumbersRoot memo memo' stack r = (root : ℕ) → IsRooted memo root (frames stack) → IfDone r (IsNumbered memo' root)
