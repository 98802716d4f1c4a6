-- What a step of a builder answers.
use Rattle.std.specs.Prelude.{◌≡◌, ℕ, ◌<◌, length, IsTrue, Some, Result, Ok, Err, slice_get}
use Rattle.script_model.specs.Sexp.{Place}
use Rattle.smt_sexp.specs.Views.{place_of}
use Rattle.poly_graph.specs.Term.{Term, Atom}
use Rattle.poly_graph.specs.Form.{Form}
use Rattle.script_forms.specs.Atoms.{already, number_in}
use Rattle.script_forms.specs.Terms as terms
use Rattle.script_forms.specs.Walk.{Stand, Walked, stands, stops, unfolds_not, too_large, too_many_nodes, too_many_atoms, too_many_forms}
use Rattle.poly_graph.specs.declared.refused.NoNode.{NoNode}
use Rattle.poly_graph.specs.declared.refused.NoNode.TheVariants as none
use Rattle.poly_graph.specs.declared.refused.Limit.TheVariants as limit
use Rattle.term_build.specs.Built.{BuilderModel, stand_of}
use Rattle.term_build.specs.declared.stop.Fault.{Fault}
use Rattle.term_build.specs.declared.stop.Fault.TheVariants.{NumberTooWide, DivisorNotConstant, ZeroDivisor, IllFormed}
use Rattle.script_fault.specs.declared.limit.Limit.{Limit}
use Rattle.script_fault.specs.declared.limit.Limit.TheVariants.{Bytes, Depth, Axes, Size, Nodes, Atoms, Forms, Levels, Checks}
use Rattle.term_build.specs.declared.stop.Stop.{Stop}
use Rattle.term_build.specs.declared.stop.Stop.TheVariants as stop

abbrev pub fault_of : Place → Fault → terms.Fault
fault_of at NumberTooWide = terms.number_too_wide at
fault_of at DivisorNotConstant = terms.divisor_not_constant at
fault_of at ZeroDivisor = terms.zero_divisor at
fault_of at IllFormed = terms.ill_formed at

-- within the assertion at this place the walk goes beyond a limit of a builder, which are these four
unfoldable pub IsBeyond : Place → Walked → Limit → Type 0
IsBeyond claim w Size = w ≡ stops claim too_large
IsBeyond claim w Nodes = w ≡ stops claim too_many_nodes
IsBeyond claim w Atoms = w ≡ stops claim too_many_atoms
IsBeyond claim w Forms = w ≡ stops claim too_many_forms
IsBeyond claim w Bytes = ⊥
IsBeyond claim w Depth = ⊥
IsBeyond claim w Axes = ⊥
IsBeyond claim w Levels = ⊥
IsBeyond claim w Checks = ⊥

-- the walk stops so, within the assertion at this place
abbrev pub StopsAs : Place → Walked → Stop → Type 0
StopsAs claim w (stop.Fault at x) = w ≡ stops (place_of at) (unfolds_not (fault_of (place_of at) x))
StopsAs claim w (stop.TooMany what) = IsBeyond claim w what
StopsAs claim w stop.Memory = Unit {0}

-- within each assertion the walk goes on from what was made to what is made now, or stops
abbrev pub Does : {X : Type 0} → BuilderModel → BuilderModel → (Place → Stand → Walked) → Result X Stop → (X → Type 0) → Type 0
Does old new f (Ok x) P = ((claim : Place) → f claim (stand_of old) ≡ stands (stand_of new)) × P x
Does old new f (Err e) P = (claim : Place) → StopsAs claim (f claim (stand_of old)) e

-- node k is this tree
abbrev pub IsTree : BuilderModel → Term → ℕ → Type 0
IsTree m t k = slice_get (stand_of m).trees k ≡ Some t

-- a number, or why there is none
abbrev pub limited_to : Result ℕ NoNode → Result ℕ Stop
limited_to (Ok k) = Ok k
limited_to (Err (none.TooMany limit.Nodes)) = Err (stop.TooMany Nodes)
limited_to (Err (none.TooMany limit.Atoms)) = Err (stop.TooMany Atoms)
limited_to (Err (none.TooMany limit.Forms)) = Err (stop.TooMany Forms)
limited_to (Err none.Memory) = Err stop.Memory

-- atom k is this one, and k its number
abbrev pub IsAtom : BuilderModel → Atom → ℕ → Type 0
IsAtom m a k = (k < length m.atoms) × (number_in (stand_of m).atoms a ≡ k) × IsTrue (already a (stand_of m).atoms)

-- node k of the form is this one
abbrev pub IsForm : BuilderModel → Form ℕ → ℕ → Type 0
IsForm m f k = slice_get (stand_of m).forms k ≡ Some f
