-- The values of literals and declared constants.
use Rattle.std.specs.Prelude.{ℕ, [], Result}
use Rattle.dyadic.specs.Point.{bool_sort}
use Rattle.script_model.specs.Declared.{Bounding, bounds}
use Rattle.poly_graph.specs.Term.{Term}
use Rattle.script_forms.specs.Terms.{term}
use Rattle.script_forms.specs.Atoms.{constant_tree}
use Rattle.script_forms.specs.Work.{ending}
use Rattle.term_build.specs.declared.stop.Stop.{Stop}
use Rattle.value_build.specs.Making.{Making, Steps}
use Rattle.value_build.specs.Values.{IsValue, Weighs}
use Rattle.value_build.specs.declared.value.Value.{Value}

-- the tree is made
abbrev pub MakesTree : Making → Making → Term → Result Value Stop → Type 0
MakesTree old new t r = (b : Bounding) → Weighs t b → Steps old new (ending (term t)) r (IsValue new (term t) b)

-- a Bool constant is drawn
abbrev pub MakesSwitch : Making → Making → ℕ → Result Value Stop → Type 0
MakesSwitch old new axis r = Steps old new (ending (constant_tree axis bool_sort)) r (IsValue new (constant_tree axis bool_sort) (bounds []))
