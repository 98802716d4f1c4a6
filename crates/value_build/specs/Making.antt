-- What is made of a script so far, and how it grows.
use Rattle.std.specs.Prelude.{◌≡◌, List, [], ◌++◌, Result}
use Rattle.script_model.specs.Declared.{Bound}
use Rattle.dyadic.specs.Point.{Sort}
use Rattle.script_forms.specs.Work.{Event}
use Rattle.term_build.specs.Built.{BuilderModel, begun, stand_of}
use Rattle.term_build.specs.Sketch.{SketchNode}
use Rattle.term_build.specs.Pairs.{Grown}
use Rattle.term_build.specs.Settled.{Extends}
use Rattle.term_build.specs.Steps.{Emits}
use Rattle.term_build.specs.declared.stop.Stop.{Stop}

-- what a builder has made of the script; the sketch of the forms of the assertion in work; the lists of bounds
pub record Making : Type 0 where
  pub made : BuilderModel
  pub drawn : List SketchNode
  pub bounds : List (List Bound)

abbrev pub making : BuilderModel → List SketchNode → List (List Bound) → Making
making m ds lists = record { made = m; drawn = ds; bounds = lists }

-- nothing is made yet; the constants have these sorts
abbrev pub beginning : List Sort → Making
beginning sorts = record { made = begun sorts; drawn = []; bounds = [] }

-- the later lists begin with the earlier ones
abbrev pub MoreLists : List (List Bound) → List (List Bound) → Type 0
MoreLists old new = (more : List (List Bound)) × (new ≡ old ++ more)

-- what stands stays, under its number
pub record Grows (old new : Making) : Type 0 where
  pub stand : Extends (stand_of old.made) (stand_of new.made)
  pub drawn : Grown old.drawn new.drawn
  pub bounds : MoreLists old.bounds new.bounds

-- the builder does what these events say; where it does not stop, what stands stays, and P holds of the answer
abbrev pub Steps : {X : Type 0} → Making → Making → List Event → Result X Stop → (X → Type 0) → Type 0
Steps old new es r P = Emits old.made new.made es r (λ x. Grows old new × P x)
