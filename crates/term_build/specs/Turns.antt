-- How many turns are left until all frames of a form in work are done.
use Rattle.std.specs.Prelude.{◌≡◌, ℕ, zero, suc, ◌+◌, ◌-◌, ◌<◌, List, [], ◌∷◌, length, Option, Some, None, cond, nat_eq, slice_get, slice_set}
use Rattle.script_forms.specs.Terms.{Comparison}
use Rattle.script_forms.specs.Work.{Event}
use Rattle.poly_graph.specs.Form.{Form}
use Rattle.term_build.specs.Built.{BuilderModel, stand_of}
use Rattle.term_build.specs.Sketch.{SketchNode, IsDrawing, IsSketch}
use Rattle.term_build.specs.Shapes.{AreFrames, Frame, IsWalkLeft, IsMemo, children, node_at}

-- how many children are done of the frame of node k, where it has one
abbrev pub done_of : List Frame → ℕ → Option ℕ
done_of [] k = None
done_of (f ∷ above) k = cond (nat_eq f.node k) (Some (length f.numbers)) (done_of above k)

-- of a node of n children: one for each that is left, one that makes the node, and one that gives it a frame
abbrev pub turns_of : ℕ → Option ℕ → ℕ
turns_of n (Some i) = suc (n - i)
turns_of n None = suc (suc n)

-- none where the node is made
abbrev pub turns_unless : Option (Option ℕ) → ℕ → ℕ
turns_unless (Some (Some j)) n = 0
turns_unless o n = n

abbrev pub turns_at : List SketchNode → List (Option ℕ) → List Frame → ℕ → ℕ
turns_at ds memo stack k = turns_unless (slice_get memo k) (turns_of (length (children (node_at ds k))) (done_of stack k))

abbrev pub sum_below : (ℕ → ℕ) → ℕ → ℕ
sum_below f zero = 0
sum_below f (suc n) = f n + sum_below f n

unfoldable pub turns_left : List SketchNode → List (Option ℕ) → List Frame → ℕ
turns_left ds memo stack = sum_below (turns_at ds memo stack) (length ds)

-- from the bottom on, below number n: each frame's node comes before that of the frame below it, and none is made yet
abbrev pub AreNested : List (Option ℕ) → ℕ → List Frame → Type 0
AreNested memo n [] = Unit {0}
AreNested memo n (f ∷ above) = (f.node < n) × (slice_get memo f.node ≡ Some None) × AreNested memo f.node above

abbrev pub AreStacked : List SketchNode → List (Option ℕ) → List Frame → Type 0
AreStacked ds memo stack = AreNested memo (length ds) stack

-- a node that is made
abbrev pub IsNumbered : List (Option ℕ) → ℕ → Type 0
IsNumbered memo k = (j : ℕ) × (slice_get memo k ≡ Some (Some j))

-- node k is made, and all else is as it was
abbrev pub IsMadeIn : List (Option ℕ) → List (Option ℕ) → ℕ → Type 0
IsMadeIn memo memo' k = (j : ℕ) × (memo' ≡ slice_set memo k (Some j))

-- the frame at the bottom is the root's; where there is none the root is made
abbrev pub IsRooted : List (Option ℕ) → ℕ → List Frame → Type 0
IsRooted memo root [] = IsNumbered memo root
IsRooted memo root (f ∷ above) = f.node ≡ root

-- one turn: fewer are left, and the frames stay nested, over their root
pub record IsTurn (ds : List SketchNode) (memo memo' : List (Option ℕ)) (stack stack' : List Frame) : Type 0 where
  pub nested : AreStacked ds memo' stack'
  pub rooted : (root : ℕ) → IsRooted memo root stack → IsRooted memo' root stack'
  pub falls : turns_left ds memo' stack' < turns_left ds memo stack

-- the same of a stack that goes on
abbrev pub Drains : List SketchNode → BuilderModel → BuilderModel → List (Option ℕ) → List (Option ℕ) → List Frame → List Frame → Type 0
Drains ds old new memo memo' stack stack' = (m0 : BuilderModel) (es : List Event) (fs : List (Form Comparison)) → IsDrawing (stand_of m0).trees ds fs → IsSketch m0 ds →
    IsWalkLeft (stand_of m0) es fs ds old memo stack → IsWalkLeft (stand_of m0) es fs ds new memo' stack'

-- what holds while a stack is drained
pub record IsDraining (ds : List SketchNode) (old new : BuilderModel) (memo memo' : List (Option ℕ)) (stack stack' : List Frame) : Type 0 where
  pub sketched : IsSketch new ds
  pub kept : IsMemo ds new memo'
  pub framed : AreFrames ds new stack'
  pub nested : AreStacked ds memo' stack'
  pub rooted : (root : ℕ) → IsRooted memo root stack → IsRooted memo' root stack'
  pub drains : Drains ds old new memo memo' stack stack'
  pub sorts : new.sorts ≡ old.sorts
