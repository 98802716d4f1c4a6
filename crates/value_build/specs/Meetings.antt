-- What is done with each two arms that meet, in order.
use Rattle.std.specs.Prelude.{◌≡◌, ℕ, ◌+◌, ◌*◌, ◌-◌, List, [], ◌∷◌, ◌++◌, length, Option, Some, None, Result, Ok, Err, IfOk, Vec}
use Rattle.std.specs.Global.{Global}
use Rattle.std.specs.declared.alloc.AllocError.{AllocError}
use Rattle.script_model.specs.Sexp.{Place}
use Rattle.poly_graph.specs.Term.{Term, Kind}
use Rattle.poly_graph.specs.Form.{Form}
use Rattle.script_forms.specs.Terms.{Comparison, Unfolded, formula, arms, step}
use Rattle.script_forms.specs.Unfolded.{choice_form, compare_two}
use Rattle.script_forms.specs.Work.{Event, step_events}
use Rattle.script_forms.specs.Walk.{most_size}
use Rattle.term_build.specs.Built.{BuilderModel, stand_of}
use Rattle.term_build.specs.Does.{IsTree}
use Rattle.term_build.specs.Sketch.{SketchNode, IsSketch}
use Rattle.term_build.specs.Pairs.{Draws, DrawsEach, Grown}
use Rattle.term_build.specs.Steps.{Emits, IsTreeOf}
use Rattle.term_build.specs.declared.connectives.Pair.{Pair}
use Rattle.term_build.specs.declared.sketch.Arm.{Arm}
use Rattle.term_build.specs.declared.stop.Stop.{Stop}
use Rattle.value_build.specs.Arms.{AreArms, IsLifted, IsSaid, events_of_leaf, terms_of, tree_of_leaf}
use Rattle.value_build.specs.Values.{IsArm}
use Rattle.value_build.specs.declared.lift.Leaf.{Leaf}
use Rattle.value_build.specs.declared.lift.Meeting.{Meeting}
use Rattle.value_build.specs.declared.lift.Entry.{Entry}
use Rattle.value_build.specs.declared.lift.Entry.TheVariants as entry

-- a comparison makes nothing yet
abbrev pub events_at : Option Leaf → Place → Term → Term → List Event
events_at (Some l) at t u = events_of_leaf l at t u
events_at None at t u = []

-- what is done with two Real expressions gives this; a comparison of trees gives what c says
abbrev pub outcome_of : Option Leaf → Place → (Term → Term → Unfolded) → Unfolded → Unfolded → Unfolded
outcome_of (Some l) at c u v = step (tree_of_leaf l at) u v
outcome_of None at c u v = compare_two c u v

abbrev pub choice_of : Option Leaf → Form Comparison → Form Comparison → Unfolded → Unfolded → Unfolded
choice_of (Some l) c d a b = arms c d a b
choice_of None c d a b = choice_form (formula c d ∷ a ∷ b ∷ [])

abbrev pub events_met : Option Leaf → Place → List (Unfolded × Unfolded) → List Event
events_met task at [] = []
events_met task at (p ∷ ps) = step_events (events_at task at) p.0 p.1 ++ events_met task at ps

abbrev pub outcomes_met : Option Leaf → Place → (Term → Term → Unfolded) → List (Unfolded × Unfolded) → List Unfolded
outcomes_met task at c [] = []
outcomes_met task at c (p ∷ ps) = outcome_of task at c p.0 p.1 ∷ outcomes_met task at c ps

-- the arms that meet stand for these expressions
abbrev pub AreMet : BuilderModel → List SketchNode → List (Unfolded × Unfolded) → List Meeting → Type 0
AreMet m ds [] [] = Unit {0}
AreMet m ds (p ∷ ps) (x ∷ xs) = IsArm m ds p.0 x.first × IsArm m ds p.1 x.second × AreMet m ds ps xs
AreMet m ds [] (x ∷ xs) = ⊥
AreMet m ds (p ∷ ps) [] = ⊥

abbrev pub AreSomeMet : BuilderModel → List SketchNode → List Meeting → Type 0
AreSomeMet m ds xs = (ps : List (Unfolded × Unfolded)) × AreMet m ds ps xs

-- what is read off two trees
abbrev pub IsRead : Option Leaf → (Term → Term → Unfolded) → BuilderModel → Entry → Unfolded → Type 0
IsRead (Some l) c m (entry.Made k) o = IsTreeOf m o k
IsRead None c m (entry.Trees i j) o = (t : Term) × (u : Term) × IsTree m t i × IsTree m u j × (o ≡ c t u)
IsRead task c m e o = ⊥

-- what is read stands for the first of these outcomes, and the others are left
abbrev pub AreRead : Option Leaf → (Term → Term → Unfolded) → BuilderModel → List SketchNode → List Entry → List Unfolded → List Unfolded → Type 0
AreRead task c m ds [] os rest = os ≡ rest
AreRead task c m ds (entry.Choice p ∷ es) os rest = (x : Form Comparison) × (y : Form Comparison) × (a : Unfolded) × (b : Unfolded) × (more : List Unfolded) × (os ≡ choice_of task x y a b ∷ more) ×
    Draws (stand_of m).trees ds (formula x y) p × AreRead task c m ds es (a ∷ b ∷ more) rest
AreRead task c m ds (e ∷ es) os rest = (o : Unfolded) × (more : List Unfolded) × (os ≡ o ∷ more) × IsRead task c m e o × AreRead task c m ds es more rest

-- some of what is due is done, and the rest is left
pub record Looked (old new : BuilderModel) (ds : List SketchNode) (task : Option Leaf) (at : Place) (ps : List (Unfolded × Unfolded)) (left : List Meeting) (e : Entry) : Type 0 where
  pub pairs : List (Unfolded × Unfolded)
  pub done : List Event
  pub met : AreMet new ds pairs left
  pub events : events_met task at ps ≡ done ++ events_met task at pairs
  pub reads : (c : Term → Term → Unfolded) → AreRead task c new ds (e ∷ []) (outcomes_met task at c ps) (outcomes_met task at c pairs)
  pub does : Emits {X = Unit {0}} old new done (Ok tt) (λ _. Unit {0})

abbrev pub Looks : BuilderModel → BuilderModel → List SketchNode → Option Leaf → Place → Meeting → List Meeting → List Meeting → Result Entry Stop → Type 0
Looks old new ds task at x xs left (Ok e) = (ps : List (Unfolded × Unfolded)) → AreMet old ds ps (x ∷ xs) → Looked old new ds task at ps left e
Looks old new ds task at x xs left (Err s) = (ps : List (Unfolded × Unfolded)) → AreMet old ds ps (x ∷ xs) → Emits {X = Unit {0}} old new (events_met task at ps) (Err s) (λ _. Unit {0})

-- expressions that may still be reached count twice, since each may part a meeting into two
abbrev pub turns_left : BuilderModel → List Meeting → ℕ
turns_left m left = 2 * (most_size - m.size) + length left

-- ---- all of it

-- what was read off two arms stands for what is done with them
pub record Spread (old new : BuilderModel) (ds : List SketchNode) (task : Option Leaf) (at : Place) (u v : Unfolded) (es : List Entry) : Type 0 where
  pub reads : (c : Term → Term → Unfolded) → AreRead task c new ds es (outcome_of task at c u v ∷ []) []
  pub does : Emits {X = Unit {0}} old new (step_events (events_at task at) u v) (Ok tt) (λ _. Unit {0})

abbrev pub Spreads : BuilderModel → BuilderModel → List SketchNode → Option Leaf → Place → Arm → Arm → Result (Vec Entry Global) Stop → Type 0
Spreads old new ds task at x y (Ok es) = (u v : Unfolded) → IsArm old ds u x → IsArm old ds v y → Spread old new ds task at u v es.items
Spreads old new ds task at x y (Err s) = (u v : Unfolded) → IsArm old ds u x → IsArm old ds v y → Emits {X = Unit {0}} old new (step_events (events_at task at) u v) (Err s) (λ _. Unit {0})

-- these entries, behind which these arms are made, stand for arms of these outcomes
pub record HasArms (m : BuilderModel) (ds : List SketchNode) (es : List Entry) (os : List Unfolded) (made : List Arm) : Type 0 where
  pub leaf : Leaf
  pub c : Term → Term → Unfolded
  pub rest : List Unfolded
  pub sketch : IsSketch m ds
  pub reads : AreRead (Some leaf) c m ds es os rest
  pub arms : AreArms m ds rest made

abbrev pub CanJoinArms : List SketchNode → Entry → List Arm → Type 0
CanJoinArms ds e made = (m : BuilderModel) × (os : List Unfolded) × HasArms m ds (e ∷ []) os made

abbrev pub JoinsArms : List SketchNode → List SketchNode → Entry → List Arm → List Arm → Result Arm AllocError → Type 0
JoinsArms ds ds' e made made' r = (m : BuilderModel) (os : List Unfolded) → HasArms m ds (e ∷ []) os made → IfOk r (λ x. Grown ds ds' × IsSketch m ds' × AreArms m ds' os (x ∷ made'))

abbrev pub CanGatherArms : List SketchNode → List Entry → Type 0
CanGatherArms ds es = (m : BuilderModel) × (o : Unfolded) × HasArms m ds es (o ∷ []) []

abbrev pub GathersArms : List SketchNode → List SketchNode → List Entry → Result Arm AllocError → Type 0
GathersArms ds ds' es r = (m : BuilderModel) (o : Unfolded) → HasArms m ds es (o ∷ []) [] → IfOk r (IsLifted m ds ds' o)

-- the same of comparisons
pub record HasPairs (m : BuilderModel) (ds : List SketchNode) (kind : Kind) (at : Place) (es : List Entry) (os : List Unfolded) (said : List Pair) : Type 0 where
  pub rest : List Unfolded
  pub sketch : IsSketch m ds
  pub reads : AreRead None (terms_of kind at) m ds es os rest
  pub pairs : DrawsEach (stand_of m).trees ds rest said

abbrev pub CanJoinPairs : List SketchNode → Kind → Place → Entry → List Pair → Type 0
CanJoinPairs ds kind at e said = (m : BuilderModel) × (os : List Unfolded) × HasPairs m ds kind at (e ∷ []) os said

abbrev pub JoinsPairs : List SketchNode → List SketchNode → Kind → Place → Entry → List Pair → List Pair → Result Pair AllocError → Type 0
JoinsPairs ds ds' kind at e said said' r = (m : BuilderModel) (os : List Unfolded) → HasPairs m ds kind at (e ∷ []) os said → IfOk r (λ p. Grown ds ds' × IsSketch m ds' × DrawsEach (stand_of m).trees ds' os (p ∷ said'))

abbrev pub CanGatherPairs : List SketchNode → Kind → Place → List Entry → Type 0
CanGatherPairs ds kind at es = (m : BuilderModel) × (o : Unfolded) × HasPairs m ds kind at es (o ∷ []) []

abbrev pub GathersPairs : List SketchNode → List SketchNode → Kind → Place → List Entry → Result Pair AllocError → Type 0
GathersPairs ds ds' kind at es r = (m : BuilderModel) (o : Unfolded) → HasPairs m ds kind at es (o ∷ []) [] → IfOk r (IsSaid m ds ds' o)

-- some meetings of two arms are looked at, and these are left
pub record Spreading (old new : BuilderModel) (ds : List SketchNode) (task : Option Leaf) (at : Place) (u v : Unfolded) (es : List Entry) (left : List Meeting) : Type 0 where
  pub pairs : List (Unfolded × Unfolded)
  pub done : List Event
  pub met : AreMet new ds pairs left
  pub events : step_events (events_at task at) u v ≡ done ++ events_met task at pairs
  pub reads : (c : Term → Term → Unfolded) → AreRead task c new ds es (outcome_of task at c u v ∷ []) (outcomes_met task at c pairs)
  pub does : Emits {X = Unit {0}} old new done (Ok tt) (λ _. Unit {0})

pub record IsSpreading (old new : BuilderModel) (ds : List SketchNode) (task : Option Leaf) (at : Place) (x y : Arm) (es : List Entry) (left : List Meeting) : Type 0 where
  pub sketch : IsSketch new ds
  pub sorts : new.sorts ≡ old.sorts
  pub spreads : (u v : Unfolded) → IsArm old ds u x → IsArm old ds v y → Spreading old new ds task at u v es left
