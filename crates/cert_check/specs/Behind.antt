-- The states that wait in a tree, each but the next one made of the one above.
use Rattle.std.specs.Prelude.{List, [], ◌∷◌, reverse}
use Rattle.cover_model.specs.State.{State}
use Rattle.cert_check.specs.declared.pending.Below.{Below}
use Rattle.cert_check.specs.declared.pending.Below.TheVariants.{Whole, Changed}
use Rattle.cert_check.specs.declared.pending.Pending.{Pending}
use Rattle.cert_check.specs.declared.pending.Pending.TheVariants.{Empty, Next}
use Rattle.cert_check.specs.Changed.{changed}
use Rattle.cert_check.specs.States.{state_of}

-- the state that is kept below this one
abbrev pub below_of : Below → State → State
below_of (Whole T) S = state_of T
below_of (Changed c) S = changed c S

-- the state, and those below it, the nearest first
abbrev pub stack : State → List Below → List State
stack S [] = S ∷ []
stack S (b ∷ bs) = S ∷ stack (below_of b S) bs

-- the next one first
abbrev pub pending_of : Pending → List State
pending_of Empty = []
pending_of (Next S bs) = stack (state_of S) (reverse bs.items)
