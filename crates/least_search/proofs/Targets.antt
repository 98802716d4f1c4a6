-- Where the limit of a search lies, whatever it is for.
use Rattle.std.proofs.Common.{refl, inl, inr}
use Rattle.goal_limit.specs.Tries.{Span, IsTarget}
use Rattle.least_search.specs.Limits.{target}
use Rattle.least_search.specs.declared.limits.Phase.{Phase}
use Rattle.least_search.specs.declared.limits.Phase.TheVariants.{Probing, Closing, Halving}

pub target_is : (p : Phase) (s : Span) → IsTarget s (target p s)
target_is Closing s = inl refl
target_is Probing s = inr refl
target_is Halving s = inr refl
