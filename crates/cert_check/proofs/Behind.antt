-- The states that wait.
use Rattle.std.proofs.Common.{◌≡◌, ◌+◌, List, [], ◌∷◌, ◌++◌, length, reverse, refl, ap, arith}
use Rattle.std.proofs.lemmas.List.{reverse-append, length-reverse}
use Rattle.cover_model.specs.State.{State}
use Rattle.cert_check.specs.declared.pending.Below.{Below}
use Rattle.cert_check.specs.Behind.{below_of, stack}

-- one more state below
pub stack_more : (S : State) (bs : List Below) (b : Below) → stack S (reverse (bs ++ (b ∷ []))) ≡ S ∷ stack (below_of b S) (reverse bs)
stack_more S bs b = ap (stack S) (reverse-append bs (b ∷ []))

pub length_stack : (S : State) (bs : List Below) → length (stack S bs) ≡ length bs + 1
length_stack S [] = refl
length_stack S (b ∷ bs) = let e = length_stack (below_of b S) bs in omega (arith, e)

pub length_waiting : (S : State) (bs : List Below) → length bs + 1 ≡ length (stack S (reverse bs))
length_waiting S bs = let e = length_stack S (reverse bs) in omega (arith, e, length-reverse bs)
