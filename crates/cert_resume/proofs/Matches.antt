-- What an option says, where it is known which one it is.
use Rattle.std.proofs.Common.{◌≡◌, Option, Some, None, subst}
use Rattle.std.specs.Option.{MatchOption}

pub none_of : {X : Type 0} (o : Option X) (N : Type 0) (S : X → Type 0) → o ≡ None → MatchOption o N S → N
none_of o N S e h = subst (λ p. MatchOption p N S) e h

pub some_of : {X : Type 0} (o : Option X) (N : Type 0) (S : X → Type 0) (x : X) → o ≡ Some x → MatchOption o N S → S x
some_of o N S x e h = subst (λ p. MatchOption p N S) e h

pub match_weaker : {X : Type 0} {N M : Type 0} {S T : X → Type 0} (o : Option X) → (N → M) → ((x : X) → S x → T x) → MatchOption o N S → MatchOption o M T
match_weaker None f g h = f h
match_weaker (Some x) f g h = g x h
