-- The breaks between a text's lines.
use Rattle.std.specs.Prelude.{ℕ, List, [], ◌∷◌, cond, nat_eq}

-- what follows the first break
abbrev pub behind_break : List ℕ → List ℕ
behind_break [] = []
behind_break (b ∷ bs) = cond (nat_eq b 10) bs (behind_break bs)

-- with a break at its end, unless it is empty
abbrev pub with_break : List ℕ → List ℕ
with_break [] = []
with_break (b ∷ []) = cond (nat_eq b 10) (b ∷ []) (b ∷ 10 ∷ [])
with_break (b ∷ c ∷ bs) = b ∷ with_break (c ∷ bs)
