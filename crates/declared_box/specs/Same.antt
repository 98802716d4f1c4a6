-- Lists of the same bounds, where fractions may be spelled otherwise.
use Rattle.std.specs.Prelude.{◌≡◌, List, [], ◌∷◌, IsTrue}
use Rattle.dyadic.specs.Fraction.{Fraction, IsFraction, at_most}
use Rattle.script_model.specs.Declared.{Bound}

-- fractions that are the same number
pub record SameNumber (p q : Fraction) : Type 0 where
  pub first : IsFraction p
  pub second : IsFraction q
  pub below : IsTrue (at_most p q)
  pub above : IsTrue (at_most q p)

pub record SameBound (a b : Bound) : Type 0 where
  pub axis : a.axis ≡ b.axis
  pub side : a.side ≡ b.side
  pub value : SameNumber a.value b.value

-- place by place
abbrev pub SameBounds : List Bound → List Bound → Type 0
SameBounds [] [] = Unit {0}
SameBounds (a ∷ rest) (b ∷ others) = SameBound a b × SameBounds rest others
SameBounds _ _ = ⊥
