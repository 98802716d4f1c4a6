-- That nothing but a number's spelling is read as the number.
use Rattle.std.specs.Prelude.{◌≡◌, ℕ, List}
use Rattle.dyadic.specs.Rounding.{Dyadic}
use Rattle.dyadic.specs.NumberText.{number_text, number, number_spelling}

abbrev pub OnlySpellingsRead : Type 0
OnlySpellingsRead = (bytes : List ℕ) (d : Dyadic) → number_text bytes ≡ number d → bytes ≡ number_spelling d
