-- The words of a line as the code walks over them.
use Rattle.std.specs.Prelude.{◌≡◌, ℕ, List, [], ◌∷◌, Option, Some, None}
use Rattle.cert_read.specs.declared.words.Words as code
use Rattle.cert_read.specs.declared.words.Words.TheVariants.{Nothing, One, Two, More}
use Rattle.cert_read.specs.Lines.{words_of}

-- the words of what stands behind a space, where there is one
abbrev pub words_behind : Option (List ℕ) → List (List ℕ)
words_behind None = []
words_behind (Some rest) = words_of rest

-- up to two words, or that they are more
abbrev pub AreWords : code.Words → List (List ℕ) → Type 0
AreWords Nothing ws = ws ≡ []
AreWords (One w) ws = ws ≡ w.now ∷ []
AreWords (Two v w) ws = ws ≡ v.now ∷ w.now ∷ []
AreWords More ws = (u : List ℕ) × (v : List ℕ) × (w : List ℕ) × (rest : List (List ℕ)) × (ws ≡ u ∷ v ∷ w ∷ rest)
