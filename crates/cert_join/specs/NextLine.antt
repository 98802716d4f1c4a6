-- What is done with the next line of one certificate.
use Rattle.std.specs.Prelude.{◌≡◌, ℕ, List, [], ◌∷◌, ◌++◌, Bool, true, false, None, Result, Ok, Err, codes}
use Rattle.std.specs.declared.alloc.AllocError.{AllocError}
use Rattle.cert_join.specs.declared.joiner.Step.{Step}
use Rattle.cert_join.specs.declared.joiner.Step.TheVariants.{Read, On, Over}
use Rattle.cert_join.specs.Spot.{Spot, IsBefore, IsFirst}

-- It is copied with a line feed; or more has to be read first; or there is none, or it is too long.
abbrev pub CopiesNext : List ℕ → List (List ℕ) → List ℕ → Result Step AllocError → List ℕ → Spot → Type 0
CopiesNext cert ls old (Ok On) new s = (l : List ℕ) × (rest : List (List ℕ)) × (ls ≡ l ∷ rest) × (new ≡ old ++ (l ++ (10 ∷ []))) × IsBefore cert rest s
CopiesNext cert ls old (Ok Over) new s = IsFirst ls None × (new ≡ old)
CopiesNext cert ls old (Ok (Read part)) new s = (new ≡ old) × IsBefore cert ls s
CopiesNext cert ls old (Err e) new s = Unit {0}

-- It is `end`, which was not read before; or more has to be read first; or `end` was read, and there is none, or it is too long;
-- or it is odd: another line, or one behind `end`.
abbrev pub EndsNext : List ℕ → List (List ℕ) → Bool → Step → Bool → Bool → Spot → Type 0
EndsNext cert ls was On is odd s = (was ≡ false) × (is ≡ true) × ((rest : List (List ℕ)) × (ls ≡ codes "end" ∷ rest) × IsBefore cert rest s)
EndsNext cert ls was Over is odd s = odd ≡ false → (was ≡ true) × IsFirst ls None
EndsNext cert ls was (Read part) is odd s = (is ≡ was) × IsBefore cert ls s
