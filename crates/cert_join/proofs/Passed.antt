-- A line that is known, and passed.
use Rattle.std.proofs.Common.{◌≡◌, ◌<◌, ℕ, List, ◌∷◌, true, false, length, ap, sym, ◌∙◌, subst}
use Rattle.std.specs.Str.{bytes_eq}
use Rattle.std.proofs.lemmas.Slice.Eq.{bytes_eq-Decides}
use Rattle.cert_join.specs.Spot.{Spot, IsBefore, IsReady, text_in}
use Rattle.cert_join.specs.Gathered.{Passed}
use Rattle.cert_join.proofs.Spots.{before_same, ready_first}

-- the place stays before the same lines where only the next one's length is told
pub told : (cert : List ℕ) (ls : List (List ℕ)) (s s' : Spot) → s' ≡ record s { size = s'.size } → IsBefore cert ls s → IsBefore cert ls s'
told cert ls s s' e h = let P : Spot → Type 0 = λ k. IsBefore cert ls k in subst P (sym e) (before_same cert ls s s'.size h)

-- the line is the first of these, and the last place is behind it
pub record IsPassed (cert : List ℕ) (ls : List (List ℕ)) (l : List ℕ) (s : Spot) : Type 0 where
  pub rest : List (List ℕ)
  pub first : ls ≡ l ∷ rest
  pub before : IsBefore cert rest s

-- the place before some lines, that with the next line told, and that behind it
pub passed : (cert : List ℕ) (ls : List (List ℕ)) (s s' s'' : Spot) (l : List ℕ) → 0 < length ls → IsBefore cert ls s → s' ≡ record s { size = s'.size } →
    IsReady s' → l ≡ text_in s' → Passed s' s'' → IsPassed cert ls l s''
passed cert ls s s' s'' l some before same ready is pass =
    let b = told cert ls s s' same before in
    let f = ready_first cert ls s' some b ready in
    let P : List (List ℕ) → Type 0 = λ ks. IsBefore cert ks s' in
    record { rest = f.0.0; first = f.0.1 ∙ ap (λ (k : List ℕ). k ∷ f.0.0) (sym is); before = pass cert (text_in s') f.0.0 (subst P f.0.1 b) f.1 }

-- the bytes are these, by a test
pub same_bytes : (xs ys : List ℕ) → bytes_eq xs ys ≡ true → xs ≡ ys
same_bytes xs ys h = (bytes_eq-Decides xs ys).0 h

pub other_bytes : (xs ys : List ℕ) → bytes_eq xs ys ≡ false → xs ≡ ys → ⊥
other_bytes xs ys h e = let f : true ≡ false = sym ((bytes_eq-Decides xs ys).1 e) ∙ h in cc
