-- The next line of one certificate is copied, or ends it.
use Rattle.std.proofs.Common.{◌≡◌, ℕ, List, ◌∷◌, Option, Some, None, subst}
use Rattle.cert_join.specs.Gathered.{Passed}
use Rattle.cert_join.specs.Spot.{Spot, IsBefore, IsFirst, IsReady, line_in}
use Rattle.cert_join.proofs.Copying.{resized}

module _ (cert : List ℕ) (ls : List (List ℕ)) (s t : Spot) (before : IsBefore cert ls s) (same : t ≡ record s { size = t.size }) where
  -- it is not known yet
  pub stays_before : IsBefore cert ls t
  stays_before = resized cert ls s t same before

  -- there is none
  pub none_next : IsReady t → line_in t ≡ None → IsFirst ls None
  none_next ready none = let P : Option (List ℕ) → Type 0 = λ o. IsFirst ls o in subst P none (ready cert ls stays_before)

  pub line_next : (line : List ℕ) → IsReady t → line_in t ≡ Some line → (rest : List (List ℕ)) × (ls ≡ line ∷ rest)
  line_next line ready is = let P : Option (List ℕ) → Type 0 = λ o. IsFirst ls o in subst P is (ready cert ls stays_before)

  -- it is passed
  pub passes_next : (line : List ℕ) (u : Spot) → IsReady t → line_in t ≡ Some line → Passed t u → (rest : List (List ℕ)) × (ls ≡ line ∷ rest) × IsBefore cert rest u
  passes_next line u ready is passed =
      let x = line_next line ready is in
      let P : List (List ℕ) → Type 0 = λ l. IsBefore cert l t in
      (x.0, x.1, passed cert line x.0 (subst P x.1 stays_before) is)
