-- Texts in pieces.
use Rattle.std.proofs.Common.{◌≡◌, ℕ, List, [], ◌∷◌, ◌++◌, ◌∙◌, ap, sym, append_assoc, codes}
use Rattle.std.specs.Prelude.{decimal}
use Rattle.check_run.specs.Joined.{apart_text, not_joined_line}

place_last : (a kind line column : List ℕ) → (a ++ kind) ++ (32 ∷ (line ++ (58 ∷ (column ++ (10 ∷ []))))) ≡ a ++ kind ++ (32 ∷ (line ++ (58 ∷ column))) ++ (10 ∷ [])
place_last a kind line column = simp append_assoc

-- A line of a kind of fault with its place was written.
pub placed : (a kind line column place text text' text'' : List ℕ) → text ≡ a → text' ≡ text ++ kind → place ≡ 32 ∷ (line ++ (58 ∷ (column ++ (10 ∷ []))))
    → text'' ≡ text' ++ place → text'' ≡ a ++ kind ++ (32 ∷ (line ++ (58 ∷ column))) ++ (10 ∷ [])
placed a kind line column place text text' text'' begun told at all =
    all ∙ ap (λ (t : List ℕ). text' ++ t) at ∙ ap (λ (t : List ℕ). t ++ (32 ∷ (line ++ (58 ∷ (column ++ (10 ∷ [])))))) (told ∙ ap (λ (t : List ℕ). t ++ kind) begun)
    ∙ place_last a kind line column

-- a line of a certificate that does not go together with others
pub apart_is : (k n : ℕ) (bytes : List ℕ) → bytes ≡ codes "certificate " ++ (decimal k ++ (codes "\nnot joined line " ++ (decimal n ++ codes "\n"))) → bytes ≡ apart_text k n
apart_is k n bytes e = e ∙ ap (λ (l : List ℕ). codes "certificate " ++ l) (sym (append_assoc (decimal k) (10 ∷ []) (not_joined_line n)))
