-- The lines of some bytes have no LF, and the words of a line no space; words joined again are the line.
use Rattle.std.proofs.Common.{◌≡◌, ℕ, List, [], ◌∷◌, Bool, true, false, not, cond, IsTrue, refl, ap, sym, ◌∙◌, nat_eq}
use Rattle.std.proofs.lemmas.Bool.{eqb-true}
use Rattle.std.specs.List.{AllByRecursion}
use Rattle.dyadic.proofs.Equal.{both_true, both_pass}
use Rattle.cert_read.specs.Lines.{split_at, onto_first, without_last_empty, lines_of, all_bytes, words_of}
use Rattle.cert_read.specs.LineText.{spaced}
use Rattle.cert_read.proofs.Parts.{split_some}

-- all bytes of each piece pass
abbrev pub AllPass : (ℕ → Bool) → List (List ℕ) → Type 0
AllPass f ws = AllByRecursion (λ w. IsTrue (all_bytes f w)) ws

onto-passes : (f : ℕ → Bool) (b : ℕ) (ws : List (List ℕ)) → IsTrue (f b) → AllPass f ws → AllPass f (onto_first b ws)
onto-passes f b [] h k = (both_pass (f b) true h refl, tt)
onto-passes f b (w ∷ ws) h k = (both_pass (f b) (all_bytes f w) h k.0, k.1)

piece-passes : (f : ℕ → Bool) (b : ℕ) (ws : List (List ℕ)) (t : Bool) → (t ≡ false → IsTrue (f b)) → AllPass f ws → AllPass f (cond t ([] ∷ ws) (onto_first b ws))
piece-passes f b ws true h k = (refl, k)
piece-passes f b ws false h k = onto-passes f b ws (h refl) k

-- what passes in the whole passes in the pieces
pub pieces_pass : (f : ℕ → Bool) (c : ℕ) (xs : List ℕ) → IsTrue (all_bytes f xs) → AllPass f (split_at c xs)
pieces_pass f c [] h = (refl, tt)
pieces_pass f c (b ∷ bs) h = let e = both_true (f b) (all_bytes f bs) h in piece-passes f b (split_at c bs) (nat_eq b c) (λ _. e.0) (pieces_pass f c bs e.1)

-- no piece has the byte that parts them
pub pieces_lack : (c : ℕ) (xs : List ℕ) → AllPass (λ b. not (nat_eq b c)) (split_at c xs)
pieces_lack c [] = (refl, tt)
pieces_lack c (b ∷ bs) = piece-passes (λ x. not (nat_eq x c)) b (split_at c bs) (nat_eq b c) (λ e. ap not e) (pieces_lack c bs)

without-last : (f : ℕ → Bool) (ls : List (List ℕ)) → AllPass f ls → AllPass f (without_last_empty ls)
without-last f [] h = tt
without-last f ([] ∷ []) h = tt
without-last f ([] ∷ m ∷ ls) h = (h.0, without-last f (m ∷ ls) h.1)
without-last f ((b ∷ l) ∷ ls) h = (h.0, without-last f ls h.1)

-- no line has an LF
pub lines_lack : (bytes : List ℕ) → AllPass (λ b. not (nat_eq b 10)) (lines_of bytes)
lines_lack bytes = without-last (λ b. not (nat_eq b 10)) (split_at 10 bytes) (pieces_lack 10 bytes)

-- ---- words joined again

spaced-first : (w : List ℕ) (ws : List (List ℕ)) → spaced ([] ∷ w ∷ ws) ≡ 32 ∷ spaced (w ∷ ws)
spaced-first w ws = refl

spaced-onto : (b : ℕ) (ws : List (List ℕ)) → spaced (onto_first b ws) ≡ b ∷ spaced ws
spaced-onto b [] = refl
spaced-onto b (w ∷ []) = refl
spaced-onto b (w ∷ v ∷ ws) = refl

spaced-space : (bs : List ℕ) → spaced ([] ∷ split_at 32 bs) ≡ 32 ∷ spaced (split_at 32 bs)
spaced-space bs = let s = split_some 32 bs in
    ap (λ (ps : List (List ℕ)). spaced ([] ∷ ps)) s.2 ∙ spaced-first s.0 s.1 ∙ ap (λ (ps : List (List ℕ)). 32 ∷ spaced ps) (sym s.2)

spaced-next : (b : ℕ) (bs : List ℕ) (t : Bool) → (t ≡ true → b ≡ 32) → spaced (cond t ([] ∷ split_at 32 bs) (onto_first b (split_at 32 bs))) ≡ b ∷ spaced (split_at 32 bs)
spaced-next b bs true h = spaced-space bs ∙ ap (λ (x : ℕ). x ∷ spaced (split_at 32 bs)) (sym (h refl))
spaced-next b bs false h = spaced-onto b (split_at 32 bs)

pub spaced_words : (xs : List ℕ) → spaced (words_of xs) ≡ xs
spaced_words [] = refl
spaced_words (b ∷ bs) = spaced-next b bs (nat_eq b 32) (λ h. eqb-true b 32 h) ∙ ap (λ (ys : List ℕ). b ∷ ys) (spaced_words bs)
