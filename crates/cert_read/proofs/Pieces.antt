-- Pieces that are joined part again.
use Rattle.std.proofs.Common.{◌≡◌, ℕ, List, [], ◌∷◌, ◌++◌, Bool, true, false, not, cond, IsTrue, refl, ap, sym, ◌∙◌, true≢false, nat_eq, inl, inr}
use Rattle.std.proofs.lemmas.Bool.Decides.{eqb_tells}
use Rattle.dyadic.proofs.Equal.{both_true, both_pass}
use Rattle.cert_read.specs.Lines.{split_at, onto_first, without_last_empty, lines_of, all_bytes, words_of}
use Rattle.cert_read.specs.LineText.{spaced, text_of_lines}

same-byte : (c : ℕ) → nat_eq c c ≡ true
same-byte c = elim (eqb_tells c c) [ inl h ↦ h.0 | inr h ↦ absurd (h.1 refl) ]

not-true : (t : Bool) → IsTrue (not t) → t ≡ false
not-true true h = absurd (true≢false (sym h))
not-true false h = refl

-- no byte is c
abbrev pub lacks : ℕ → List ℕ → Bool
lacks c xs = all_bytes (λ b. not (nat_eq b c)) xs

pub split_joined : (c : ℕ) (xs ys : List ℕ) → IsTrue (lacks c xs) → split_at c (xs ++ (c ∷ ys)) ≡ xs ∷ split_at c ys
split_joined c [] ys h = ap (λ (t : Bool). cond t ([] ∷ split_at c ys) (onto_first c (split_at c ys))) (same-byte c)
split_joined c (b ∷ xs) ys h = let e = both_true (not (nat_eq b c)) (lacks c xs) h in
    ap (λ (t : Bool). cond t ([] ∷ split_at c (xs ++ (c ∷ ys))) (onto_first b (split_at c (xs ++ (c ∷ ys))))) (not-true (nat_eq b c) e.0)
    ∙ ap (λ (ps : List (List ℕ)). onto_first b ps) (split_joined c xs ys e.1)

pub split_alone : (c : ℕ) (xs : List ℕ) → IsTrue (lacks c xs) → split_at c xs ≡ xs ∷ []
split_alone c [] h = refl
split_alone c (b ∷ xs) h = let e = both_true (not (nat_eq b c)) (lacks c xs) h in
    ap (λ (t : Bool). cond t ([] ∷ split_at c xs) (onto_first b (split_at c xs))) (not-true (nat_eq b c) e.0)
    ∙ ap (λ (ps : List (List ℕ)). onto_first b ps) (split_alone c xs e.1)

abbrev pub AllLack : ℕ → List (List ℕ) → Type 0
AllLack c [] = Unit {0}
AllLack c (w ∷ ws) = IsTrue (lacks c w) × AllLack c ws

pub words_of_spaced : (w : List ℕ) (ws : List (List ℕ)) → AllLack 32 (w ∷ ws) → words_of (spaced (w ∷ ws)) ≡ w ∷ ws
words_of_spaced w [] h = split_alone 32 w h.0
words_of_spaced w (v ∷ ws) h = split_joined 32 w (spaced (v ∷ ws)) h.0 ∙ ap (λ (ps : List (List ℕ)). w ∷ ps) (words_of_spaced v ws h.1)

-- ---- lines

split-lines : (ls : List (List ℕ)) → AllLack 10 ls → split_at 10 (text_of_lines ls) ≡ ls ++ ([] ∷ [])
split-lines [] h = refl
split-lines (l ∷ ls) h = split_joined 10 l (text_of_lines ls) h.0 ∙ ap (λ (ps : List (List ℕ)). l ∷ ps) (split-lines ls h.1)

keeps-first : (l m : List ℕ) (ls : List (List ℕ)) → without_last_empty (l ∷ m ∷ ls) ≡ l ∷ without_last_empty (m ∷ ls)
keeps-first [] m ls = refl
keeps-first (b ∷ l) m ls = refl

drops-last : (ls : List (List ℕ)) → without_last_empty (ls ++ ([] ∷ [])) ≡ ls
drops-last [] = refl
drops-last (l ∷ []) = keeps-first l [] []
drops-last (l ∷ m ∷ ls) = keeps-first l m (ls ++ ([] ∷ [])) ∙ ap (λ (ps : List (List ℕ)). l ∷ ps) (drops-last (m ∷ ls))

-- the lines of a text of lines are these
pub lines_of_text : (ls : List (List ℕ)) → AllLack 10 ls → lines_of (text_of_lines ls) ≡ ls
lines_of_text ls h = ap without_last_empty (split-lines ls h) ∙ drops-last ls

pub lacks_append : (c : ℕ) (xs ys : List ℕ) → IsTrue (lacks c xs) → IsTrue (lacks c ys) → IsTrue (lacks c (xs ++ ys))
lacks_append c [] ys h k = k
lacks_append c (x ∷ xs) ys h k = let e = both_true (not (nat_eq x c)) (lacks c xs) h in both_pass (not (nat_eq x c)) (lacks c (xs ++ ys)) e.0 (lacks_append c xs ys e.1 k)

pub spaced_lacks : (ws : List (List ℕ)) → AllLack 10 ws → IsTrue (lacks 10 (spaced ws))
spaced_lacks [] h = refl
spaced_lacks (w ∷ []) h = h.0
spaced_lacks (w ∷ v ∷ ws) h = lacks_append 10 w (32 ∷ spaced (v ∷ ws)) h.0 (spaced_lacks (v ∷ ws) h.1)
