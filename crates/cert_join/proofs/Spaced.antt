-- The first word of a line and its last, by the places of spaces.
use Rattle.std.proofs.Common.{◌≡◌, ◌≢◌, ◌<◌, ◌≤◌, ℕ, zero, ◌+◌, ◌-◌, suc, List, [], ◌∷◌, ◌++◌, Bool, true, false, true≢false, ◌&&◌, not, nat_eq, IsTrue, length, take, drop, get_or, refl, ap, sym, ◌∙◌, ⊎_elim, append_assoc, length-append, arith}
use Rattle.std.proofs.lemmas.Bool.{cases_lt, eqb-true, eq-eqb}
use Rattle.std.proofs.lemmas.List.{get_or-append_right}
use Rattle.std.proofs.Math.Seq.{get_or-append_seam, take-append_seam, drop-append_seam}
use Rattle.memchr.specs.Find.{Nowhere, NoneBefore, NoneAfter, Passes, is_byte}
use Rattle.cert_read.specs.Lines.{words_of}
use Rattle.cert_read.specs.LineText.{spaced}
use Rattle.cert_read.proofs.Pieces.{lacks, split_joined, split_alone}
use Rattle.cert_read.proofs.Parts.{split_front, split_whole}

-- ---- two tests

pub both_true : (x y : Bool) → IsTrue (x && y) → IsTrue x × IsTrue y
both_true true y h = (refl, h)
both_true false y h = absurd (true≢false (sym h))

pub both_pass : (x y : Bool) → IsTrue x → IsTrue y → IsTrue (x && y)
both_pass true y h k = k
both_pass false y h k = h

-- ---- the first word

pub split_spaced : (w : List ℕ) (ws : List (List ℕ)) → IsTrue (lacks 32 w) → (vs : List (List ℕ)) × (words_of (spaced (w ∷ ws)) ≡ w ∷ vs)
split_spaced w [] h = ([], split_alone 32 w h)
split_spaced w (v ∷ ws) h = (_, split_joined 32 w (spaced (v ∷ ws)) h)

pub first_cut : (xs : List ℕ) (n : ℕ) → NoneBefore (Passes (is_byte 32) xs) 0 (length xs) n → Passes (is_byte 32) xs n → (ws : List (List ℕ)) × (words_of xs ≡ take n xs ∷ ws)
first_cut xs n h p =
    split_front 32 xs n (omega (arith, h.high)) (λ l. eqb-true (get_or xs n 0) 32 p)
    (λ k l e. h.before k (omega arith) l (eq-eqb (get_or xs k 0) 32 e))

pub first_whole : (xs : List ℕ) → Nowhere (Passes (is_byte 32) xs) 0 (length xs) → (ws : List (List ℕ)) × (words_of xs ≡ xs ∷ ws)
first_whole xs h = ([], split_whole 32 xs (length xs) refl (λ k l e. h k (omega arith) l (eq-eqb (get_or xs k 0) 32 e)))

-- ---- the last word

lacks-at : (c : ℕ) (w : List ℕ) (k : ℕ) → IsTrue (lacks c w) → k < length w → get_or w k 0 ≢ c
lacks-at c [] k h l e = absurd (omega (arith, l))
lacks-at c (b ∷ w) zero h l e = let p = both_true (not (nat_eq b c)) (lacks c w) h in absurd (no-not (nat_eq b c) p.0 (eq-eqb b c e)) where
  no-not : (t : Bool) → not t ≡ true → t ≡ true → ⊥
  no-not t f g = cc
lacks-at c (b ∷ w) (suc k) h l e = let p = both_true (not (nat_eq b c)) (lacks c w) h in lacks-at c w k p.1 (omega (arith, l)) e

joined : (front w : List ℕ) → (front ++ (32 ∷ [])) ++ w ≡ front ++ (32 ∷ w)
joined front w = append_assoc front (32 ∷ []) w

space-at : (xs front w : List ℕ) → xs ≡ (front ++ (32 ∷ [])) ++ w → (length front < length xs) × (get_or xs (length front) 0 ≡ 32)
space-at xs front w e =
    let f : xs ≡ front ++ (32 ∷ w) = e ∙ joined front w in (
      omega (arith, ap length f, length-append front (32 ∷ w)),
      ap (λ (ys : List ℕ). get_or ys (length front) 0) f ∙ get_or-append_seam front 32 w 0,
    )

front-length : (front : List ℕ) → length (front ++ (32 ∷ [])) ≡ length front + 1
front-length front = length-append front (32 ∷ [])

behind-at : (xs front w : List ℕ) (k : ℕ) → xs ≡ (front ++ (32 ∷ [])) ++ w → length front < k → k < length xs → (k - (length front + 1) < length w) × (get_or xs k 0 ≡ get_or w (k - (length front + 1)) 0)
behind-at xs front w k e h l = (
  omega (arith, h, l, ap length e, length-append (front ++ (32 ∷ [])) w, front-length front),
  ap (λ (ys : List ℕ). get_or ys k 0) e ∙ get_or-append_right (front ++ (32 ∷ [])) w (length front + 1) k 0 (front-length front) (omega (arith, h)),
)

-- the last space stands before the last word
last-place : (xs front w : List ℕ) (n : ℕ) → NoneAfter (Passes (is_byte 32) xs) 0 (length xs) n → Passes (is_byte 32) xs n
    → xs ≡ (front ++ (32 ∷ [])) ++ w → IsTrue (lacks 32 w) → n ≡ length front
last-place xs front w n h p e k =
    ⊎_elim (λ (l : n < length front). absurd (h.after (length front) (omega (arith, l)) (space-at xs front w e).0 (eq-eqb (get_or xs (length front) 0) 32 (space-at xs front w e).1)))
    (λ (l : length front ≤ n). ⊎_elim (λ (m : length front < n). let b = behind-at xs front w n e m h.high in
    absurd (lacks-at 32 w (n - (length front + 1)) k b.0 (sym b.1 ∙ eqb-true (get_or xs n 0) 32 p)))
    (λ (m : n ≤ length front). omega (arith, l, m)) (cases_lt (length front) n))
    (cases_lt n (length front))

pub last_cut : (xs front w a b : List ℕ) (n : ℕ) → NoneAfter (Passes (is_byte 32) xs) 0 (length xs) n → Passes (is_byte 32) xs n
    → a ≡ take (n + 1) xs → b ≡ drop (n + 1) xs → xs ≡ (front ++ (32 ∷ [])) ++ w → IsTrue (lacks 32 w) → (a ≡ front ++ (32 ∷ [])) × (b ≡ w)
last_cut xs front w a b n h p f g e k =
    let at : n + 1 ≡ length (front ++ (32 ∷ [])) = ap (λ m. m + 1) (last-place xs front w n h p e k) ∙ sym (front-length front) in (
      f ∙ ap (λ m. take m xs) at ∙ ap (take (length (front ++ (32 ∷ [])))) e ∙ take-append_seam (front ++ (32 ∷ [])) w,
      g ∙ ap (λ m. drop m xs) at ∙ ap (drop (length (front ++ (32 ∷ [])))) e ∙ drop-append_seam (front ++ (32 ∷ [])) w,
    )

-- there is one
pub last_none : (xs front w : List ℕ) → Nowhere (Passes (is_byte 32) xs) 0 (length xs) → xs ≡ (front ++ (32 ∷ [])) ++ w → ⊥
last_none xs front w h e = h (length front) (omega arith) (space-at xs front w e).0 (eq-eqb (get_or xs (length front) 0) 32 (space-at xs front w e).1)
