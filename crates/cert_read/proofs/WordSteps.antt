-- Words, byte by byte.
use Rattle.std.proofs.Common.{◌≡◌, ◌≢◌, ◌<◌, ◌≤◌, ◌&&◌, ℕ, ◌+◌, List, [], ◌∷◌, Bool, true, false, cond, nat_eq, nat_lt, length, drop, get_or, refl, ap, ◌∙◌, arith}
use Rattle.std.proofs.lemmas.Bool.Decides.{nat_tests}
use Rattle.std.proofs.lemmas.List.{drop_more}
use Rattle.cert_read.specs.Lines.{split_at, onto_first, all_bytes, are_words, words_of}

-- whether the words are ASCII words, where the first one has a byte already or not
abbrev pub seen : Bool → List ℕ → Bool
seen true rest = are_words (words_of (97 ∷ rest))
seen false rest = are_words (words_of rest)

differs : (b c : ℕ) → b ≢ c → nat_eq b c ≡ false
differs b c h = grind (arith, nat_tests)

less : (b c : ℕ) → b < c → nat_lt b c ≡ true
less b c h = grind (arith, nat_tests)

not_less : (b c : ℕ) → c ≤ b → nat_lt b c ≡ false
not_less b c h = grind (arith, nat_tests)

-- a byte that may stand in a word does what any other does
first_byte : (b : ℕ) (ws : List (List ℕ)) → nat_lt b 128 ≡ true → are_words (onto_first b ws) ≡ are_words (onto_first 97 ws)
first_byte b [] h = ap (λ (t : Bool). (t && true) && true) h
first_byte b (w ∷ ws) h = ap (λ (t : Bool). (t && all_bytes (λ x. nat_lt x 128) w) && are_words ws) h

second_byte : (b : ℕ) (ws : List (List ℕ)) → nat_lt b 128 ≡ true → are_words (onto_first 97 (onto_first b ws)) ≡ are_words (onto_first 97 ws)
second_byte b [] h = ap (λ (t : Bool). (t && true) && true) h
second_byte b (w ∷ ws) h = ap (λ (t : Bool). (t && all_bytes (λ x. nat_lt x 128) w) && are_words ws) h

first_wide : (b : ℕ) (ws : List (List ℕ)) → nat_lt b 128 ≡ false → are_words (onto_first b ws) ≡ false
first_wide b [] h = ap (λ (t : Bool). (t && true) && true) h
first_wide b (w ∷ ws) h = ap (λ (t : Bool). (t && all_bytes (λ x. nat_lt x 128) w) && are_words ws) h

second_wide : (b : ℕ) (ws : List (List ℕ)) → nat_lt b 128 ≡ false → are_words (onto_first 97 (onto_first b ws)) ≡ false
second_wide b [] h = ap (λ (t : Bool). (t && true) && true) h
second_wide b (w ∷ ws) h = ap (λ (t : Bool). (t && all_bytes (λ x. nat_lt x 128) w) && are_words ws) h

-- what splits at no space
no_space : (b : ℕ) (rest : List ℕ) → b ≢ 32 → words_of (b ∷ rest) ≡ onto_first b (words_of rest)
no_space b rest h = ap (λ (t : Bool). cond t ([] ∷ split_at 32 rest) (onto_first b (split_at 32 rest))) (differs b 32 h)

seen_byte : (t : Bool) (b : ℕ) (rest : List ℕ) → b ≢ 32 → b < 128 → seen t (b ∷ rest) ≡ seen true rest
seen_byte true b rest h k = ap (λ (ws : List (List ℕ)). are_words (onto_first 97 ws)) (no_space b rest h) ∙ second_byte b (words_of rest) (less b 128 k)
seen_byte false b rest h k = ap are_words (no_space b rest h) ∙ first_byte b (words_of rest) (less b 128 k)

seen_wide : (t : Bool) (b : ℕ) (rest : List ℕ) → b ≢ 32 → 128 ≤ b → seen t (b ∷ rest) ≡ false
seen_wide true b rest h k = ap (λ (ws : List (List ℕ)). are_words (onto_first 97 ws)) (no_space b rest h) ∙ second_wide b (words_of rest) (not_less b 128 k)
seen_wide false b rest h k = ap are_words (no_space b rest h) ∙ first_wide b (words_of rest) (not_less b 128 k)

-- the same at a place of the bytes
pub byte_at : (t : Bool) (xs : List ℕ) (i : ℕ) → i < length xs → get_or xs i 0 ≢ 32 → get_or xs i 0 < 128 → seen t (drop i xs) ≡ seen true (drop (i + 1) xs)
byte_at t xs i l h k = ap (λ (ys : List ℕ). seen t ys) (drop_more xs i 0 l) ∙ seen_byte t (get_or xs i 0) (drop (i + 1) xs) h k

pub wide_at : (t : Bool) (xs : List ℕ) (i : ℕ) → i < length xs → get_or xs i 0 ≢ 32 → 128 ≤ get_or xs i 0 → seen t (drop i xs) ≡ false
wide_at t xs i l h k = ap (λ (ys : List ℕ). seen t ys) (drop_more xs i 0 l) ∙ seen_wide t (get_or xs i 0) (drop (i + 1) xs) h k

space_here : (t : Bool) (xs : List ℕ) (i : ℕ) → i < length xs → get_or xs i 0 ≡ 32 → seen t (drop i xs) ≡ seen t (32 ∷ drop (i + 1) xs)
space_here t xs i l h = ap (λ (ys : List ℕ). seen t ys) (drop_more xs i 0 l) ∙ ap (λ (b : ℕ). seen t (b ∷ drop (i + 1) xs)) h

pub space_after : (xs : List ℕ) (i : ℕ) → i < length xs → get_or xs i 0 ≡ 32 → seen true (drop i xs) ≡ seen false (drop (i + 1) xs)
space_after xs i l h = space_here true xs i l h

pub space_first : (xs : List ℕ) (i : ℕ) → i < length xs → get_or xs i 0 ≡ 32 → seen false (drop i xs) ≡ false
space_first xs i l h = space_here false xs i l h

pub seen_none : (t : Bool) → seen t [] ≡ t
seen_none true = refl
seen_none false = refl
