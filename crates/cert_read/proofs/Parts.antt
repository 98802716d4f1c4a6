-- What stands before the first byte of a kind, and behind it.
use Rattle.std.proofs.Common.{◌≡◌, ◌≢◌, ◌<◌, ◌≤◌, ℕ, zero, suc, ◌+◌, ◌-◌, List, [], ◌∷◌, ◌++◌, Bool, true, false, not, cond, nat_eq, IsTrue, length, take, drop, get_or, refl, ap, sym, ◌∙◌, subst, ⊎_elim, arith}
use Rattle.std.proofs.lemmas.Bool.Decides.{nat_tests}
use Rattle.std.proofs.lemmas.List.{drop_more, take-append-drop, take_all, length-drop, drop-drop}
use Rattle.std.proofs.lemmas.Bool.{cases_lt}
use Rattle.dyadic.proofs.Equal.{both_pass}
use Rattle.cert_read.specs.Lines.{split_at, onto_first}
use Rattle.cert_read.proofs.Pieces.{lacks, split_joined, split_alone}

differs : (b c : ℕ) → b ≢ c → not (nat_eq b c) ≡ true
differs b c h = grind (arith, nat_tests)

-- the first n bytes are others
pub lacks_front : (c : ℕ) (xs : List ℕ) (n : ℕ) → n ≤ length xs → ((k : ℕ) → k < n → get_or xs k 0 ≢ c) → IsTrue (lacks c (take n xs))
lacks_front c [] zero l h = refl
lacks_front c [] (suc n) l h = refl
lacks_front c (x ∷ xs) zero l h = refl
lacks_front c (x ∷ xs) (suc n) l h =
    both_pass (not (nat_eq x c)) (lacks c (take n xs)) (differs x c (h 0 (omega arith))) (lacks_front c xs n (omega (arith, l)) (λ k m. h (suc k) (omega (arith, m))))

cut_at_place : (xs : List ℕ) (n : ℕ) → n < length xs → xs ≡ take n xs ++ (get_or xs n 0 ∷ drop (n + 1) xs)
cut_at_place xs n l = sym (take-append-drop n xs) ∙ ap (λ (ys : List ℕ). take n xs ++ ys) (drop_more xs n 0 l)

pub split_found : (c : ℕ) (xs : List ℕ) (n : ℕ) → n < length xs → get_or xs n 0 ≡ c → ((k : ℕ) → k < n → get_or xs k 0 ≢ c)
    → split_at c xs ≡ take n xs ∷ split_at c (drop (n + 1) xs)
split_found c xs n l e h =
    ap (split_at c) (cut_at_place xs n l ∙ ap (λ (b : ℕ). take n xs ++ (b ∷ drop (n + 1) xs)) e)
    ∙ split_joined c (take n xs) (drop (n + 1) xs) (lacks_front c xs n (omega (arith, l)) h)

pub split_whole : (c : ℕ) (xs : List ℕ) (n : ℕ) → n ≡ length xs → ((k : ℕ) → k < n → get_or xs k 0 ≢ c) → split_at c xs ≡ xs ∷ []
split_whole c xs n e h =
    let all : take n xs ≡ xs = take_all n xs (omega (arith, e)) in
    split_alone c xs (subst (λ ys. IsTrue (lacks c ys)) all (lacks_front c xs n (omega (arith, e)) h))

-- something always stands between
pub split_some : (c : ℕ) (xs : List ℕ) → (w : List ℕ) × (ws : List (List ℕ)) × (split_at c xs ≡ w ∷ ws)
split_some c [] = ([], [], refl)
split_some c (b ∷ xs) = by_part (nat_eq b c) (split_some c xs) where
  by_part : (t : Bool) → ((w : List ℕ) × (ws : List (List ℕ)) × (split_at c xs ≡ w ∷ ws)) → (w : List ℕ) × (ws : List (List ℕ)) × (cond t ([] ∷ split_at c xs) (onto_first b (split_at c xs)) ≡ w ∷ ws)
  by_part true r = ([], split_at c xs, refl)
  by_part false r = (b ∷ r.0, r.1, ap (onto_first b) r.2)

-- ---- the same, as the code cuts

pub cut_whole : (c : ℕ) (xs front : List ℕ) (n : ℕ) → front ≡ take n xs → n ≡ length xs → ((k : ℕ) → k < n → get_or xs k 0 ≢ c) → split_at c xs ≡ front ∷ []
cut_whole c xs front n f e h = split_whole c xs n e h ∙ ap (λ (w : List ℕ). w ∷ []) (sym (f ∙ take_all n xs (omega (arith, e))))

pub cut_more : (c : ℕ) (xs front back : List ℕ) (n : ℕ) → front ≡ take n xs → back ≡ drop n xs → n < length xs → get_or xs n 0 ≡ c → ((k : ℕ) → k < n → get_or xs k 0 ≢ c)
    → split_at c xs ≡ front ∷ split_at c (take (length back - 1) (drop 1 back))
cut_more c xs front back n f g l e h =
    let behind : take (length back - 1) (drop 1 back) ≡ drop (n + 1) xs =
    take_all (length back - 1) (drop 1 back) (omega (arith, length-drop 1 back)) ∙ ap (drop 1) g ∙ drop-drop 1 n xs in
    split_found c xs n l e h ∙ ap (λ (w : List ℕ). w ∷ split_at c (drop (n + 1) xs)) (sym f) ∙ ap (λ (r : List ℕ). front ∷ split_at c r) (sym behind)

pub split_front : (c : ℕ) (xs : List ℕ) (n : ℕ) → n ≤ length xs → (n < length xs → get_or xs n 0 ≡ c) → ((k : ℕ) → k < n → get_or xs k 0 ≢ c)
    → (ws : List (List ℕ)) × (split_at c xs ≡ take n xs ∷ ws)
split_front c xs n m f h =
    ⊎_elim (λ (l : n < length xs). (split_at c (drop (n + 1) xs), split_found c xs n l (f l) h))
    (λ (l : length xs ≤ n). ([], cut_whole c xs (take n xs) n refl (omega (arith, l, m)) h))
    (cases_lt n (length xs))
