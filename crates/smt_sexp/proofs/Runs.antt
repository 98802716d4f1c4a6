-- The longest run of a class at the front of a text.
use Rattle.std.proofs.Common.{◌≡◌, ℕ, suc, zero, ◌+◌, ◌<◌, ◌≤◌, List, [], ◌∷◌, ◌++◌, Bool, true, false, cond, refl, ap, sym, ◌∙◌, arith, length, get_or, take, drop, append_assoc}
use Rattle.std.proofs.lemmas.List.{take_more, drop_more, drop_all, append-nil, length-take-le, take_at}
use Rattle.std.proofs.lemmas.Bool.Decides.{nat_tests}
use Rattle.smt_sexp.specs.Classes.{IsDigit}
use Rattle.smt_sexp.specs.Lexicon.{run, is_digit}
use Rattle.smt_sexp.proofs.Lex.{run_whole}

-- the first n bytes are of the run, which goes on behind them
pub record RunSoFar (p : ℕ → Bool) (xs : List ℕ) (n : ℕ) : Type 0 where
  pub within : n ≤ length xs
  pub front : run p xs ≡ take n xs ++ run p (drop n xs)

pub run_starts : (p : ℕ → Bool) (xs : List ℕ) → RunSoFar p xs 0
run_starts p xs = record { within = omega arith; front = refl }

run_first : (p : ℕ → Bool) (x : ℕ) (xs : List ℕ) → p x ≡ true → run p (x ∷ xs) ≡ x ∷ run p xs
run_first p x xs h = ap (λ b. cond b (x ∷ run p xs) []) h

run_not : (p : ℕ → Bool) (x : ℕ) (xs : List ℕ) → p x ≡ false → run p (x ∷ xs) ≡ []
run_not p x xs h = ap (λ b. cond b (x ∷ run p xs) []) h

pub run_more : (p : ℕ → Bool) (xs : List ℕ) (n : ℕ) → RunSoFar p xs n → n < length xs → p (get_or xs n 0) ≡ true → RunSoFar p xs (n + 1)
run_more p xs n h lt held = record {
  within = omega arith;
  front = h.front ∙ ap (λ ys. take n xs ++ run p ys) (drop_more xs n 0 lt) ∙ ap (λ ys. take n xs ++ ys) (run_first p (get_or xs n 0) (drop (n + 1) xs) held) ∙
      sym (append_assoc (take n xs) (get_or xs n 0 ∷ []) (run p (drop (n + 1) xs))) ∙ ap (λ ys. ys ++ run p (drop (n + 1) xs)) (sym (take_more xs n 0 lt));
}

-- the first n bytes are the run
pub record RunIs (p : ℕ → Bool) (xs : List ℕ) (n : ℕ) : Type 0 where
  pub within : n ≤ length xs
  pub length_is : n ≡ length (run p xs)
  pub text : take n xs ≡ run p xs

run_ends : (p : ℕ → Bool) (xs : List ℕ) (n : ℕ) → RunSoFar p xs n → run p (drop n xs) ≡ [] → RunIs p xs n
run_ends p xs n h e =
    let whole : run p xs ≡ take n xs = h.front ∙ ap (λ ys. take n xs ++ ys) e ∙ append-nil (take n xs) in
    record { within = h.within; length_is = sym (length-take-le n xs h.within) ∙ ap length (sym whole); text = sym whole }

pub run_stops : (p : ℕ → Bool) (xs : List ℕ) (n : ℕ) → RunSoFar p xs n → n < length xs → p (get_or xs n 0) ≡ false → RunIs p xs n
run_stops p xs n h lt not_in = run_ends p xs n h (ap (run p) (drop_more xs n 0 lt) ∙ run_not p (get_or xs n 0) (drop (n + 1) xs) not_in)

pub run_all : (p : ℕ → Bool) (xs : List ℕ) (n : ℕ) → RunSoFar p xs n → length xs ≤ n → RunIs p xs n
run_all p xs n h le = run_ends p xs n h (ap (run p) (drop_all n xs le))

pub length_run : (p : ℕ → Bool) (xs : List ℕ) → length (run p xs) ≤ length xs
length_run p [] = omega arith
length_run p (x ∷ xs) = by (p x) (length_run p xs)
  where
    by : (t : Bool) → length (run p xs) ≤ length xs → length (cond t (x ∷ run p xs) []) ≤ length (x ∷ xs)
    by true h = omega arith
    by false h = omega arith

pub take_run : (p : ℕ → Bool) (xs : List ℕ) → take (length (run p xs)) xs ≡ run p xs
take_run p xs = ap (take (length (run p xs))) (sym (run_whole p xs)) ∙ take_at (run p xs) (drop (length (run p xs)) xs) (length (run p xs)) refl

-- each byte of a run of digits is one
digit_at : (x : ℕ) (ds : List ℕ) (t : Bool) → is_digit x ≡ t → ((k d : ℕ) → k < length ds → IsDigit (get_or ds k d)) → (k d : ℕ) → k < length (cond t (x ∷ ds) []) → IsDigit (get_or (cond t (x ∷ ds) []) k d)
digit_at x ds false e h k d lt = absurd (omega arith)
digit_at x ds true e h (suc k) d lt = h k d (omega arith)
digit_at x ds true e h zero d lt = (le_from_test x e, lt_from_test x e)
  where
    le_from_test : (y : ℕ) → is_digit y ≡ true → 48 ≤ y
    le_from_test y q = grind (arith, nat_tests)

    lt_from_test : (y : ℕ) → is_digit y ≡ true → y < 58
    lt_from_test y q = grind (arith, nat_tests)

pub run_digits : (xs : List ℕ) (k d : ℕ) → k < length (run is_digit xs) → IsDigit (get_or (run is_digit xs) k d)
run_digits [] k d lt = absurd (omega arith)
run_digits (x ∷ xs) k d lt = digit_at x (run is_digit xs) (is_digit x) refl (run_digits xs) k d lt
