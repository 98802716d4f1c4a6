-- What is said of a text, token by token.
use Rattle.std.proofs.Common.{◌≡◌, ℕ, suc, zero, pred, ◌<◌, List, [], ◌∷◌, ◌++◌, Bool, true, false, cond, refl, ap, arith, length, take, drop}
use Rattle.script_model.specs.Sexp.{Place}
use Rattle.smt_sexp.specs.Lexicon.{run, front, placed, place_after, next_place, sayings}

-- skipping k bytes goes on behind them
pub skips : (k : ℕ) (at : Place) (bytes : List ℕ) → sayings k at bytes ≡ sayings zero (place_after at (take k bytes)) (drop k bytes)
skips zero at [] = refl
skips zero at (b ∷ bs) = refl
skips (suc k) at [] = refl
skips (suc k) at (b ∷ bs) = skips k (next_place at b) bs

-- so a reader may go from token to token
pub jumps : (at : Place) (b : ℕ) (bs : List ℕ) → 0 < (front b bs).size →
    sayings zero at (b ∷ bs) ≡ placed at (b ∷ bs) (front b bs).says ++ sayings zero (place_after at (take (front b bs).size (b ∷ bs))) (drop (front b bs).size (b ∷ bs))
jumps at b bs h = ap (λ x. placed at (b ∷ bs) (front b bs).says ++ x) (go (front b bs).size h)
  where
    go : (n : ℕ) → 0 < n → sayings (pred n) (next_place at b) bs ≡ sayings zero (place_after at (take n (b ∷ bs))) (drop n (b ∷ bs))
    go zero h = absurd (omega arith)
    go (suc n) h = skips n (next_place at b) bs

run-step : (x : ℕ) (r xs : List ℕ) (t : Bool) → r ++ drop (length r) xs ≡ xs → cond t (x ∷ r) [] ++ drop (length (cond t (x ∷ r) [])) (x ∷ xs) ≡ x ∷ xs
run-step x r xs true e = ap (λ ys. x ∷ ys) e
run-step x r xs false e = refl

-- a run of bytes of a class is whole, where what follows does not begin with one
pub run_whole : (p : ℕ → Bool) (xs : List ℕ) → run p xs ++ drop (length (run p xs)) xs ≡ xs
run_whole p [] = refl
run_whole p (x ∷ xs) = run-step x (run p xs) xs (p x) (run_whole p xs)
