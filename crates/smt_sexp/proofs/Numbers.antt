-- Values of digits that stop at a number that is too wide.
use Rattle.std.proofs.Common.{◌≡◌, ℕ, ◌+◌, ◌*◌, ◌-◌, ◌<◌, ◌≤◌, min, List, [], ◌∷◌, ◌++◌, refl, ap, sym, ◌∙◌, arith, drop, length, get_or, Bool, true, false}
use Rattle.std.specs.Prelude.{not, nat_le, nat_lt, ◌&&◌}
use Rattle.std.specs.Char.{digit_value}
use Rattle.std.specs.Str.Parse.{digits_value_after}
use Rattle.std.proofs.lemmas.List.{drop_more}
use Rattle.std.proofs.lemmas.Bool.Decides.{nat_tests}

pub digits_value_after-append : (n : ℕ) (a b : List ℕ) → digits_value_after 10 n (a ++ b) ≡ digits_value_after 10 (digits_value_after 10 n a) b
digits_value_after-append n [] b = refl
digits_value_after-append n (x ∷ a) b = digits_value_after-append (n * 10 + digit_value x) a b

-- a cut at cap before the digits changes nothing of a cut behind them
pub cut_before : (cap n : ℕ) (ds : List ℕ) → min (digits_value_after 10 (min n cap) ds) cap ≡ min (digits_value_after 10 n ds) cap
cut_before cap n [] = omega arith
cut_before cap n (d ∷ ds) =
    let same : min (min n cap * 10 + digit_value d) cap ≡ min (n * 10 + digit_value d) cap = omega arith in
    sym (cut_before cap (min n cap * 10 + digit_value d) ds) ∙ ap (λ m. min (digits_value_after 10 m ds) cap) same ∙ cut_before cap (n * 10 + digit_value d) ds

pub digit_value-digit : (d : ℕ) → 48 ≤ d → d < 58 → digit_value d ≡ d - 48
digit_value-digit d low high = grind (arith, nat_tests)

-- one digit more
pub value_more : (cap value all : ℕ) (ds : List ℕ) (i : ℕ) → i < length ds → 48 ≤ get_or ds i 0 → get_or ds i 0 < 58 →
    min (digits_value_after 10 value (drop i ds)) cap ≡ all → min (digits_value_after 10 (min (value * 10 + (get_or ds i 0 - 48)) cap) (drop (i + 1) ds)) cap ≡ all
value_more cap value all ds i lt low high h =
    cut_before cap (value * 10 + (get_or ds i 0 - 48)) (drop (i + 1) ds) ∙
    ap (λ v. min (digits_value_after 10 (value * 10 + v) (drop (i + 1) ds)) cap) (sym (digit_value-digit (get_or ds i 0) low high)) ∙
    ap (λ xs. min (digits_value_after 10 value xs) cap) (sym (drop_more ds i 0 lt)) ∙ h

-- what the cut value says of the whole one
pub is_wide_by_cut : (w v : ℕ) (a b : List ℕ) → v ≡ min (digits_value_after 10 (min (digits_value_after 10 0 a) (w + 1)) b) (w + 1) → length b ≤ 36 →
    nat_lt w v ≡ not (nat_le (digits_value_after 10 0 (a ++ b)) w && nat_le (length b) 36)
is_wide_by_cut w v a b e short =
    let cut : v ≡ min (digits_value_after 10 0 (a ++ b)) (w + 1) =
    e ∙ cut_before (w + 1) (digits_value_after 10 0 a) b ∙ ap (λ n. min n (w + 1)) (sym (digits_value_after-append 0 a b)) in
    tests (digits_value_after 10 0 (a ++ b)) (length b) cut short
  where
    tests : (n k : ℕ) → v ≡ min n (w + 1) → k ≤ 36 → nat_lt w v ≡ not (nat_le n w && nat_le k 36)
    tests n k h le = grind (arith, nat_tests)

pub is_wide_by_length : (n k : ℕ) (b : Bool) → 36 < k → true ≡ not (b && nat_le k 36)
is_wide_by_length n k true lt = grind (arith, nat_tests)
is_wide_by_length n k false lt = refl
