-- Atoms that may be combined.
use Rattle.std.proofs.Common.{ℕ, zero, suc, ◌<◌, ◌≤◌, [], ◌∷◌, length, Bool, true, false, cond, ◌&&◌, ◌||◌, IsTrue, nat_lt, nat_le, ltb→lt, leb→le, arith}
use Rattle.std.specs.Prelude.{slice_index_or}
use Rattle.std.specs.Bool.{passes}
use Rattle.dyadic.specs.Rounding.{Dyadic}
use Rattle.dyadic.proofs.Equal.{both_true}
use Rattle.poly_graph.specs.Problem.{Problem}
use Rattle.cover_model.specs.Combination.{Multipliers}
use Rattle.cover_model.specs.State.{State, Loosenings, in_yes}
use Rattle.cover_model.specs.Rules.{are_ordered, is_combination, most_pairs, are_combinable, can_combine, has_version_2, has_version_5, in_no_one_sided}

-- each is there
pub combinable_atoms : (p : Problem) (S : State) (ms : Multipliers) → IsTrue (are_combinable p S ms) → (k : ℕ) (d : ℕ × Dyadic) → k < length ms → (slice_index_or ms k d).0 < length p.atoms
combinable_atoms p S [] h k d l = absurd (omega (arith, l))
combinable_atoms p S ((j, m) ∷ ms) h zero d l =
    let a = both_true (nat_lt j (length p.atoms) && (in_yes S j || in_no_one_sided p S j)) (are_combinable p S ms) h in
    ltb→lt j (length p.atoms) (passes _ (both_true (nat_lt j (length p.atoms)) (in_yes S j || in_no_one_sided p S j) a.0).0)
combinable_atoms p S ((j, m) ∷ ms) h (suc k) d l =
    combinable_atoms p S ms (both_true (nat_lt j (length p.atoms) && (in_yes S j || in_no_one_sided p S j)) (are_combinable p S ms) h).1 k d (omega (arith, l))

pub combined_atoms : (p : Problem) (s : Loosenings) (S : State) (ms : Multipliers) → IsTrue (can_combine p s S ms) → (k : ℕ) (d : ℕ × Dyadic) → k < length ms → (slice_index_or ms k d).0 < length p.atoms
combined_atoms p s S ms h = combinable_atoms p S ms (both_true (has_version_2 s && is_combination s ms) (are_combinable p S ms) h).1

counted : (p : Problem) (s : Loosenings) (S : State) (ms : Multipliers) → IsTrue (can_combine p s S ms) → IsTrue (nat_lt 0 (length ms) && nat_le (length ms) (most_pairs s))
counted p s S ms h =
    let a = both_true (has_version_2 s && is_combination s ms) (are_combinable p S ms) h in
    let b = both_true (has_version_2 s) (is_combination s ms) a.0 in
    (both_true (nat_lt 0 (length ms) && nat_le (length ms) (most_pairs s)) (are_ordered ms) b.1).0

-- there is one
pub combined_some : (p : Problem) (s : Loosenings) (S : State) (ms : Multipliers) → IsTrue (can_combine p s S ms) → 0 < length ms
combined_some p s S ms h = ltb→lt 0 (length ms) (passes _ (both_true (nat_lt 0 (length ms)) (nat_le (length ms) (most_pairs s)) (counted p s S ms h)).0)

most-at-all : (b : Bool) → cond b 512 64 ≤ 512
most-at-all true = omega arith
most-at-all false = omega arith

-- there are at most 512, whatever the version
pub combined_few : (p : Problem) (s : Loosenings) (S : State) (ms : Multipliers) → IsTrue (can_combine p s S ms) → length ms ≤ 512
combined_few p s S ms h =
    let k : length ms ≤ most_pairs s = leb→le (length ms) (most_pairs s) (passes _ (both_true (nat_lt 0 (length ms)) (nat_le (length ms) (most_pairs s)) (counted p s S ms h)).1) in
    omega (arith, k, most-at-all (has_version_5 s))
