-- What accepted parts say, one after the other.
use Rattle.std.proofs.Common.{◌≡◌, ℕ, suc, ◌+◌, ◌<◌, ◌≤◌, List, [], ◌∷◌, ◌++◌, map, take, length, get_or, ap, sym, ◌∙◌, arith}
use Rattle.std.proofs.Math.Seq.{take-suc}
use Rattle.std.proofs.lemmas.List.{map-append, take_all}
use Rattle.cover_model.specs.State.{Loosenings}
use Rattle.cert_check.specs.declared.part.Outcome.{Outcome}
use Rattle.cert_check.specs.Courses.{verdict_of}
use Rattle.cert_check.specs.Works.{outcome_value, values_of}

pub said_more : (s : Loosenings) (os : List Outcome) (k : ℕ) (r : Outcome) → k < length os →
    map (verdict_of s) (values_of (take k os)) ++ (verdict_of s (outcome_value (get_or os k r)) ∷ []) ≡ map (verdict_of s) (values_of (take (k + 1) os))
said_more s os k r h =
    let next : suc k ≡ k + 1 = omega arith in
    sym (map-append (verdict_of s) (values_of (take k os)) (outcome_value (get_or os k r) ∷ []))
    ∙ ap (map (verdict_of s)) (sym (map-append outcome_value (take k os) (get_or os k r ∷ [])))
    ∙ ap (λ (xs : List Outcome). map (verdict_of s) (values_of xs)) (sym (take-suc os k r h) ∙ ap (λ (n : ℕ). take n os) next)

pub said_all : (s : Loosenings) (os : List Outcome) (k : ℕ) → length os ≤ k → map (verdict_of s) (values_of (take k os)) ≡ map (verdict_of s) (values_of os)
said_all s os k h = ap (λ (xs : List Outcome). map (verdict_of s) (values_of xs)) (take_all k os h)
