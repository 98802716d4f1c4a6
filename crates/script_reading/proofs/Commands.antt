-- What the first commands of a script give begins what all of them give.
use Rattle.std.proofs.Common.{◌≡◌, ℕ, suc, List, [], ◌∷◌, ◌++◌, map, length, refl, ap, ◌∙◌, arith, append-nil}
use Rattle.std.proofs.lemmas.List.{map-append, length-map}
use Rattle.dyadic.specs.Point.{Sort}
use Rattle.script_model.specs.Script.{Command, declare, define, claim, minimize, check, ineffective, Constant, claims, constants_of, defined, goal_claim, sort_of_constant, sorts_of}
use Rattle.script_model.specs.Sexp.{Place}
use Rattle.script_model.specs.Reading.{Meanings, Names, unknown, value, meaning}
use Rattle.script_model.specs.Declared.{numbered}
use Rattle.script_forms.specs.Walk.{claim_places}

-- ---- constants

pub constants_both : (xs ys : List Command) → constants_of (xs ++ ys) ≡ constants_of xs ++ constants_of ys
constants_both [] ys = refl
constants_both (declare at x s ∷ xs) ys = ap (λ (cs : List Constant). record { at = at; name = x; sort = s } ∷ cs) (constants_both xs ys)
constants_both (define at f params s body ∷ xs) ys = constants_both xs ys
constants_both (claim at e ∷ xs) ys = constants_both xs ys
constants_both (minimize at t ∷ xs) ys = constants_both xs ys
constants_both (check at ∷ xs) ys = constants_both xs ys
constants_both (ineffective at ∷ xs) ys = constants_both xs ys

pub sorts_both : (xs ys : List Command) → sorts_of (xs ++ ys) ≡ sorts_of xs ++ sorts_of ys
sorts_both xs ys = ap (map sort_of_constant) (constants_both xs ys) ∙ map-append sort_of_constant (constants_of xs) (constants_of ys)

-- a check declares nothing
pub sorts_check : (xs : List Command) (at : Place) → sorts_of (xs ++ check at ∷ []) ≡ sorts_of xs
sorts_check xs at = sorts_both xs (check at ∷ []) ∙ append-nil (sorts_of xs)

-- ---- assertions

pub places_both : (xs ys : List Command) → claim_places (xs ++ ys) ≡ claim_places xs ++ claim_places ys
places_both [] ys = refl
places_both (declare at x s ∷ xs) ys = places_both xs ys
places_both (define at f params s body ∷ xs) ys = places_both xs ys
places_both (claim at e ∷ xs) ys = ap (λ (ps : List Place). at ∷ ps) (places_both xs ys)
places_both (minimize at t ∷ xs) ys = ap (λ (ps : List Place). at ∷ ps) (places_both xs ys)
places_both (check at ∷ xs) ys = places_both xs ys
places_both (ineffective at ∷ xs) ys = places_both xs ys

-- a check is no assertion
pub places_check : (xs : List Command) (at : Place) → claim_places (xs ++ check at ∷ []) ≡ claim_places xs
places_check xs at = places_both xs (check at ∷ []) ∙ append-nil (claim_places xs)

numbered-both : {A B : Type 0} (f : ℕ → A → B) (n : ℕ) (xs ys : List A) → (more : List B) × (numbered f n (xs ++ ys) ≡ numbered f n xs ++ more)
numbered-both f n [] ys = (numbered f n ys, refl)
numbered-both f n (x ∷ xs) ys = let rest = numbered-both f (suc n) xs ys in (rest.0, ap (λ zs. f n x ∷ zs) rest.1)

numbered-long : {A B : Type 0} (f : ℕ → A → B) (n : ℕ) (xs : List A) → length (numbered f n xs) ≡ length xs
numbered-long f n [] = refl
numbered-long f n (x ∷ xs) = ap suc (numbered-long f (suc n) xs)

claims-check : {V : Type 0} (M : Meanings V) (names : Names V) (vs : List V) (xs : List Command) (at : Place) → claims M names vs (xs ++ check at ∷ []) ≡ claims M names vs xs
claims-check M names vs [] at = refl
claims-check M names [] (declare at' x s ∷ xs) at = claims-check M ((x, value (M.nothing at' (unknown x))) ∷ names) [] xs at
claims-check M names (v ∷ vs) (declare at' x s ∷ xs) at = claims-check M ((x, value v) ∷ names) vs xs at
claims-check M names vs (define at' f params s body ∷ xs) at = claims-check M ((f, defined M names params body) ∷ names) vs xs at
claims-check M names vs (claim at' e ∷ xs) at = ap (λ us. meaning M names e ∷ us) (claims-check M names vs xs at)
claims-check M names vs (minimize at' t ∷ xs) at = ap (λ us. meaning M names (goal_claim at' t) ∷ us) (claims-check M names vs xs at)
claims-check M names vs (check at' ∷ xs) at = claims-check M names vs xs at
claims-check M names vs (ineffective at' ∷ xs) at = claims-check M names vs xs at

claims-first : {V : Type 0} (M : Meanings V) (names : Names V) (vs ws : List V) (xs ys : List Command) → length vs ≡ length (constants_of xs) →
    (more : List V) × (claims M names (vs ++ ws) (xs ++ ys) ≡ claims M names vs xs ++ more)
claims-first M names [] ws [] ys e = (claims M names ws ys, refl)
claims-first M names (v ∷ vs) ws [] ys e = absurd (omega (arith, e))
claims-first M names [] ws (declare at x s ∷ xs) ys e = absurd (omega (arith, e))
claims-first M names (v ∷ vs) ws (declare at x s ∷ xs) ys e = claims-first M ((x, value v) ∷ names) vs ws xs ys (omega (arith, e))
claims-first M names vs ws (define at f params s body ∷ xs) ys e = claims-first M ((f, defined M names params body) ∷ names) vs ws xs ys e
claims-first M names vs ws (claim at x ∷ xs) ys e = let rest = claims-first M names vs ws xs ys e in (rest.0, ap (λ us. meaning M names x ∷ us) rest.1)
claims-first M names vs ws (minimize at t ∷ xs) ys e = let rest = claims-first M names vs ws xs ys e in (rest.0, ap (λ us. meaning M names (goal_claim at t) ∷ us) rest.1)
claims-first M names vs ws (check at ∷ xs) ys e = claims-first M names vs ws xs ys e
claims-first M names vs ws (ineffective at ∷ xs) ys e = claims-first M names vs ws xs ys e

-- the meanings of a script's assertions, where constants have these values
abbrev pub values_of : {V : Type 0} → Meanings V → (ℕ → Sort → V) → List Command → List V
values_of M f script = claims M [] (numbered f 0 (sorts_of script)) script

pub values_check : {V : Type 0} (M : Meanings V) (f : ℕ → Sort → V) (xs : List Command) (at : Place) → values_of M f (xs ++ check at ∷ []) ≡ values_of M f xs
values_check M f xs at = claims-check M [] (numbered f 0 (sorts_of (xs ++ check at ∷ []))) xs at ∙ ap (λ ss. claims M [] (numbered f 0 ss) xs) (sorts_check xs at)

pub values_first : {V : Type 0} (M : Meanings V) (f : ℕ → Sort → V) (xs ys : List Command) → (more : List V) × (values_of M f (xs ++ ys) ≡ values_of M f xs ++ more)
values_first M f xs ys =
    let vs = numbered-both f 0 (sorts_of xs) (sorts_of ys) in
    let long : length (numbered f 0 (sorts_of xs)) ≡ length (constants_of xs) = numbered-long f 0 (sorts_of xs) ∙ length-map (constants_of xs) sort_of_constant in
    let rest = claims-first M [] (numbered f 0 (sorts_of xs)) vs.0 xs ys long in
    (rest.0, ap (λ ws. claims M [] ws (xs ++ ys)) (ap (numbered f 0) (sorts_both xs ys) ∙ vs.1) ∙ rest.1)

-- each assertion has a place and a meaning
pub claims_long : {V : Type 0} (M : Meanings V) (names : Names V) (vs : List V) (script : List Command) → length (claim_places script) ≡ length (claims M names vs script)
claims_long M names vs [] = refl
claims_long M names [] (declare at x s ∷ rest) = claims_long M ((x, value (M.nothing at (unknown x))) ∷ names) [] rest
claims_long M names (v ∷ vs) (declare at x s ∷ rest) = claims_long M ((x, value v) ∷ names) vs rest
claims_long M names vs (define at f params s body ∷ rest) = claims_long M ((f, defined M names params body) ∷ names) vs rest
claims_long M names vs (claim at e ∷ rest) = ap suc (claims_long M names vs rest)
claims_long M names vs (minimize at t ∷ rest) = ap suc (claims_long M names vs rest)
claims_long M names vs (check at ∷ rest) = claims_long M names vs rest
claims_long M names vs (ineffective at ∷ rest) = claims_long M names vs rest
