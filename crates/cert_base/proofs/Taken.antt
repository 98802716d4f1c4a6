-- The first of a list, one more each time.
use Rattle.std.proofs.Common.{◌≡◌, ℕ, zero, suc, ◌+◌, ◌≤◌, List, [], ◌∷◌, ◌++◌, length, take, Option, Some, refl, ap, sym, ◌∙◌, arith}
use Rattle.std.specs.Prelude.{slice_get}
use Rattle.std.proofs.lemmas.List.{take_all}
use Rattle.cover_model.specs.State.{State}

some-same : {S T : State} → Some S ≡ Some T → S ≡ T
some-same e = cc

one-more : (Ss : List State) (i : ℕ) (S : State) → slice_get Ss i ≡ Some S → take (suc i) Ss ≡ take i Ss ++ (S ∷ [])
one-more [] i S e = cc
one-more (T ∷ Ss) zero S e = ap (λ (U : State). U ∷ []) (some-same e)
one-more (T ∷ Ss) (suc i) S e = ap (λ (Us : List State). T ∷ Us) (one-more Ss i S e)

pub one_more_taken : (Ss taken more : List State) (i : ℕ) (S : State) → taken ≡ take i Ss → slice_get Ss i ≡ Some S → more ≡ taken ++ (S ∷ []) → more ≡ take (i + 1) Ss
one_more_taken Ss taken more i S e f g =
    let next : suc i ≡ i + 1 = omega arith in
    g ∙ ap (λ (Us : List State). Us ++ (S ∷ [])) e ∙ sym (one-more Ss i S f) ∙ ap (λ (n : ℕ). take n Ss) next

pub all_taken : (Ss taken : List State) (i : ℕ) → taken ≡ take i Ss → length Ss ≤ i → taken ≡ Ss
all_taken Ss taken i e h = e ∙ take_all i Ss h
