-- The texts that are known, by their places.
use Rattle.std.proofs.Common.{◌≡◌, ℕ, zero, suc, List, [], ◌∷◌, ◌++◌, Bool, true, false, cond, true≢false, Option, Some, None, length, refl, ap, sym, ◌∙◌, ◌⊎◌, inl, inr}
use Rattle.std.specs.Prelude.{slice_get, unwrap_or}
use Rattle.std.specs.Option.{option_map}
use Rattle.std.specs.Str.{bytes_eq}
use Rattle.std.specs.Cmp.Lexicographic.{same_text, other_text}
use Rattle.cert_join.specs.Numbered.{place_of}

pub same_itself : (k : List ℕ) → bytes_eq k k ≡ true
same_itself k = go (bytes_eq k k) refl
  where
    go : (b : Bool) → b ≡ bytes_eq k k → bytes_eq k k ≡ true
    go true e = sym e
    go false e = absurd (other_text k k e refl)

pub not_same : (k v : List ℕ) → (k ≡ v → ⊥) → bytes_eq k v ≡ false
not_same k v h = go (bytes_eq k v) refl
  where
    go : (b : Bool) → b ≡ bytes_eq k v → bytes_eq k v ≡ false
    go true e = absurd (h (same_text k v e))
    go false e = sym e

some_none : (n : ℕ) → Some n ≡ None → ⊥
some_none n e = cc

map_none : (o : Option ℕ) → option_map suc o ≡ None → o ≡ None
map_none None e = refl
map_none (Some n) e = absurd (some_none (suc n) e)

-- the rest of a test that failed
none_behind : (k t : List ℕ) (ts : List (List ℕ)) → place_of k (t ∷ ts) ≡ None → (bytes_eq k t ≡ false) × (place_of k ts ≡ None)
none_behind k t ts = go (bytes_eq k t) refl
  where
    go : (b : Bool) → b ≡ bytes_eq k t → cond b (Some 0) (option_map suc (place_of k ts)) ≡ None → (bytes_eq k t ≡ false) × (place_of k ts ≡ None)
    go true e n = absurd (some_none 0 n)
    go false e n = (sym e, map_none (place_of k ts) n)

-- a new text has the next place
pub place_new : (texts : List (List ℕ)) (k : List ℕ) → place_of k texts ≡ None → place_of k (texts ++ (k ∷ [])) ≡ Some (length texts)
place_new [] k n = ap (λ (b : Bool). cond b (Some 0) None) (same_itself k)
place_new (t ∷ texts) k n = let h = none_behind k t texts n in
    ap (λ (b : Bool). cond b (Some 0) (option_map suc (place_of k (texts ++ (k ∷ []))))) h.0 ∙ ap (option_map suc) (place_new texts k h.1)

-- and another one stays
pub place_other : (texts : List (List ℕ)) (k v : List ℕ) → bytes_eq v k ≡ false → place_of v (texts ++ (k ∷ [])) ≡ place_of v texts
place_other [] k v n = ap (λ (b : Bool). cond b (Some 0) None) n
place_other (t ∷ texts) k v n = ap (λ (o : Option ℕ). cond (bytes_eq v t) (Some 0) (option_map suc o)) (place_other texts k v n)

pub place_more : (texts : List (List ℕ)) (k v : List ℕ) → place_of k texts ≡ None → cond (bytes_eq k v) (Some (length texts)) (place_of v texts) ≡ place_of v (texts ++ (k ∷ []))
place_more texts k v n = go (bytes_eq k v) refl
  where
    go : (b : Bool) → b ≡ bytes_eq k v → cond b (Some (length texts)) (place_of v texts) ≡ place_of v (texts ++ (k ∷ []))
    go true e = sym (place_new texts k n) ∙ ap (λ (x : List ℕ). place_of x (texts ++ (k ∷ []))) (same_text k v e)
    go false e = sym (place_other texts k v (not_same v k (λ h. other_text k v e (sym h))))

-- ---- places

zero_place : (k t : List ℕ) (ts : List (List ℕ)) (n : ℕ) → place_of k (t ∷ ts) ≡ Some n →
    ((n ≡ 0) × (k ≡ t)) ⊎ ((m : ℕ) × (n ≡ suc m) × (place_of k ts ≡ Some m))
zero_place k t ts n = go (bytes_eq k t) refl
  where
    some_same : (a b : ℕ) → Some a ≡ Some b → a ≡ b
    some_same a b e = ap (λ (o : Option ℕ). unwrap_or o a) e

    later : (o : Option ℕ) → place_of k ts ≡ o → option_map suc o ≡ Some n → ((n ≡ 0) × (k ≡ t)) ⊎ ((m : ℕ) × (n ≡ suc m) × (place_of k ts ≡ Some m))
    later None e h = absurd (some_none n (sym h))
    later (Some m) e h = inr (m, sym (some_same (suc m) n h), e)

    go : (b : Bool) → b ≡ bytes_eq k t → cond b (Some 0) (option_map suc (place_of k ts)) ≡ Some n → ((n ≡ 0) × (k ≡ t)) ⊎ ((m : ℕ) × (n ≡ suc m) × (place_of k ts ≡ Some m))
    go true e h = inl (sym (some_same 0 n h), same_text k t e)
    go false e h = later (place_of k ts) refl h

-- the text at its place
pub at_place : (k : List ℕ) (ts : List (List ℕ)) (n : ℕ) → place_of k ts ≡ Some n → slice_get ts n ≡ Some k
at_place k [] n e = absurd (some_none n (sym e))
at_place k (t ∷ ts) n e = elim (zero_place k t ts n e) [
  | inl h ↦ ap (slice_get (t ∷ ts)) h.0 ∙ ap Some (sym h.1)
  | inr h ↦ ap (slice_get (t ∷ ts)) h.1 ∙ at_place k ts h.0 h.2
]

-- no text that is there twice
pub not_there : (k : List ℕ) (ts : List (List ℕ)) → place_of k ts ≡ None → (n : ℕ) → slice_get ts n ≡ Some k → ⊥
not_there k [] e n h = absurd (none_text k h)
  where
    none_text : (x : List ℕ) → None ≡ Some x → ⊥
    none_text x e = cc
not_there k (t ∷ ts) e zero h = let r = none_behind k t ts e in
    true≢false (sym (same_itself k) ∙ ap (bytes_eq k) (sym (ap (λ (o : Option (List ℕ)). unwrap_or o t) h)) ∙ r.0)
not_there k (t ∷ ts) e (suc n) h = not_there k ts (none_behind k t ts e).1 n h
