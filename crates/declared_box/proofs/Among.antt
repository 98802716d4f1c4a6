-- What stands in lists of bounds, in joined lists, and among the values of an axis.
use Rattle.std.proofs.Common.{◌≡◌, ◌⊎◌, inl, inr, ℕ, suc, ◌<◌, List, [], ◌∷◌, ◌++◌, Bool, true, false, cond, ◌&&◌, refl, ap, sym, ◌∙◌, subst, arith, nat_eq, eqb→eq}
use Rattle.std.proofs.lemmas.Bool.{eq-eqb}
use Rattle.std.specs.Bool.{passes}
use Rattle.std.specs.List.{All}
use Rattle.dyadic.specs.Fraction.{Fraction}
use Rattle.dyadic.proofs.Equal.{both_true, both_pass}
use Rattle.script_model.specs.Declared.{Side, lower, upper, Bound, is_side, values_on}
use Rattle.declared_box.specs.Table.{list_at, all_of}
use Rattle.declared_box.specs.Interval.{IsAmong}

pub in_left : {A : Type 0} (x : A) (xs ys : List A) → IsAmong x xs → IsAmong x (xs ++ ys)
in_left x [] ys h = elim h [ ]
in_left x (y ∷ xs) ys (inl e) = inl e
in_left x (y ∷ xs) ys (inr h) = inr (in_left x xs ys h)

pub in_right : {A : Type 0} (x : A) (xs ys : List A) → IsAmong x ys → IsAmong x (xs ++ ys)
in_right x [] ys h = h
in_right x (y ∷ xs) ys h = inr (in_right x xs ys h)

pub in_either : {A : Type 0} (x : A) (xs ys : List A) → IsAmong x (xs ++ ys) → IsAmong x xs ⊎ IsAmong x ys
in_either x [] ys h = inr h
in_either x (y ∷ xs) ys (inl e) = inl (inl e)
in_either x (y ∷ xs) ys (inr h) = elim (in_either x xs ys h) [ inl k ↦ inl (inr k) | inr k ↦ inr k ]

pub among_all : (lists : List (List Bound)) (parts : List ℕ) (b : Bound) → IsAmong b (all_of lists parts) → (k : ℕ) × IsAmong k parts × IsAmong b (list_at lists k)
among_all lists [] b h = elim h [ ]
among_all lists (k ∷ parts) b h = elim (in_either b (list_at lists k) (all_of lists parts) h) [
  | inl e ↦ (k, inl refl, e)
  | inr e ↦ let r = among_all lists parts b e in (r.0, inr r.1, r.2)
]

pub all_among : (lists : List (List Bound)) (parts : List ℕ) (b : Bound) (k : ℕ) → IsAmong k parts → IsAmong b (list_at lists k) → IsAmong b (all_of lists parts)
all_among lists [] b k h g = elim h [ ]
all_among lists (j ∷ parts) b k (inl e) g = in_left b (list_at lists j) (all_of lists parts) (subst (λ i. IsAmong b (list_at lists i)) e g)
all_among lists (j ∷ parts) b k (inr h) g = in_right b (list_at lists j) (all_of lists parts) (all_among lists parts b k h g)

pub among_below : (n : ℕ) (parts : List ℕ) (k : ℕ) → All (λ (i : ℕ). i < n) parts → IsAmong k parts → k < n
among_below n [] k a h = elim h [ ]
among_below n (j ∷ parts) k a (inl e) = subst (λ i. i < n) (sym e) (a 0 0 (omega arith))
among_below n (j ∷ parts) k a (inr h) = among_below n parts k (λ i d l. a (suc i) d (omega (arith, l))) h

-- ---- the values of an axis

side-self : (s : Side) → is_side s s ≡ true
side-self lower = refl
side-self upper = refl

side-same : (s t : Side) → is_side s t ≡ true → s ≡ t
side-same lower lower h = refl
side-same upper upper h = refl
side-same lower upper h = cc
side-same upper lower h = cc

there : (test : Bool) (q r : Fraction) (qs : List Fraction) → test ≡ true → q ≡ r → IsAmong q (cond test (r ∷ []) [] ++ qs)
there true q r qs t e = inl e
there false q r qs t e = cc

later : (test : Bool) (q r : Fraction) (qs : List Fraction) → IsAmong q qs → IsAmong q (cond test (r ∷ []) [] ++ qs)
later true q r qs h = inr h
later false q r qs h = h

pub value_among : (b : Bound) (bs : List Bound) → IsAmong b bs → IsAmong b.value (values_on b.side b.axis bs)
value_among b [] h = elim h [ ]
value_among b (c ∷ bs) (inl e) = there (is_side b.side c.side && nat_eq b.axis c.axis) b.value c.value (values_on b.side b.axis bs)
    (both_pass (is_side b.side c.side) (nat_eq b.axis c.axis) (ap (λ (x : Bound). is_side b.side x.side) (sym e) ∙ side-self b.side) (ap (λ (x : Bound). nat_eq b.axis x.axis) (sym e) ∙ eq-eqb b.axis b.axis refl)) (ap (λ (x : Bound). x.value) e)
value_among b (c ∷ bs) (inr h) = later (is_side b.side c.side && nat_eq b.axis c.axis) b.value c.value (values_on b.side b.axis bs) (value_among b bs h)

abbrev pub bound_at : ℕ → Side → Fraction → Bound
bound_at k s q = record { axis = k; side = s; value = q }

bound-same : (k : ℕ) (s : Side) (q : Fraction) (c : Bound) → (is_side s c.side && nat_eq k c.axis) ≡ true → q ≡ c.value → bound_at k s q ≡ c
bound-same k s q c t e = let p = both_true (is_side s c.side) (nat_eq k c.axis) t in
    ap (λ i. bound_at i s q) (eqb→eq k c.axis (passes _ p.1)) ∙ ap (λ x. bound_at c.axis x q) (side-same s c.side p.0) ∙ ap (λ x. bound_at c.axis c.side x) e

among-kept : (k : ℕ) (s : Side) (q : Fraction) (c : Bound) (bs : List Bound) (test : Bool) → (is_side s c.side && nat_eq k c.axis) ≡ test → (IsAmong q (values_on s k bs) → IsAmong (bound_at k s q) bs) →
    IsAmong q (cond test (c.value ∷ []) [] ++ values_on s k bs) → IsAmong (bound_at k s q) (c ∷ bs)
among-kept k s q c bs true t h (inl e) = inl (bound-same k s q c t e)
among-kept k s q c bs true t h (inr g) = inr (h g)
among-kept k s q c bs false t h g = inr (h g)

pub among_values : (k : ℕ) (s : Side) (q : Fraction) (bs : List Bound) → IsAmong q (values_on s k bs) → IsAmong (bound_at k s q) bs
among_values k s q [] h = elim h [ ]
among_values k s q (c ∷ bs) h = among-kept k s q c bs (is_side s c.side && nat_eq k c.axis) refl (λ g. among_values k s q bs g) h

-- a list without elements
pub none_among : {A : Type 0} (xs : List A) → ((x : A) → IsAmong x xs → ⊥) → xs ≡ []
none_among [] h = refl
none_among (x ∷ xs) h = absurd (h x (inl refl))
