-- Places in several certificates, one after the other.
use Rattle.std.proofs.Common.{◌≡◌, ◌≢◌, ◌<◌, ◌≤◌, inl, inr, ℕ, suc, zero, ◌+◌, List, [], ◌∷◌, ◌++◌, length, take, get_or, set, Bool, true, false, ◌||◌, refl, sym, ap, subst, ◌∙◌, arith, nat_eq, get_or-set_other, get_or-set_same, length-set}
use Rattle.std.proofs.lemmas.Bool.{eqb-true, eq-eqb, ne_eqb, cases_eq, both_ways}
use Rattle.std.proofs.lemmas.List.{get_or_default, take_all, take_more}
use Rattle.cert_join.specs.Spot.{Spot, IsReady}
use Rattle.cert_join.specs.Gathered.{spot_at, nowhere, is_in, AreDistinct, AllReady, AllThere, AreThere, AreResized, Passed, PassedIf, ArePassed}

-- ---- one of them is replaced

pub spot_same : (spots : List Spot) (p : ℕ) (t : Spot) → p < length spots → spot_at (set spots p t) p ≡ t
spot_same spots p t h = get_or-set_same spots p t nowhere h

pub spot_other : (spots : List Spot) (p i : ℕ) (t : Spot) → i ≢ p → spot_at (set spots p t) i ≡ spot_at spots i
spot_other spots p i t h = get_or-set_other spots p i t nowhere h

-- ---- whether a certificate is among these

or-right : (b : Bool) → (b || true) ≡ true
or-right true = refl
or-right false = refl

or-left : (b c : Bool) → b ≡ true → (b || c) ≡ true
or-left b c e = ap (λ x. x || c) e

or-none : (b c : Bool) → b ≡ false → (b || c) ≡ c
or-none b c e = ap (λ x. x || c) e

or-none' : (b c : Bool) → c ≡ false → (b || c) ≡ b
or-none' true c e = refl
or-none' false c e = e

or-assoc : (a b c : Bool) → ((a || b) || c) ≡ (a || (b || c))
or-assoc true b c = refl
or-assoc false b c = refl

pub in_more : (i p : ℕ) (xs : List ℕ) → is_in i (xs ++ (p ∷ [])) ≡ (is_in i xs || nat_eq i p)
in_more i p [] = or-none' (nat_eq i p) false refl
in_more i p (x ∷ xs) = ap (λ b. nat_eq i x || b) (in_more i p xs) ∙ sym (or-assoc (nat_eq i x) (is_in i xs) (nat_eq i p))

in-at : (xs : List ℕ) (k : ℕ) → k < length xs → is_in (get_or xs k 0) xs ≡ true
in-at [] k h = absurd (omega arith)
in-at (x ∷ xs) zero h = or-left _ _ (eq-eqb x x refl)
in-at (x ∷ xs) (suc k) h = ap (λ b. nat_eq (get_or xs k 0) x || b) (in-at xs k (omega arith)) ∙ or-right _

other-than : (x p : ℕ) (xs : List ℕ) → is_in x xs ≡ false → is_in p xs ≡ true → nat_eq p x ≡ false
other-than x p xs h h' = ne_eqb p x (λ e. both_ways (is_in x xs) h (ap (λ y. is_in y xs) (sym e) ∙ h'))

not-before : (xs : List ℕ) (k : ℕ) → k < length xs → AreDistinct xs → is_in (get_or xs k 0) (take k xs) ≡ false
not-before [] k h d = absurd (omega arith)
not-before (x ∷ xs) zero h d = refl
not-before (x ∷ xs) (suc k) h d =
    let h' : k < length xs = omega arith in
    or-none _ _ (other-than x (get_or xs k 0) xs d.0 (in-at xs k h')) ∙ not-before xs k h' d.1

-- ---- passing

-- none was passed
pub passed_none : (spots : List Spot) → ArePassed [] spots spots
passed_none spots = record { count = refl; each = λ i h. refl }

-- one is
pub passed_one : (spots : List Spot) (p : ℕ) (t : Spot) → p < length spots → Passed (spot_at spots p) t → ArePassed (p ∷ []) spots (set spots p t)
passed_one spots p t h passed = record {
  count = length-set spots p t;
  each = λ i h'. elim (cases_eq i p) [
    | inl e ↦ let P : ℕ → Type 0 = λ j. PassedIf (is_in j (p ∷ [])) (spot_at spots j) (spot_at (set spots p t) j) in
        subst P (sym e) (let Q : Bool → Type 0 = λ b. PassedIf b (spot_at spots p) (spot_at (set spots p t) p) in
        subst Q (sym (or-left _ false (eq-eqb p p refl))) (let R : Spot → Type 0 = λ s. Passed (spot_at spots p) s in subst R (sym (spot_same spots p t h)) passed))
    | inr ne ↦ let Q : Bool → Type 0 = λ b. PassedIf b (spot_at spots i) (spot_at (set spots p t) i) in
        subst Q (sym (or-none _ false (ne_eqb i p ne))) (spot_other spots p i t ne)
  ];
}

-- there is none such
pub passed_past : (spots : List Spot) (p : ℕ) → length spots ≤ p → ArePassed (p ∷ []) spots spots
passed_past spots p h = record {
  count = refl;
  each = λ i h'. let Q : Bool → Type 0 = λ b. PassedIf b (spot_at spots i) (spot_at spots i) in
      subst Q (sym (or-none _ false (ne_eqb i p (λ e. absurd (omega arith))))) refl;
}

passed-both : (b c : Bool) (s t u : Spot) → (c ≡ true → b ≡ false) → PassedIf b s t → PassedIf (c || false) t u → PassedIf (b || c) s u
passed-both true true s t u apart h h' = absurd (both_ways true (apart refl) refl)
passed-both true false s t u apart h h' = let P : Spot → Type 0 = λ x. Passed s x in subst P (sym h') h
passed-both false true s t u apart h h' = let P : Spot → Type 0 = λ x. Passed x u in subst P h h'
passed-both false false s t u apart h h' = h' ∙ h

-- one more is
pub passed_more : (parts : List ℕ) (k p : ℕ) (a b c : List Spot) → k < length parts → p ≡ get_or parts k 0 → AreDistinct parts →
    ArePassed (take k parts) a b → ArePassed (p ∷ []) b c → ArePassed (take (k + 1) parts) a c
passed_more parts k p a b c h e d was now = record {
  count = now.count ∙ was.count;
  each = λ i h'.
      let n : i < length b = omega (arith, was.count) in
      let f : take (k + 1) parts ≡ take k parts ++ (p ∷ []) = take_more parts k 0 h ∙ ap (λ x. take k parts ++ (x ∷ [])) (sym e) in
      let P : Bool → Type 0 = λ x. PassedIf x (spot_at a i) (spot_at c i) in
      let apart : nat_eq i p ≡ true → is_in i (take k parts) ≡ false = λ q. ap (λ x. is_in x (take k parts)) (eqb-true i p q ∙ e) ∙ not-before parts k h d in
      subst P (sym (ap (is_in i) f ∙ in_more i p (take k parts)))
      (passed-both (is_in i (take k parts)) (nat_eq i p) _ (spot_at b i) _ apart (was.each i h') (now.each i n));
}

-- ---- what is known of the next lines

resized-both : (a b c : Spot) → b ≡ record a { size = b.size } → c ≡ record b { size = c.size } → c ≡ record a { size = c.size }
resized-both a b c e f = f ∙ ap (λ (x : Spot). record x { size = c.size }) e

pub resized_none : (spots : List Spot) → AreResized spots spots
resized_none spots = record { count = refl; each = λ i. refl }

-- one place, of which more is known now
pub resized_more : (a b : List Spot) (p : ℕ) (t : Spot) → p < length b → AreResized a b → t ≡ record (spot_at b p) { size = t.size } → AreResized a (set b p t)
resized_more a b p t h r e = record {
  count = length-set b p t ∙ r.count;
  each = λ i. let P : Spot → Spot → Type 0 = λ x y. y ≡ record x { size = y.size } in elim (cases_eq i p) [
    | inl q ↦ let Q : ℕ → Type 0 = λ j. P (spot_at a j) (spot_at (set b p t) j) in
        subst Q (sym q) (let R : Spot → Type 0 = λ y. P (spot_at a p) y in subst R (sym (spot_same b p t h)) (resized-both (spot_at a p) (spot_at b p) t (r.each p) e))
    | inr ne ↦ let R : Spot → Type 0 = λ y. P (spot_at a i) y in subst R (sym (spot_other b p i t ne)) (r.each i)
  ];
}

pub ready_none : (spots : List Spot) → AllReady [] spots
ready_none spots i h e = absurd (both_ways false refl e)

-- one more is ready
pub ready_more : (parts : List ℕ) (k p : ℕ) (b : List Spot) (t : Spot) → k < length parts → p ≡ get_or parts k 0 → p < length b →
    AllReady (take k parts) b → IsReady t → AllReady (take (k + 1) parts) (set b p t)
ready_more parts k p b t h e n was now i h' m = elim (cases_eq i p) [
  | inl q ↦ let P : ℕ → Type 0 = λ j. IsReady (spot_at (set b p t) j) in subst P (sym q) (let R : Spot → Type 0 = λ y. IsReady y in subst R (sym (spot_same b p t n)) now)
  | inr ne ↦ let R : Spot → Type 0 = λ y. IsReady y in
      let f : take (k + 1) parts ≡ take k parts ++ (p ∷ []) = take_more parts k 0 h ∙ ap (λ x. take k parts ++ (x ∷ [])) (sym e) in
      subst R (sym (spot_other b p i t ne)) (was i (omega (arith, length-set b p t)) (sym (or-none' _ _ (ne_eqb i p ne)) ∙ sym (ap (is_in i) f ∙ in_more i p (take k parts)) ∙ m))
]

-- one that is not there is not asked for
pub ready_past : (parts : List ℕ) (k p : ℕ) (b : List Spot) → k < length parts → p ≡ get_or parts k 0 → length b ≤ p →
    AllReady (take k parts) b → AllReady (take (k + 1) parts) b
ready_past parts k p b h e n was i h' m =
    let ne : i ≢ p = λ q. absurd (omega arith) in
    let f : take (k + 1) parts ≡ take k parts ++ (p ∷ []) = take_more parts k 0 h ∙ ap (λ x. take k parts ++ (x ∷ [])) (sym e) in
    was i h' (sym (or-none' _ _ (ne_eqb i p ne)) ∙ sym (ap (is_in i) f ∙ in_more i p (take k parts)) ∙ m)

-- ---- the same of a place that is read with another default

pub read_spot : (spots : List Spot) (p : ℕ) (s : Spot) → p < length spots → get_or spots p s ≡ spot_at spots p
read_spot spots p s h = get_or_default spots p s nowhere h

pub passed_read : (spots : List Spot) (p : ℕ) (s t : Spot) → p < length spots → Passed (get_or spots p s) t → ArePassed (p ∷ []) spots (set spots p t)
passed_read spots p s t h passed = passed_one spots p t h (let P : Spot → Type 0 = λ x. Passed x t in subst P (read_spot spots p s h) passed)

pub resized_read : (a b : List Spot) (p : ℕ) (s t : Spot) → p < length b → AreResized a b → t ≡ record (get_or b p s) { size = t.size } → AreResized a (set b p t)
resized_read a b p s t h r same = resized_more a b p t h r (same ∙ ap (λ (x : Spot). record x { size = t.size }) (read_spot b p s h))

-- behind the last of them
pub ready_all : (parts : List ℕ) (k : ℕ) (b : List Spot) → length parts ≤ k → AllReady (take k parts) b → AllReady parts b
ready_all parts k b h r = let P : List ℕ → Type 0 = λ x. AllReady x b in subst P (take_all k parts h) r

pub passed_all : (parts : List ℕ) (k : ℕ) (a b : List Spot) → length parts ≤ k → ArePassed (take k parts) a b → ArePassed parts a b
passed_all parts k a b h r = let P : List ℕ → Type 0 = λ x. ArePassed x a b in subst P (take_all k parts h) r

-- ---- which of them are there

-- as many are, whatever became of them
pub there_moved : (parts : List (List ℕ)) (s t : List Spot) → length t ≡ length s → AreThere parts s → AreThere parts t
there_moved [] s t e h = tt
there_moved (now ∷ parts) s t e h = ((λ i q. let n : i < length s = h.0 i q in omega arith), there_moved parts s t e h.1)

pub one_there : (p : ℕ) (spots : List Spot) → p < length spots → AllThere (p ∷ []) spots
one_there p spots h i q = elim (cases_eq i p) [ inl e ↦ omega arith | inr ne ↦ absurd (both_ways _ (or-none _ false (ne_eqb i p ne)) q) ]

pub one_below : (p : ℕ) (spots : List Spot) → AllThere (p ∷ []) spots → p < length spots
one_below p spots h = h p (or-left _ false (eq-eqb p p refl))

-- one of some that are there
pub there_at : (parts : List ℕ) (k : ℕ) (spots : List Spot) → k < length parts → AllThere parts spots → get_or parts k 0 < length spots
there_at parts k spots h there = there (get_or parts k 0) (in-at parts k h)
