-- The tightest of values is the same number for the same values, in whatever order and however often they are told.
use Rattle.std.proofs.Common.{◌≡◌, inl, inr, ℕ, List, [], ◌∷◌, ◌++◌, Bool, true, false, cond, ◌&&◌, nat_eq, Option, Some, None, IsTrue, refl, ap₂, sym, subst}
use Rattle.dyadic.specs.Fraction.{Fraction, IsFraction, at_most}
use Rattle.script_model.specs.Declared.{Side, lower, upper, Bound, is_side, values_on, greatest, least, tightest_end}
use Rattle.script_model.proofs.Bounds.{IfFraction}
use Rattle.declared_box.specs.Same.{SameNumber, SameBounds}
use Rattle.declared_box.specs.Interval.{is_as_tight, IsAmong, IsTightest, end_or}
use Rattle.declared_box.proofs.Same.{same_number_refl, same_number_sym}
use Rattle.declared_box.proofs.Changes.{as_tight_self, as_tight_through, other_tighter}

-- ---- values place by place

abbrev pub SameNumbers : List Fraction → List Fraction → Type 0
SameNumbers [] [] = Unit {0}
SameNumbers (p ∷ ps) (q ∷ qs) = SameNumber p q × SameNumbers ps qs
SameNumbers _ _ = ⊥

kept-numbers : (s t : Bool) (p q : Fraction) (ps qs : List Fraction) → s ≡ t → SameNumber p q → SameNumbers ps qs → SameNumbers (cond s (p ∷ []) [] ++ ps) (cond t (q ∷ []) [] ++ qs)
kept-numbers true true p q ps qs e h k = (h, k)
kept-numbers false false p q ps qs e h k = k
kept-numbers true false p q ps qs e h k = cc
kept-numbers false true p q ps qs e h k = cc

pub same_values : (s : Side) (axis : ℕ) (xs ys : List Bound) → SameBounds xs ys → SameNumbers (values_on s axis xs) (values_on s axis ys)
same_values s axis [] [] h = tt
same_values s axis (x ∷ xs) (y ∷ ys) h = kept-numbers (is_side s x.side && nat_eq axis x.axis) (is_side s y.side && nat_eq axis y.axis) x.value y.value (values_on s axis xs) (values_on s axis ys)
    (ap₂ (λ (t : Side) (k : ℕ). is_side s t && nat_eq axis k) h.0.side h.0.axis) h.0.value (same_values s axis xs ys h.1)
same_values s axis [] (y ∷ ys) h = elim h [ ]
same_values s axis (x ∷ xs) [] h = elim h [ ]

there-same : (ps qs : List Fraction) (p : Fraction) → SameNumbers ps qs → IsAmong p ps → (q : Fraction) × IsAmong q qs × SameNumber p q
there-same [] qs p h a = elim a [ ]
there-same (r ∷ ps) [] p h a = elim h [ ]
there-same (r ∷ ps) (q ∷ qs) p h (inl e) = (q, inl refl, subst (λ x. SameNumber x q) (sym e) h.0)
there-same (r ∷ ps) (q ∷ qs) p h (inr a) = let x = there-same ps qs p h.1 a in (x.0, inr x.1, x.2)

numbers-sym : (ps qs : List Fraction) → SameNumbers ps qs → SameNumbers qs ps
numbers-sym [] [] h = tt
numbers-sym (p ∷ ps) (q ∷ qs) h = (same_number_sym p q h.0, numbers-sym ps qs h.1)
numbers-sym [] (q ∷ qs) h = elim h [ ]
numbers-sym (p ∷ ps) [] h = elim h [ ]

-- ---- the tightest

abbrev pub tightest_of : Side → Fraction → List Fraction → Fraction
tightest_of s q [] = q
tightest_of s q (r ∷ rest) = tightest_of s (cond (is_as_tight s r q) r q) rest

abbrev pub tightest_by : Side → Fraction → List Fraction → Fraction
tightest_by lower q rest = greatest q rest
tightest_by upper q rest = least q rest

by-is : (s : Side) (q : Fraction) (rest : List Fraction) → tightest_by s q rest ≡ tightest_of s q rest
by-is lower q [] = refl
by-is upper q [] = refl
by-is lower q (r ∷ rest) = by-is lower (cond (at_most q r) r q) rest
by-is upper q (r ∷ rest) = by-is upper (cond (at_most r q) r q) rest

among-chosen : (t : Bool) (x q r : Fraction) (rest : List Fraction) → IsAmong x (cond t r q ∷ rest) → IsAmong x (q ∷ r ∷ rest)
among-chosen true x q r rest (inl e) = inr (inl e)
among-chosen false x q r rest (inl e) = inl e
among-chosen true x q r rest (inr h) = inr (inr h)
among-chosen false x q r rest (inr h) = inr (inr h)

tightest-among : (s : Side) (q : Fraction) (rest : List Fraction) → IsAmong (tightest_of s q rest) (q ∷ rest)
tightest-among s q [] = inl refl
tightest-among s q (r ∷ rest) = among-chosen (is_as_tight s r q) (tightest_of s (cond (is_as_tight s r q) r q) rest) q r rest (tightest-among s (cond (is_as_tight s r q) r q) rest)

chosen-tight : (s : Side) (q r : Fraction) (t : Bool) → is_as_tight s r q ≡ t → IsTrue (is_as_tight s (cond t r q) q) × IsTrue (is_as_tight s (cond t r q) r)
chosen-tight s q r true e = (e, as_tight_self s r)
chosen-tight s q r false e = (as_tight_self s q, other_tighter s r q e)

abbrev AreFractions : List Fraction → Type 0
AreFractions [] = Unit {0}
AreFractions (q ∷ qs) = IsFraction q × AreFractions qs

chosen-is : (t : Bool) (q r : Fraction) → IsFraction q → IsFraction r → IsFraction (cond t r q)
chosen-is true q r f g = g
chosen-is false q r f g = f

tightest-tight : (s : Side) (q : Fraction) (rest : List Fraction) → IsFraction q → AreFractions rest → (x : Fraction) → IsAmong x (q ∷ rest) → IsTrue (is_as_tight s (tightest_of s q rest) x)
tightest-tight s q [] f g x (inl e) = subst (λ y. IsTrue (is_as_tight s q y)) (sym e) (as_tight_self s q)
tightest-tight s q [] f g x (inr h) = elim h [ ]
tightest-tight s q (r ∷ rest) f g x h = let c = cond (is_as_tight s r q) r q in let i = chosen-is (is_as_tight s r q) q r f g.0 in
    let rec = tightest-tight s c rest i g.1 in let both = chosen-tight s q r (is_as_tight s r q) refl in
    elim h [
      | inl e ↦ subst (λ y. IsTrue (is_as_tight s (tightest_of s c rest) y)) (sym e) (as_tight_through s (tightest_of s c rest) c q i (rec c (inl refl)) both.0)
      | inr k ↦ elim k [
        | inl e ↦ subst (λ y. IsTrue (is_as_tight s (tightest_of s c rest) y)) (sym e) (as_tight_through s (tightest_of s c rest) c r i (rec c (inl refl)) both.1)
        | inr l ↦ rec x (inr l)
      ]
    ]

same-tight : (s : Side) (p q : Fraction) → SameNumber p q → IsTrue (is_as_tight s p q) × IsTrue (is_as_tight s q p)
same-tight lower p q h = (h.above, h.below)
same-tight upper p q h = (h.below, h.above)

tight-same : (s : Side) (p q : Fraction) → IsFraction p → IsFraction q → IsTrue (is_as_tight s p q) → IsTrue (is_as_tight s q p) → SameNumber p q
tight-same lower p q f g h k = record { first = f; second = g; below = k; above = h }
tight-same upper p q f g h k = record { first = f; second = g; below = h; above = k }

seconds-are : (ps qs : List Fraction) → SameNumbers ps qs → AreFractions qs
seconds-are [] [] h = tt
seconds-are (p ∷ ps) (q ∷ qs) h = (h.0.second, seconds-are ps qs h.1)
seconds-are [] (q ∷ qs) h = elim h [ ]
seconds-are (p ∷ ps) [] h = elim h [ ]

-- ---- ends

abbrev pub SameEnd : Option Fraction → Option Fraction → Type 0
SameEnd None None = Unit {0}
SameEnd (Some p) (Some q) = SameNumber p q
SameEnd _ _ = ⊥

same-end-refl : (o : Option Fraction) → IfFraction o → SameEnd o o
same-end-refl None h = tt
same-end-refl (Some q) h = same_number_refl q h

pub tightest_end_same : (s : Side) (default : Option Fraction) (ps qs : List Fraction) (o : Option Fraction) → IfFraction default → SameNumbers ps qs → IsTightest s ps o →
    SameEnd (tightest_end (tightest_by s) default qs) (end_or o default)
tightest_end_same s default [] [] None d h t = same-end-refl default d
tightest_end_same s default (p ∷ ps) qs None d h t = cc
tightest_end_same s default [] (q ∷ qs) o d h t = elim h [ ]
tightest_end_same s default [] [] (Some x) d h t = elim t.0 [ ]
tightest_end_same s default (p ∷ ps) [] (Some x) d h t = elim h [ ]
tightest_end_same s default (p ∷ ps) (q ∷ qs) (Some x) d h t =
    let most = tightest_of s q qs in
    let there = there-same (p ∷ ps) (q ∷ qs) x h t.0 in
    let back = there-same (q ∷ qs) (p ∷ ps) most (numbers-sym (p ∷ ps) (q ∷ qs) h) (tightest-among s q qs) in
    let tight = tightest-tight s q qs h.0.second (seconds-are ps qs h.1) there.0 there.1 in
    subst (λ y. SameNumber y x) (sym (by-is s q qs)) (tight-same s most x back.2.first there.2.first
    (as_tight_through s most there.0 x there.2.second tight (same-tight s x there.0 there.2).1)
    (as_tight_through s x back.0 most back.2.second (t.1 back.0 back.1) (same-tight s most back.0 back.2).1))
