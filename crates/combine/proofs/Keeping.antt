-- Axes that are set to what they had are as they were.
use Rattle.std.proofs.Common.{◌≡◌, ◌⊎◌, ℕ, zero, suc, ◌<◌, List, [], ◌∷◌, length, get_or, Option, Some, None, IsTrue, inl, inr, refl, ap, sym, ◌∙◌, arith}
use Rattle.std.proofs.lemmas.List.{same_lists}
use Rattle.dyadic.specs.Rounding.{Dyadic, below_all, finite, above_all}
use Rattle.dyadic.specs.declared.dy.Ext.{Ext}
use Rattle.dyadic.specs.declared.dy.Ext.TheVariants.{NegInf, Fin, PosInf}
use Rattle.dyadic.specs.contracts.dy.ExtPartialEq.TheImpl as ext_eq
use Rattle.dyadic.specs.Views.{dyadic_of, ext_of}
use Rattle.dyadic.proofs.Equal.{both_pass}
use Rattle.interval_model.specs.Interval.{Interval, nothing, between}
use Rattle.interval_model.specs.Space.{Domain, real_domain, bool_domain, domain_interval, Space, axis_interval}
use Rattle.cover_model.specs.Narrowed.{set_axis}
use Rattle.cover_model.specs.Combination.{with_axis, with_intervals}
use Rattle.ival.specs.declared.ends.Ival.{Ival}
use Rattle.ival.specs.declared.ends.Ival.TheVariants.{Empty, Between}
use Rattle.ival.specs.contracts.ends.IvalPartialEq.TheImpl as ival_eq
use Rattle.ival.specs.Views.{interval_of}
use Rattle.ival.proofs.Equality.{spelled_so}
use Rattle.combine.specs.declared.part.Part.{Part}
use Rattle.combine.specs.Parts.{AreParts, AreKept}
use Rattle.combine.specs.Lefts.{pairs}

-- ---- equal intervals are spelled alike

spelled-end : (a b : Ext) → ext_of a ≡ ext_of b → IsTrue ((ext_eq.ghosts).eq a b)
spelled-end NegInf NegInf h = refl
spelled-end NegInf (Fin b) h = cc
spelled-end NegInf PosInf h = cc
spelled-end (Fin a) NegInf h = cc
spelled-end (Fin a) (Fin b) h = let e : dyadic_of a ≡ dyadic_of b = cc in spelled_so a b e
spelled-end (Fin a) PosInf h = cc
spelled-end PosInf NegInf h = cc
spelled-end PosInf (Fin b) h = cc
spelled-end PosInf PosInf h = refl

pub spelled_interval : (i j : Ival) → interval_of i ≡ interval_of j → IsTrue ((ival_eq.ghosts).eq i j)
spelled_interval Empty Empty h = refl
spelled_interval Empty (Between b) h = cc
spelled_interval (Between a) Empty h = cc
spelled_interval (Between a) (Between b) h =
    let low : ext_of a.low ≡ ext_of b.low = cc in let high : ext_of a.high ≡ ext_of b.high = cc in
    both_pass ((ext_eq.ghosts).eq a.low b.low) ((ext_eq.ghosts).eq a.high b.high) (spelled-end a.low b.low low) (spelled-end a.high b.high high)

-- ---- what an axis that is set has

-- a Real axis
abbrev pub IsRealIn : Space → ℕ → Type 0
IsRealIn s j = (l : Dyadic) × (h : Dyadic) × ((d : Domain) → get_or s j d ≡ real_domain l h)

abbrev pub IsSameIn : Space → Space → ℕ → Type 0
IsSameIn s t j = (d : Domain) → get_or s j d ≡ get_or t j d

abbrev pub Names : List Part → ℕ → Type 0
Names [] j = ⊥
Names (x ∷ xs) j = (x.axis ≡ j) ⊎ Names xs j

set-at : (a : ℕ) (i : Interval) (s : Space) (j : ℕ) → IsSameIn (set_axis a i s) s j ⊎ ((a ≡ j) × IsRealIn (set_axis a i s) j)
set-at a i [] j = inl (λ d. refl)
set-at zero nothing (e ∷ s) j = inl (λ d. refl)
set-at zero (between below_all h) (e ∷ s) j = inl (λ d. refl)
set-at zero (between above_all h) (e ∷ s) j = inl (λ d. refl)
set-at zero (between (finite l) below_all) (e ∷ s) j = inl (λ d. refl)
set-at zero (between (finite l) above_all) (e ∷ s) j = inl (λ d. refl)
set-at zero (between (finite l) (finite h)) (e ∷ s) zero = inr (refl, (l, h, λ d. refl))
set-at zero (between (finite l) (finite h)) (e ∷ s) (suc j) = inl (λ d. refl)
set-at (suc a) i (e ∷ s) zero = inl (λ d. refl)
set-at (suc a) i (e ∷ s) (suc j) = elim (set-at a i s j) [
  | inl same ↦ inl same
  | inr real ↦ inr (ap suc real.0, real.1)
]

length-axis : (a : ℕ) (i : Interval) (s : Space) → length (set_axis a i s) ≡ length s
length-axis a i [] = refl
length-axis zero nothing (e ∷ s) = refl
length-axis zero (between below_all h) (e ∷ s) = refl
length-axis zero (between above_all h) (e ∷ s) = refl
length-axis zero (between (finite l) below_all) (e ∷ s) = refl
length-axis zero (between (finite l) above_all) (e ∷ s) = refl
length-axis zero (between (finite l) (finite h)) (e ∷ s) = refl
length-axis (suc a) i (e ∷ s) = ap suc (length-axis a i s)

-- ---- what the axes have that are set one after the other

was-set : (axis : ℕ) (i : Interval) (o : Option Space) (t : Space) → with_axis axis i o ≡ Some t → (s : Space) × (o ≡ Some s) × (t ≡ set_axis axis i s)
was-set axis nothing o t h = cc
was-set axis (between l u) None t h = cc
was-set axis (between l u) (Some s) t h = (s, refl, let e : t ≡ set_axis axis (between l u) s = cc in e)

all-set : (ps : List Part) (ls : List Ival) (s t : Space) → with_intervals (pairs ps ls) s ≡ Some t → (j : ℕ) → IsSameIn t s j ⊎ (IsRealIn t j × Names ps j)
all-set [] ls s t h j = let e : t ≡ s = cc in inl (λ d. ap (λ (x : Space). get_or x j d) e)
all-set (p ∷ ps) [] s t h j = let e : t ≡ s = cc in inl (λ d. ap (λ (x : Space). get_or x j d) e)
all-set (p ∷ ps) (i ∷ ls) s t h j =
    let w = was-set p.axis (interval_of i) (with_intervals (pairs ps ls) s) t h in let m = w.0 in
    let here : (d : Domain) → get_or t j d ≡ get_or (set_axis p.axis (interval_of i) m) j d = λ d. ap (λ (x : Space). get_or x j d) w.2 in
    elim (set-at p.axis (interval_of i) m j) [
      | inl same ↦ elim (all-set ps ls s m w.1 j) [
        | inl below ↦ inl (λ d. here d ∙ same d ∙ below d)
        | inr real ↦ inr ((real.0.0, real.0.1, λ d. here d ∙ same d ∙ real.0.2 d), inr real.1)
      ]
      | inr real ↦ inr ((real.1.0, real.1.1, λ d. here d ∙ real.1.2 d), inl real.0)
    ]

length-all : (ps : List Part) (ls : List Ival) (s t : Space) → with_intervals (pairs ps ls) s ≡ Some t → length t ≡ length s
length-all [] ls s t h = let e : t ≡ s = cc in ap length e
length-all (p ∷ ps) [] s t h = let e : t ≡ s = cc in ap length e
length-all (p ∷ ps) (i ∷ ls) s t h =
    let w = was-set p.axis (interval_of i) (with_intervals (pairs ps ls) s) t h in
    ap length w.2 ∙ length-axis p.axis (interval_of i) w.0 ∙ length-all ps ls s w.0 w.1

-- ---- kept axes

interval-at : (s : Space) (j : ℕ) (d : Domain) → j < length s → axis_interval s j ≡ domain_interval (get_or s j d)
interval-at [] j d h = absurd (omega arith)
interval-at (e ∷ s) zero d h = refl
interval-at (e ∷ s) (suc j) d h = interval-at s j d (omega arith)

real-from : (d : Domain) (l h : Dyadic) → domain_interval d ≡ between (finite l) (finite h) → d ≡ real_domain l h
real-from (real_domain a b) l h e = cc
real-from (bool_domain f t) l h e = cc

named-kept : (ps : List Part) (s c t : Space) (j : ℕ) → AreParts s c ps → AreKept t ps → Names ps j → axis_interval t j ≡ axis_interval s j
named-kept [] s c t j parts kept n = absurd n
named-kept (x ∷ xs) s c t j parts kept (inl e) =
    ap (axis_interval t) (sym e) ∙ kept.0 ∙ parts.0.own ∙ ap (axis_interval s) e
named-kept (x ∷ xs) s c t j parts kept (inr n) = named-kept xs s c t j parts.1 kept.1 n

pub kept_same : (ps : List Part) (ls : List Ival) (s c t : Space) → AreParts s c ps → with_intervals (pairs ps ls) s ≡ Some t → AreKept t ps → t ≡ s
kept_same ps ls s c t parts h kept =
    let long = length-all ps ls s t h in
    same_lists t s long (λ j d l. elim (all-set ps ls s t h j) [
      | inl same ↦ same d
      | inr real ↦ let low = real.0.0 in let high = real.0.1 in let here = real.0.2 d in
          let e : domain_interval (get_or s j d) ≡ between (finite low) (finite high) =
          sym (interval-at s j d (omega (arith, l, long))) ∙ sym (named-kept ps s c t j parts kept real.1) ∙ interval-at t j d l ∙ ap domain_interval here in
          here ∙ sym (real-from (get_or s j d) low high e)
    ])

pub parts_kept : (ps : List Part) (s c : Space) → AreParts s c ps → AreKept s ps
parts_kept [] s c parts = tt
parts_kept (x ∷ xs) s c parts = (sym parts.0.own, parts_kept xs s c parts.1)
