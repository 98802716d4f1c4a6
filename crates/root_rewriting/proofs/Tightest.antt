-- The tightest of ends, whatever their order.
use Rattle.std.proofs.Common.{◌≡◌, ◌⊎◌, inl, inr, ℕ, zero, suc, ◌+◌, ◌<◌, List, [], ◌∷◌, ◌++◌, length, Bool, true, false, cond, ◌&&◌, IsTrue, Option, Some, nat_eq, refl, ap, ap₂, sym, ◌∙◌, subst, arith, true≢false, append-nil, append_assoc, replicate, slice_index_or, slice_set, take, eq-eqb, eqb-true, lit<}
use Rattle.std.specs.Prelude.{slice_get}
use Rattle.std.proofs.lemmas.Option.{slice_get_within}
use Rattle.dyadic.specs.End.{greater_ext, lesser_ext}
use Rattle.dyadic.specs.Point.{Sort, real_sort, bool_sort}
use Rattle.dyadic.specs.Rounding.{Ext as KeptEnd, below_all, finite, above_all, end_of, ext_at_most}
use Rattle.interval_model.proofs.Ends.{end_trans, other_way}
use Rattle.script_model.specs.Declared.{Side, default_high, default_low, is_side, lower, upper}
use Rattle.script_model.specs.Meaning.{first_and_rest, from_left}
use Rattle.script_roots.specs.TreeBounds.{EndBound, between_or_nothing, ends_on, high_end, low_end, range_of}
use Rattle.dyadic.specs.Views.{ext_of}
use Rattle.root_rewriting.specs.Bounds.{AreTightest, bounds_of, end_or, of_all, range_with, tightened_on, tightest_by, with_end}
use Rattle.std.proofs.lemmas.List.{map-append, take_more}
use Rattle.root_rewriting.specs.Ends.{end_bound_of, ends_of_all}
use Rattle.root_rewriting.specs.Sides.{side_of}
use Rattle.root_rewriting.specs.declared.range.end_bound.EndBound as code
use Rattle.root_rewriting.specs.declared.range.bounds.Bounds.{Bounds}
use Rattle.root_rewriting.specs.Sweep.{IsAmong, SameElements}
use Rattle.root_rewriting.proofs.Among.{among_either, among_left, among_right}
use Rattle.root_rewriting.proofs.RangeRoundings.{ext_same}

-- ---- the order of ends

abbrev IsLe : KeptEnd → KeptEnd → Type 0
IsLe e f = IsTrue (ext_at_most e f)

ext-trans : (e f g : KeptEnd) → IsLe e f → IsLe f g → IsLe e g
ext-trans e below_all g h k = end_trans (end_of e) (end_of below_all) (end_of g) tt h k
ext-trans e above_all g h k = end_trans (end_of e) (end_of above_all) (end_of g) tt h k
ext-trans e (finite d) g h k = end_trans (end_of e) (end_of (finite d)) (end_of g) (lit< tt) h k

ext-other : (e f : KeptEnd) → ext_at_most e f ≡ false → IsLe f e
ext-other e f h = other_way (end_of e) (end_of f) h

ext-self : (e : KeptEnd) → IsLe e e
ext-self e = by-test (ext_at_most e e) refl
  where
    by-test : (b : Bool) → ext_at_most e e ≡ b → IsLe e e
    by-test true h = h
    by-test false h = ext-other e e h

-- ---- the most of ends in an order

-- which of two is further in an order
record IsChoice (R : KeptEnd → KeptEnd → Type 0) (f : KeptEnd → KeptEnd → KeptEnd) : Type 0 where
  self : (e : KeptEnd) → R e e
  trans : (d e g : KeptEnd) → R d e → R e g → R d g
  same : (d e : KeptEnd) → R d e → R e d → d ≡ e
  first : (d e : KeptEnd) → R d (f d e)
  second : (d e : KeptEnd) → R e (f d e)
  one : (d e : KeptEnd) → (f d e ≡ d) ⊎ (f d e ≡ e)

abbrev IsGe : KeptEnd → KeptEnd → Type 0
IsGe e f = IsLe f e

greater-first : (b : Bool) (d e : KeptEnd) → ext_at_most d e ≡ b → IsLe d (cond b e d) × IsLe e (cond b e d) × ((cond b e d ≡ d) ⊎ (cond b e d ≡ e))
greater-first true d e h = (h, ext-self e, inr refl)
greater-first false d e h = (ext-self d, ext-other d e h, inl refl)

lesser-first : (b : Bool) (d e : KeptEnd) → ext_at_most d e ≡ b → IsLe (cond b d e) d × IsLe (cond b d e) e × ((cond b d e ≡ d) ⊎ (cond b d e ≡ e))
lesser-first true d e h = (ext-self d, h, inl refl)
lesser-first false d e h = (ext-other d e h, ext-self e, inr refl)

greater-is : IsChoice IsLe greater_ext
greater-is = record {
  self = ext-self;
  trans = ext-trans;
  same = ext_same;
  first = λ d e. (greater-first (ext_at_most d e) d e refl).0;
  second = λ d e. (greater-first (ext_at_most d e) d e refl).1;
  one = λ d e. (greater-first (ext_at_most d e) d e refl).2;
}

lesser-is : IsChoice IsGe lesser_ext
lesser-is = record {
  self = ext-self;
  trans = λ d e g h k. ext-trans g e d k h;
  same = λ d e h k. ext_same d e k h;
  first = λ d e. (lesser-first (ext_at_most d e) d e refl).0;
  second = λ d e. (lesser-first (ext_at_most d e) d e refl).1;
  one = λ d e. (lesser-first (ext_at_most d e) d e refl).2;
}

module _ (R : KeptEnd → KeptEnd → Type 0) (f : KeptEnd → KeptEnd → KeptEnd) (C : IsChoice R f) where
  left-first : (e : KeptEnd) (es : List KeptEnd) → R e (from_left f e es)
  left-first e [] = C.self e
  left-first e (d ∷ es) = C.trans e (f e d) (from_left f (f e d) es) (C.first e d) (left-first (f e d) es)

  left-each : (e : KeptEnd) (es : List KeptEnd) (x : KeptEnd) → IsAmong x es → R x (from_left f e es)
  left-each e [] x h = elim h [ ]
  left-each e (d ∷ es) x (inl i) = subst (λ z. R z (from_left f (f e d) es)) (sym i) (C.trans d (f e d) (from_left f (f e d) es) (C.second e d) (left-first (f e d) es))
  left-each e (d ∷ es) x (inr h) = left-each (f e d) es x h

  left-among : (e : KeptEnd) (es : List KeptEnd) → IsAmong (from_left f e es) (e ∷ es)
  left-among e [] = inl refl
  left-among e (d ∷ es) = elim (left-among (f e d) es) [
    | inl i ↦ elim (C.one e d) [ inl j ↦ inl (i ∙ j) | inr j ↦ inr (inl (i ∙ j)) ]
    | inr h ↦ inr (inr h)
  ]

  left-all : (e : KeptEnd) (es : List KeptEnd) (x : KeptEnd) → IsAmong x (e ∷ es) → R x (from_left f e es)
  left-all e es x (inl i) = subst (λ z. R z (from_left f e es)) (sym i) (left-first e es)
  left-all e es x (inr h) = left-each e es x h

  most-same : (missing : KeptEnd) (xs ys : List KeptEnd) → SameElements xs ys → first_and_rest f missing xs ≡ first_and_rest f missing ys
  most-same missing [] [] h = refl
  most-same missing [] (y ∷ ys) h = elim (h.back y (inl refl)) [ ]
  most-same missing (x ∷ xs) [] h = elim (h.there x (inl refl)) [ ]
  most-same missing (x ∷ xs) (y ∷ ys) h = C.same (from_left f x xs) (from_left f y ys)
      (left-all y ys (from_left f x xs) (h.there (from_left f x xs) (left-among x xs))) (left-all x xs (from_left f y ys) (h.back (from_left f y ys) (left-among y ys)))

-- ---- ends of a constant

abbrev fits : Side → ℕ → EndBound → Bool
fits s axis e = is_side s e.side && nat_eq axis e.axis

record OnSide (s : Side) (axis : ℕ) (x : KeptEnd) (es : List EndBound) : Type 0 where
  bound : EndBound
  is : IsAmong bound es
  fits_there : fits s axis bound ≡ true
  same : x ≡ bound.end

on-here : (s : Side) (axis : ℕ) (x : KeptEnd) (e : EndBound) (es : List EndBound) (b : Bool) → fits s axis e ≡ b → IsAmong x (cond b (e.end ∷ []) []) → OnSide s axis x (e ∷ es)
on-here s axis x e es true h (inl i) = record { bound = e; is = inl refl; fits_there = h; same = i }
on-here s axis x e es true h (inr k) = elim k [ ]
on-here s axis x e es false h k = elim k [ ]

on-side : (s : Side) (axis : ℕ) (x : KeptEnd) (es : List EndBound) → IsAmong x (ends_on s axis es) → OnSide s axis x es
on-side s axis x [] h = elim h [ ]
on-side s axis x (e ∷ es) h = elim (among_either x (cond (fits s axis e) (e.end ∷ []) []) (ends_on s axis es) h) [
  | inl k ↦ on-here s axis x e es (fits s axis e) refl k
  | inr k ↦ let r = on-side s axis x es k in record { bound = r.bound; is = inr r.is; fits_there = r.fits_there; same = r.same }
]

there-at : (s : Side) (axis : ℕ) (e : EndBound) (b : Bool) → fits s axis e ≡ b → fits s axis e ≡ true → IsAmong e.end (cond b (e.end ∷ []) [])
there-at s axis e true h k = inl refl
there-at s axis e false h k = absurd (true≢false (sym k ∙ h))

side-there : (s : Side) (axis : ℕ) (e : EndBound) (es : List EndBound) → IsAmong e es → fits s axis e ≡ true → IsAmong e.end (ends_on s axis es)
side-there s axis e [] h k = elim h [ ]
side-there s axis e (d ∷ es) (inl i) k =
    subst (λ (z : EndBound). IsAmong e.end (cond (fits s axis z) (z.end ∷ []) [] ++ ends_on s axis es)) i (among_left e.end (cond (fits s axis e) (e.end ∷ []) []) (ends_on s axis es) (there-at s axis e (fits s axis e) refl k))
side-there s axis e (d ∷ es) (inr h) k = among_right e.end (cond (fits s axis d) (d.end ∷ []) []) (ends_on s axis es) (side-there s axis e es h k)

on-into : (s : Side) (axis : ℕ) (es fs : List EndBound) → ((e : EndBound) → IsAmong e es → IsAmong e fs) → (x : KeptEnd) → IsAmong x (ends_on s axis es) → IsAmong x (ends_on s axis fs)
on-into s axis es fs h x a = let r = on-side s axis x es a in subst (λ z. IsAmong z (ends_on s axis fs)) (sym r.same) (side-there s axis r.bound fs (h r.bound r.is) r.fits_there)

on-same : (s : Side) (axis : ℕ) (es fs : List EndBound) → SameElements es fs → SameElements (ends_on s axis es) (ends_on s axis fs)
on-same s axis es fs h = record { there = on-into s axis es fs h.there; back = on-into s axis fs es h.back }

-- a constant's range is the same by the same ends
pub range_same : (bound : Option ℕ) (es fs : List EndBound) → SameElements es fs → (axis : ℕ) (s : Sort) → range_of bound es axis s ≡ range_of bound fs axis s
range_same bound es fs h axis bool_sort = refl
range_same bound es fs h axis real_sort = ap₂ between_or_nothing
    (most-same IsLe greater_ext greater-is (low_end (default_low bound)) (ends_on lower axis es) (ends_on lower axis fs) (on-same lower axis es fs h))
    (most-same IsGe lesser_ext lesser-is (high_end (default_high bound)) (ends_on upper axis es) (ends_on upper axis fs) (on-same upper axis es fs h))

-- ---- the ends one after the other

or-rest : (f : KeptEnd → KeptEnd → KeptEnd) (missing : KeptEnd) (es : List KeptEnd) → end_or (of_all f es) missing ≡ first_and_rest f missing es
or-rest f missing [] = refl
or-rest f missing (e ∷ es) = refl

-- a constant's range, by its tightest ends
pub range_by : (bound : Option ℕ) (es : List EndBound) (axis : ℕ) (s : Sort) → range_with bound (tightest_by es axis) s ≡ range_of bound es axis s
range_by bound es axis bool_sort = refl
range_by bound es axis real_sort = ap₂ between_or_nothing (or-rest greater_ext (low_end (default_low bound)) (ends_on lower axis es)) (or-rest lesser_ext (high_end (default_high bound)) (ends_on upper axis es))

left-end : (f : KeptEnd → KeptEnd → KeptEnd) (d : KeptEnd) (es : List KeptEnd) (e : KeptEnd) → from_left f d (es ++ (e ∷ [])) ≡ f (from_left f d es) e
left-end f d [] e = refl
left-end f d (c ∷ es) e = left-end f (f d c) es e

all-end : (f : KeptEnd → KeptEnd → KeptEnd) (es : List KeptEnd) (e : KeptEnd) → of_all f (es ++ (e ∷ [])) ≡ Some (with_end f (of_all f es) e)
all-end f [] e = refl
all-end f (d ∷ es) e = ap (λ (x : KeptEnd). Some x) (left-end f d es e)

on-append : (s : Side) (axis : ℕ) (es fs : List EndBound) → ends_on s axis (es ++ fs) ≡ ends_on s axis es ++ ends_on s axis fs
on-append s axis [] fs = refl
on-append s axis (e ∷ es) fs =
    ap (λ (xs : List KeptEnd). cond (fits s axis e) (e.end ∷ []) [] ++ xs) (on-append s axis es fs) ∙ sym (append_assoc (cond (fits s axis e) (e.end ∷ []) []) (ends_on s axis es) (ends_on s axis fs))

-- one more end, of this constant and side or of another one
on-more : (s : Side) (axis : ℕ) (es : List EndBound) (e : EndBound) → fits s axis e ≡ true → ends_on s axis (es ++ (e ∷ [])) ≡ ends_on s axis es ++ (e.end ∷ [])
on-more s axis es e h = on-append s axis es (e ∷ []) ∙ ap (λ (b : Bool). ends_on s axis es ++ (cond b (e.end ∷ []) [] ++ [])) h

on-others : (s : Side) (axis : ℕ) (es : List EndBound) (e : EndBound) → fits s axis e ≡ false → ends_on s axis (es ++ (e ∷ [])) ≡ ends_on s axis es
on-others s axis es e h = on-append s axis es (e ∷ []) ∙ ap (λ (b : Bool). ends_on s axis es ++ (cond b (e.end ∷ []) [] ++ [])) h ∙ append-nil (ends_on s axis es)

same-axis : (n : ℕ) → nat_eq n n ≡ true
same-axis n = eq-eqb n n refl

other-axis : (s t : Side) (b : Bool) → b ≡ false → is_side s t && b ≡ false
other-axis lower lower b h = h
other-axis upper upper b h = h
other-axis lower upper b h = refl
other-axis upper lower b h = refl

abbrev end-at : ℕ → Side → KeptEnd → EndBound
end-at axis s v = record { axis = axis; side = s; end = v }

tightest-here : (es : List EndBound) (axis : ℕ) (s : Side) (v : KeptEnd) → tightest_by (es ++ (end-at axis s v ∷ [])) axis ≡ tightened_on s v (tightest_by es axis)
tightest-here es axis lower v = ap₂ (λ (l h : Option KeptEnd). record { low = l; high = h })
    (ap (of_all greater_ext) (on-more lower axis es (end-at axis lower v) (same-axis axis)) ∙ all-end greater_ext (ends_on lower axis es) v)
    (ap (of_all lesser_ext) (on-others upper axis es (end-at axis lower v) refl))
tightest-here es axis upper v = ap₂ (λ (l h : Option KeptEnd). record { low = l; high = h })
    (ap (of_all greater_ext) (on-others lower axis es (end-at axis upper v) refl))
    (ap (of_all lesser_ext) (on-more upper axis es (end-at axis upper v) (same-axis axis)) ∙ all-end lesser_ext (ends_on upper axis es) v)

tightest-there : (es : List EndBound) (e : EndBound) (axis : ℕ) → nat_eq axis e.axis ≡ false → tightest_by (es ++ (e ∷ [])) axis ≡ tightest_by es axis
tightest-there es e axis h = ap₂ (λ (l u : Option KeptEnd). record { low = l; high = u })
    (ap (of_all greater_ext) (on-others lower axis es e (other-axis lower e.side (nat_eq axis e.axis) h)))
    (ap (of_all lesser_ext) (on-others upper axis es e (other-axis upper e.side (nat_eq axis e.axis) h)))

-- ---- the ends of all constants

got-set : (bs : List Bounds) (i : ℕ) (new : Bounds) (k : ℕ) (b : Bounds) → slice_get (slice_set bs i new) k ≡ Some b → ((k ≡ i) × (b ≡ new)) ⊎ (¬ (k ≡ i) × (slice_get bs k ≡ Some b))
got-set [] i new k b h = cc
got-set (c ∷ bs) zero new zero b h = inl (refl, cc)
got-set (c ∷ bs) zero new (suc k) b h = inr (omega arith, h)
got-set (c ∷ bs) (suc i) new zero b h = inr (omega arith, h)
got-set (c ∷ bs) (suc i) new (suc k) b h = elim (got-set bs i new k b h) [
  | inl e ↦ inl (ap suc e.0, e.1)
  | inr e ↦ inr (let f = e.0 in omega (arith, f), e.1)
]

set-count : (bs : List Bounds) (i : ℕ) (new : Bounds) → length (slice_set bs i new) ≡ length bs
set-count [] i new = refl
set-count (c ∷ bs) zero new = refl
set-count (c ∷ bs) (suc i) new = ap suc (set-count bs i new)

other-number : (m n : ℕ) → ¬ (m ≡ n) → nat_eq m n ≡ false
other-number m n h = not-equal (nat_eq m n) refl
  where
    not-equal : (b : Bool) → nat_eq m n ≡ b → b ≡ false
    not-equal true e = absurd (h (eqb-true m n e))
    not-equal false e = refl

-- one more end of a constant that is there
pub tightest_set : (es : List EndBound) (axes : ℕ) (bs : List Bounds) (e : code.EndBound) (old new : Bounds) → AreTightest es axes bs → slice_get bs e.axis ≡ Some old →
    bounds_of new ≡ tightened_on (side_of e.side) (ext_of e.end) (bounds_of old) → AreTightest (es ++ (end_bound_of e ∷ [])) axes (slice_set bs e.axis new)
tightest_set es axes bs e old new h there is = record {
  count = set-count bs e.axis new ∙ h.count;
  are = λ axis b g. elim (got-set bs e.axis new axis b g) [
    | inl k ↦ ap bounds_of k.1 ∙ is ∙ ap (tightened_on (side_of e.side) (ext_of e.end)) (h.are e.axis old there) ∙ sym (tightest-here es e.axis (side_of e.side) (ext_of e.end)) ∙
        ap (tightest_by (es ++ (end_bound_of e ∷ []))) (sym k.0)
    | inr k ↦ h.are axis b k.1 ∙ sym (tightest-there es (end_bound_of e) axis (other-number axis e.axis k.0))
  ];
}

got-below : (bs : List Bounds) (k : ℕ) (b : Bounds) → slice_get bs k ≡ Some b → k < length bs
got-below bs k b h = slice_get_within bs k b h

-- or of none of them
pub tightest_past : (es : List EndBound) (axes : ℕ) (bs : List Bounds) (e : code.EndBound) → AreTightest es axes bs → ¬ (e.axis < axes) → AreTightest (es ++ (end_bound_of e ∷ [])) axes bs
tightest_past es axes bs e h past = record {
  count = h.count;
  are = λ axis b g. h.are axis b g ∙ sym (tightest-there es (end_bound_of e) axis (other-number axis e.axis (let l = got-below bs axis b g in let n = h.count in omega (arith, l, n, past))));
}

pub tightest_none : (axes : ℕ) (b : Bounds) → bounds_of b ≡ tightest_by [] 0 → AreTightest [] axes (replicate axes b)
tightest_none axes b is = record { count = many axes; are = all axes }
  where
    many : (n : ℕ) → length (replicate n b) ≡ n
    many zero = refl
    many (suc n) = ap suc (many n)

    all : (n k : ℕ) (c : Bounds) → slice_get (replicate n b) k ≡ Some c → bounds_of c ≡ tightest_by [] k
    all zero k c h = cc
    all (suc n) zero c h = let same : b ≡ c = cc h in ap bounds_of (sym same) ∙ is
    all (suc n) (suc k) c h = all n k c h

pub ends_more : (es : List code.EndBound) (i : ℕ) (e : code.EndBound) → i < length es → e ≡ slice_index_or es i e → ends_of_all (take (i + 1) es) ≡ ends_of_all (take i es) ++ (end_bound_of e ∷ [])
ends_more es i e within is =
    ap ends_of_all (take_more es i e within ∙ ap (λ (x : code.EndBound). take i es ++ (x ∷ [])) (sym is)) ∙ map-append end_bound_of (take i es) (e ∷ [])
