-- What is true loosened is true loosened by more.
use Rattle.std.proofs.Common.{◌≡◌, List, [], ◌∷◌, ◌++◌, map, Bool, true, false, ◌&&◌, ◌||◌, IsTrue, refl, sym, subst, arith, true≢false}
use Rattle.std.specs.List.{AllByRecursion}
use Rattle.dyadic.specs.Fraction.{Fraction, IsFraction, zero_fraction, negated, sum_of, difference_of, product_of, quotient_of, at_most}
use Rattle.dyadic.specs.Point.{Coordinate, at_fraction, at_bool}
use Rattle.dyadic.proofs.Equal.{holds_le, le_holds, through}
use Rattle.dyadic.proofs.Ring.{atom, natural, minus, times, below, read_below}
use Rattle.script_model.specs.Reading.{Operator, truth, falsehood, negation, conjunction, disjunction, implication, exclusive, equality, distinctness, choice, minus as minus_op, plus as plus_op, times as times_op, divide, at_most_op, below_op, at_least_op, above_op}
use Rattle.script_model.specs.Meaning.{Pair, Value, real, bool, either, pair_of, not_above, not_below, at_most_pair, at_least_pair, equal_pair, true_pair, not_pair, and_pair, or_pair, xor_pair, choice_pair, all_pair, any_pair, implies_pair, neighbours, pairs, from_left, first_and_rest, lift_value, step_values, lift_pair, compare_values, differing_values, subtract_values, equality_of, distinctness_of, choice_value, choice_of, negation_of, operation, loosened, coordinate_value}
use Rattle.script_model.specs.Script.{Command, claims, Holds, Satisfies}
use Rattle.script_model.proofs.Related.{Each, Respects, claims_alike}

-- ---- pairs

-- where a part of the first holds, that of the second does
pub record Implies (t u : Pair) : Type 0 where
  pub yes : t.pos ≡ true → u.pos ≡ true
  pub no : t.neg ≡ true → u.neg ≡ true

itself : (t : Pair) → Implies t t
itself t = record { yes = λ e. e; no = λ e. e }

and-more : (a b c d : Bool) → (a ≡ true → c ≡ true) → (b ≡ true → d ≡ true) → a && b ≡ true → c && d ≡ true
and-more true b c d f g h = rw (f refl) (g h)
and-more false b c d f g h = cc

or-more : (a b c d : Bool) → (a ≡ true → c ≡ true) → (b ≡ true → d ≡ true) → a || b ≡ true → c || d ≡ true
or-more a b true d f g h = refl
or-more true b false d f g h = absurd (true≢false (sym (f refl)))
or-more false b false d f g h = g h

not-more : (t u : Pair) → Implies t u → Implies (not_pair t) (not_pair u)
not-more t u h = record { yes = h.no; no = h.yes }

and-pair-more : (a b c d : Pair) → Implies a c → Implies b d → Implies (and_pair a b) (and_pair c d)
and-pair-more a b c d h k = record { yes = and-more a.pos b.pos c.pos d.pos h.yes k.yes; no = or-more a.neg b.neg c.neg d.neg h.no k.no }

or-pair-more : (a b c d : Pair) → Implies a c → Implies b d → Implies (or_pair a b) (or_pair c d)
or-pair-more a b c d h k = record { yes = or-more a.pos b.pos c.pos d.pos h.yes k.yes; no = and-more a.neg b.neg c.neg d.neg h.no k.no }

xor-more : (a b c d : Pair) → Implies a c → Implies b d → Implies (xor_pair a b) (xor_pair c d)
xor-more a b c d h k = record {
  yes = or-more (a.pos && b.neg) (a.neg && b.pos) (c.pos && d.neg) (c.neg && d.pos) (and-more a.pos b.neg c.pos d.neg h.yes k.no) (and-more a.neg b.pos c.neg d.pos h.no k.yes);
  no = or-more (a.pos && b.pos) (a.neg && b.neg) (c.pos && d.pos) (c.neg && d.neg) (and-more a.pos b.pos c.pos d.pos h.yes k.yes) (and-more a.neg b.neg c.neg d.neg h.no k.no);
}

choice-more : (o a b p c d : Pair) → Implies o p → Implies a c → Implies b d → Implies (choice_pair o a b) (choice_pair p c d)
choice-more o a b p c d g h k = record {
  yes = or-more (o.pos && a.pos) (o.neg && b.pos) (p.pos && c.pos) (p.neg && d.pos) (and-more o.pos a.pos p.pos c.pos g.yes h.yes) (and-more o.neg b.pos p.neg d.pos g.no k.yes);
  no = or-more (o.pos && a.neg) (o.neg && b.neg) (p.pos && c.neg) (p.neg && d.neg) (and-more o.pos a.neg p.pos c.neg g.yes h.no) (and-more o.neg b.neg p.neg d.neg g.no k.no);
}

abbrev EachImplies : List Pair → List Pair → Type 0
EachImplies ts us = Each Implies ts us

all-more : (ts us : List Pair) → EachImplies ts us → Implies (all_pair ts) (all_pair us)
all-more [] [] h = itself (all_pair [])
all-more (t ∷ ts) (u ∷ us) h = and-pair-more t (all_pair ts) u (all_pair us) h.0 (all-more ts us h.1)
all-more [] (u ∷ us) h = elim h [ ]
all-more (t ∷ ts) [] h = elim h [ ]

any-more : (ts us : List Pair) → EachImplies ts us → Implies (any_pair ts) (any_pair us)
any-more [] [] h = itself (any_pair [])
any-more (t ∷ ts) (u ∷ us) h = or-pair-more t (any_pair ts) u (any_pair us) h.0 (any-more ts us h.1)
any-more [] (u ∷ us) h = elim h [ ]
any-more (t ∷ ts) [] h = elim h [ ]

implied-more : (ts us : List Pair) → EachImplies ts us → Implies (implies_pair ts) (implies_pair us)
implied-more [] [] h = itself true_pair
implied-more (t ∷ []) (u ∷ []) h = h.0
implied-more (t ∷ t' ∷ ts) (u ∷ u' ∷ us) h =
    or-pair-more (not_pair t) (implies_pair (t' ∷ ts)) (not_pair u) (implies_pair (u' ∷ us)) (not-more t u h.0) (implied-more (t' ∷ ts) (u' ∷ us) h.1)
implied-more [] (u ∷ us) h = elim h [ ]
implied-more (t ∷ ts) [] h = elim h [ ]
implied-more (t ∷ []) (u ∷ u' ∷ us) h = elim h.1 [ ]
implied-more (t ∷ t' ∷ ts) (u ∷ []) h = elim h.1 [ ]

negation-more : (ts us : List Pair) → EachImplies ts us → Implies (negation_of ts) (negation_of us)
negation-more [] [] h = itself true_pair
negation-more (t ∷ ts) (u ∷ us) h = not-more t u h.0
negation-more [] (u ∷ us) h = elim h [ ]
negation-more (t ∷ ts) [] h = elim h [ ]

xor-from : (t u : Pair) (ts us : List Pair) → Implies t u → EachImplies ts us → Implies (from_left xor_pair t ts) (from_left xor_pair u us)
xor-from t u [] [] h k = h
xor-from t u (a ∷ ts) (b ∷ us) h k = xor-from (xor_pair t a) (xor_pair u b) ts us (xor-more t a u b h k.0) k.1
xor-from t u [] (b ∷ us) h k = elim k [ ]
xor-from t u (a ∷ ts) [] h k = elim k [ ]

xor-all : (ts us : List Pair) → EachImplies ts us → Implies (first_and_rest xor_pair true_pair ts) (first_and_rest xor_pair true_pair us)
xor-all [] [] h = itself true_pair
xor-all (t ∷ ts) (u ∷ us) h = xor-from t u ts us h.0 h.1
xor-all [] (u ∷ us) h = elim h [ ]
xor-all (t ∷ ts) [] h = elim h [ ]

-- ---- lists

module _ {A : Type 0} (R : A → A → Type 0) where
  neighbours-more : (f g : A → A → Pair) → ((a b c d : A) → R a c → R b d → Implies (f a b) (g c d)) → (xs ys : List A) → Each R xs ys → EachImplies (neighbours f xs) (neighbours g ys)
  neighbours-more f g k [] [] h = tt
  neighbours-more f g k (x ∷ []) (y ∷ []) h = tt
  neighbours-more f g k (x ∷ x' ∷ xs) (y ∷ y' ∷ ys) h = (k x x' y y' h.0 h.1.0, neighbours-more f g k (x' ∷ xs) (y' ∷ ys) h.1)
  neighbours-more f g k [] (y ∷ ys) h = elim h [ ]
  neighbours-more f g k (x ∷ xs) [] h = elim h [ ]
  neighbours-more f g k (x ∷ []) (y ∷ y' ∷ ys) h = elim h.1 [ ]
  neighbours-more f g k (x ∷ x' ∷ xs) (y ∷ []) h = elim h.1 [ ]

  map-more : (f g : A → Pair) → ((a c : A) → R a c → Implies (f a) (g c)) → (xs ys : List A) → Each R xs ys → EachImplies (map f xs) (map g ys)
  map-more f g k [] [] h = tt
  map-more f g k (x ∷ xs) (y ∷ ys) h = (k x y h.0, map-more f g k xs ys h.1)
  map-more f g k [] (y ∷ ys) h = elim h [ ]
  map-more f g k (x ∷ xs) [] h = elim h [ ]

  join-more : (ts ts' us us' : List Pair) → EachImplies ts us → EachImplies ts' us' → EachImplies (ts ++ ts') (us ++ us')
  join-more [] ts' [] us' h k = k
  join-more (t ∷ ts) ts' (u ∷ us) us' h k = (h.0, join-more ts ts' us us' h.1 k)
  join-more [] ts' (u ∷ us) us' h k = elim h [ ]
  join-more (t ∷ ts) ts' [] us' h k = elim h [ ]

  pairs-more : (f g : A → A → Pair) → ((a b c d : A) → R a c → R b d → Implies (f a b) (g c d)) → (xs ys : List A) → Each R xs ys → EachImplies (pairs f xs) (pairs g ys)
  pairs-more f g k [] [] h = tt
  pairs-more f g k (x ∷ xs) (y ∷ ys) h =
      join-more (map (f x) xs) (pairs f xs) (map (g y) ys) (pairs g ys) (map-more (f x) (g y) (λ a c l. k x a y c h.0 l) xs ys h.1) (pairs-more f g k xs ys h.1)
  pairs-more f g k [] (y ∷ ys) h = elim h [ ]
  pairs-more f g k (x ∷ xs) [] h = elim h [ ]

-- ---- values

abbrev More : Value → Value → Type 0
More (real p) (real q) = p ≡ q
More (bool t) (bool u) = Implies t u
More (either c a b) (either d x y) = Implies c d × More a x × More b y
More _ _ = ⊥

pair-more : (v w : Value) → More v w → Implies (pair_of v) (pair_of w)
pair-more (real p) (real q) h = itself _
pair-more (bool t) (bool u) h = h
pair-more (either c a b) (either d x y) h = itself _
pair-more (real p) (bool u) h = elim h [ ]
pair-more (real p) (either d x y) h = elim h [ ]
pair-more (bool t) (real q) h = elim h [ ]
pair-more (bool t) (either d x y) h = elim h [ ]
pair-more (either c a b) (real q) h = elim h [ ]
pair-more (either c a b) (bool u) h = elim h [ ]

lift-more : (f g : Fraction → Value) → ((p : Fraction) → More (f p) (g p)) → (v w : Value) → More v w → More (lift_value f v) (lift_value g w)
lift-more f g k (real p) (real q) h = subst (λ x. More (f p) (g x)) h (k p)
lift-more f g k (bool t) (bool u) h = k zero_fraction
lift-more f g k (either c a b) (either d x y) h = (h.0, lift-more f g k a x h.1, lift-more f g k b y h.2)
lift-more f g k (real p) (bool u) h = elim h [ ]
lift-more f g k (real p) (either d x y) h = elim h [ ]
lift-more f g k (bool t) (real q) h = elim h [ ]
lift-more f g k (bool t) (either d x y) h = elim h [ ]
lift-more f g k (either c a b) (real q) h = elim h [ ]
lift-more f g k (either c a b) (bool u) h = elim h [ ]

step-more : (f : Fraction → Fraction → Fraction) (v w x y : Value) → More v x → More w y → More (step_values f v w) (step_values f x y)
step-more f v w x y h k = lift-more (λ p. lift_value (λ q. real (f p q)) w) (λ p. lift_value (λ q. real (f p q)) y)
    (λ p. lift-more (λ q. real (f p q)) (λ q. real (f p q)) (λ q. refl) w y k) v x h

steps-more : (f : Fraction → Fraction → Fraction) (v w : Value) (vs ws : List Value) → More v w → Each More vs ws → More (from_left (step_values f) v vs) (from_left (step_values f) w ws)
steps-more f v w [] [] h k = h
steps-more f v w (x ∷ vs) (y ∷ ws) h k = steps-more f (step_values f v x) (step_values f w y) vs ws (step-more f v x w y h k.0) k.1
steps-more f v w [] (y ∷ ws) h k = elim k [ ]
steps-more f v w (x ∷ vs) [] h k = elim k [ ]

all-steps-more : (f : Fraction → Fraction → Fraction) (vs ws : List Value) → Each More vs ws →
    More (first_and_rest (step_values f) (real zero_fraction) vs) (first_and_rest (step_values f) (real zero_fraction) ws)
all-steps-more f [] [] h = refl
all-steps-more f (v ∷ vs) (w ∷ ws) h = steps-more f v w vs ws h.0 h.1
all-steps-more f [] (w ∷ ws) h = elim h [ ]
all-steps-more f (v ∷ vs) [] h = elim h [ ]

subtract-more : (vs ws : List Value) → Each More vs ws → More (subtract_values vs) (subtract_values ws)
subtract-more [] [] h = refl
subtract-more (v ∷ []) (w ∷ []) h = lift-more (λ q. real (negated q)) (λ q. real (negated q)) (λ q. refl) v w h.0
subtract-more (v ∷ v' ∷ vs) (w ∷ w' ∷ ws) h = steps-more difference_of v w (v' ∷ vs) (w' ∷ ws) h.0 h.1
subtract-more [] (w ∷ ws) h = elim h [ ]
subtract-more (v ∷ vs) [] h = elim h [ ]
subtract-more (v ∷ []) (w ∷ w' ∷ ws) h = elim h.1 [ ]
subtract-more (v ∷ v' ∷ vs) (w ∷ []) h = elim h.1 [ ]

lift-pair-more : (f g : Fraction → Pair) → ((p : Fraction) → Implies (f p) (g p)) → (v w : Value) → More v w → Implies (lift_pair f v) (lift_pair g w)
lift-pair-more f g k (real p) (real q) h = subst (λ x. Implies (f p) (g x)) h (k p)
lift-pair-more f g k (bool t) (bool u) h = k zero_fraction
lift-pair-more f g k (either c a b) (either d x y) h = choice-more c (lift_pair f a) (lift_pair f b) d (lift_pair g x) (lift_pair g y) h.0 (lift-pair-more f g k a x h.1) (lift-pair-more f g k b y h.2)
lift-pair-more f g k (real p) (bool u) h = elim h [ ]
lift-pair-more f g k (real p) (either d x y) h = elim h [ ]
lift-pair-more f g k (bool t) (real q) h = elim h [ ]
lift-pair-more f g k (bool t) (either d x y) h = elim h [ ]
lift-pair-more f g k (either c a b) (real q) h = elim h [ ]
lift-pair-more f g k (either c a b) (bool u) h = elim h [ ]

compare-more : (f g : Fraction → Fraction → Pair) → ((p q : Fraction) → Implies (f p q) (g p q)) → (v w x y : Value) → More v x → More w y → Implies (compare_values f v w) (compare_values g x y)
compare-more f g k v w x y h l = lift-pair-more (λ p. lift_pair (λ q. f p q) w) (λ p. lift_pair (λ q. g p q) y)
    (λ p. lift-pair-more (λ q. f p q) (λ q. g p q) (λ q. k p q) w y l) v x h

choice-value-more : (c d : Pair) (v w x y : Value) → Implies c d → More v x → More w y → More (choice_value c v w) (choice_value d x y)
choice-value-more c d (bool a) w (bool b) y g h k = choice-more c a (pair_of w) d b (pair_of y) g h (pair-more w y k)
choice-value-more c d (real p) w (real q) y g h k = (g, h, k)
choice-value-more c d (either o a b) w (either o' a' b') y g h k = (g, h, k)
choice-value-more c d (real p) w (bool u) y g h k = elim h [ ]
choice-value-more c d (real p) w (either o a b) y g h k = elim h [ ]
choice-value-more c d (bool t) w (real q) y g h k = elim h [ ]
choice-value-more c d (bool t) w (either o a b) y g h k = elim h [ ]
choice-value-more c d (either o a b) w (real q) y g h k = elim h [ ]
choice-value-more c d (either o a b) w (bool u) y g h k = elim h [ ]

choice-of-more : (vs ws : List Value) → Each More vs ws → More (choice_of vs) (choice_of ws)
choice-of-more [] [] h = itself true_pair
choice-of-more (v ∷ []) (w ∷ []) h = itself true_pair
choice-of-more (v ∷ v' ∷ []) (w ∷ w' ∷ []) h = itself true_pair
choice-of-more (c ∷ a ∷ b ∷ vs) (d ∷ x ∷ y ∷ ws) h = choice-value-more (pair_of c) (pair_of d) a b x y (pair-more c d h.0) h.1.0 h.1.1.0
choice-of-more [] (w ∷ ws) h = elim h [ ]
choice-of-more (v ∷ vs) [] h = elim h [ ]
choice-of-more (v ∷ []) (w ∷ w' ∷ ws) h = elim h.1 [ ]
choice-of-more (v ∷ v' ∷ vs) (w ∷ []) h = elim h.1 [ ]
choice-of-more (v ∷ v' ∷ []) (w ∷ w' ∷ w'' ∷ ws) h = elim h.1.1 [ ]
choice-of-more (v ∷ v' ∷ v'' ∷ vs) (w ∷ w' ∷ []) h = elim h.1.1 [ ]

pairs-of-more : (vs ws : List Value) → Each More vs ws → EachImplies (map pair_of vs) (map pair_of ws)
pairs-of-more vs ws h = map-more More pair_of pair_of pair-more vs ws h

agree-more : (a b c d : Pair) → Implies a c → Implies b d → Implies (not_pair (xor_pair a b)) (not_pair (xor_pair c d))
agree-more a b c d h k = not-more (xor_pair a b) (xor_pair c d) (xor-more a b c d h k)

-- ---- comparisons, loosened by m and by n

negated-at-most : (m n : Fraction) → IsTrue (at_most m n) → IsTrue (at_most (negated n) (negated m))
unfolding at_most negated
negated-at-most m n h = le_holds _ _ (below (times (minus (atom n.num)) (natural m.den)) (times (minus (atom m.num)) (natural n.den))
    (omega (arith, read_below (times (atom m.num) (natural n.den)) (times (atom n.num) (natural m.den)) (holds_le _ _ h))))

negated-fraction : (m : Fraction) → IsFraction m → IsFraction (negated m)
unfolding negated
negated-fraction m h = h

module _ (m n : Fraction) (F : IsFraction m) (L : IsTrue (at_most m n)) where
  above-more : (a b : Fraction) → not_above m a b ≡ true → not_above n a b ≡ true
  above-more a b h = through (difference_of a b) m n F h L

  below-more : (a b : Fraction) → not_below m a b ≡ true → not_below n a b ≡ true
  below-more a b h = through (negated n) (negated m) (difference_of a b) (negated-fraction m F) (negated-at-most m n L) h

  at-most-more : (a b : Fraction) → Implies (at_most_pair m a b) (at_most_pair n a b)
  at-most-more a b = record { yes = above-more a b; no = below-more a b }

  at-least-more : (a b : Fraction) → Implies (at_least_pair m a b) (at_least_pair n a b)
  at-least-more a b = record { yes = below-more a b; no = above-more a b }

  equal-more : (a b : Fraction) → Implies (equal_pair m a b) (equal_pair n a b)
  equal-more a b = record { yes = and-more (not_below m a b) (not_above m a b) (not_below n a b) (not_above n a b) (below-more a b) (above-more a b); no = λ e. e }

  chain-more : (f g : Fraction → Fraction → Pair) → ((a b : Fraction) → Implies (f a b) (g a b)) → (vs ws : List Value) → Each More vs ws →
      Implies (all_pair (neighbours (compare_values f) vs)) (all_pair (neighbours (compare_values g) ws))
  chain-more f g k vs ws h = all-more (neighbours (compare_values f) vs) (neighbours (compare_values g) ws)
      (neighbours-more More (compare_values f) (compare_values g) (compare-more f g k) vs ws h)

  differ-more : (vs ws : List Value) → Each More vs ws → Implies (all_pair (pairs (differing_values m) vs)) (all_pair (pairs (differing_values n) ws))
  differ-more vs ws h = all-more (pairs (differing_values m) vs) (pairs (differing_values n) ws)
      (pairs-more More (differing_values m) (differing_values n)
      (λ a b c d k l. not-more (compare_values (equal_pair m) a b) (compare_values (equal_pair n) c d) (compare-more (equal_pair m) (equal_pair n) equal-more a b c d k l)) vs ws h)

  equality-more : (vs ws : List Value) → Each More vs ws → Implies (equality_of m vs) (equality_of n ws)
  equality-more [] [] h = itself (all_pair [])
  equality-more (bool t ∷ vs) (bool u ∷ ws) h =
      let ts = map pair_of (bool t ∷ vs) in let us = map pair_of (bool u ∷ ws) in
      all-more (neighbours (λ a b. not_pair (xor_pair a b)) ts) (neighbours (λ a b. not_pair (xor_pair a b)) us)
      (neighbours-more Implies (λ a b. not_pair (xor_pair a b)) (λ a b. not_pair (xor_pair a b)) agree-more ts us (pairs-of-more (bool t ∷ vs) (bool u ∷ ws) h))
  equality-more (real p ∷ vs) (real q ∷ ws) h = chain-more (equal_pair m) (equal_pair n) equal-more (real p ∷ vs) (real q ∷ ws) h
  equality-more (either c a b ∷ vs) (either d x y ∷ ws) h = chain-more (equal_pair m) (equal_pair n) equal-more (either c a b ∷ vs) (either d x y ∷ ws) h
  equality-more [] (w ∷ ws) h = elim h [ ]
  equality-more (v ∷ vs) [] h = elim h [ ]
  equality-more (real p ∷ vs) (bool u ∷ ws) h = elim h.0 [ ]
  equality-more (real p ∷ vs) (either d x y ∷ ws) h = elim h.0 [ ]
  equality-more (bool t ∷ vs) (real q ∷ ws) h = elim h.0 [ ]
  equality-more (bool t ∷ vs) (either d x y ∷ ws) h = elim h.0 [ ]
  equality-more (either c a b ∷ vs) (real q ∷ ws) h = elim h.0 [ ]
  equality-more (either c a b ∷ vs) (bool u ∷ ws) h = elim h.0 [ ]

  distinctness-more : (vs ws : List Value) → Each More vs ws → Implies (distinctness_of m vs) (distinctness_of n ws)
  distinctness-more [] [] h = itself (all_pair [])
  distinctness-more (bool t ∷ vs) (bool u ∷ ws) h =
      let ts = map pair_of (bool t ∷ vs) in let us = map pair_of (bool u ∷ ws) in
      all-more (pairs xor_pair ts) (pairs xor_pair us) (pairs-more Implies xor_pair xor_pair xor-more ts us (pairs-of-more (bool t ∷ vs) (bool u ∷ ws) h))
  distinctness-more (real p ∷ vs) (real q ∷ ws) h = differ-more (real p ∷ vs) (real q ∷ ws) h
  distinctness-more (either c a b ∷ vs) (either d x y ∷ ws) h = differ-more (either c a b ∷ vs) (either d x y ∷ ws) h
  distinctness-more [] (w ∷ ws) h = elim h [ ]
  distinctness-more (v ∷ vs) [] h = elim h [ ]
  distinctness-more (real p ∷ vs) (bool u ∷ ws) h = elim h.0 [ ]
  distinctness-more (real p ∷ vs) (either d x y ∷ ws) h = elim h.0 [ ]
  distinctness-more (bool t ∷ vs) (real q ∷ ws) h = elim h.0 [ ]
  distinctness-more (bool t ∷ vs) (either d x y ∷ ws) h = elim h.0 [ ]
  distinctness-more (either c a b ∷ vs) (real q ∷ ws) h = elim h.0 [ ]
  distinctness-more (either c a b ∷ vs) (bool u ∷ ws) h = elim h.0 [ ]

  operation-more : (op : Operator) (vs ws : List Value) → Each More vs ws → More (operation m op vs) (operation n op ws)
  operation-more truth vs ws h = itself true_pair
  operation-more falsehood vs ws h = itself (not_pair true_pair)
  operation-more negation vs ws h = negation-more (map pair_of vs) (map pair_of ws) (pairs-of-more vs ws h)
  operation-more conjunction vs ws h = all-more (map pair_of vs) (map pair_of ws) (pairs-of-more vs ws h)
  operation-more disjunction vs ws h = any-more (map pair_of vs) (map pair_of ws) (pairs-of-more vs ws h)
  operation-more implication vs ws h = implied-more (map pair_of vs) (map pair_of ws) (pairs-of-more vs ws h)
  operation-more exclusive vs ws h = xor-all (map pair_of vs) (map pair_of ws) (pairs-of-more vs ws h)
  operation-more equality vs ws h = equality-more vs ws h
  operation-more distinctness vs ws h = distinctness-more vs ws h
  operation-more choice vs ws h = choice-of-more vs ws h
  operation-more minus_op vs ws h = subtract-more vs ws h
  operation-more plus_op vs ws h = all-steps-more sum_of vs ws h
  operation-more times_op vs ws h = all-steps-more product_of vs ws h
  operation-more divide vs ws h = all-steps-more quotient_of vs ws h
  operation-more at_most_op vs ws h = chain-more (at_most_pair m) (at_most_pair n) at-most-more vs ws h
  operation-more below_op vs ws h = chain-more (at_most_pair m) (at_most_pair n) at-most-more vs ws h
  operation-more at_least_op vs ws h = chain-more (at_least_pair m) (at_least_pair n) at-least-more vs ws h
  operation-more above_op vs ws h = chain-more (at_least_pair m) (at_least_pair n) at-least-more vs ws h

  more-respects : Respects More (loosened m) (loosened n)
  more-respects = record {
    literal = λ at digits decimals. refl;
    named = λ at v w h. h;
    annotated = λ at v w h. h;
    apply = λ at op vs ws h. operation-more op vs ws h;
    bind = λ at names vs ws v w k h. h;
    call = λ at vs ws v w k h. h;
    nothing = λ at why. refl;
  }

  coordinates-more : (point : List Coordinate) → Each More (map coordinate_value point) (map coordinate_value point)
  coordinates-more [] = tt
  coordinates-more (at_fraction q ∷ point) = (refl, coordinates-more point)
  coordinates-more (at_bool b ∷ point) = (itself _, coordinates-more point)

  all-hold : (vs ws : List Value) → Each More vs ws → AllByRecursion Holds (map pair_of vs) → AllByRecursion Holds (map pair_of ws)
  all-hold [] [] h k = tt
  all-hold (v ∷ vs) (w ∷ ws) h k = ((pair-more v w h.0).yes k.0, all-hold vs ws h.1 k.1)
  all-hold [] (w ∷ ws) h k = elim h [ ]
  all-hold (v ∷ vs) [] h k = elim h [ ]

  -- what satisfies a script loosened satisfies it loosened by more
  pub satisfies_more : (point : List Coordinate) (script : List Command) → Satisfies m point script → Satisfies n point script
  satisfies_more point script h =
      all-hold (claims (loosened m) [] (map coordinate_value point) script) (claims (loosened n) [] (map coordinate_value point) script)
      (claims_alike More (loosened m) (loosened n) more-respects [] [] tt (map coordinate_value point) (map coordinate_value point) (coordinates-more point) script) h
