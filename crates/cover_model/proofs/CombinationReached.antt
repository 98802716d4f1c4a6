-- Values that adjoints, parts and a range reach: what is left of the value, once each adjoint's part is taken, lies in the range.
use Rattle.std.proofs.Common.{◌≡◌, ℕ, suc, zero, ◌<◌, List, [], ◌∷◌, Bool, true, false, cond, Option, Some, None, refl, ap, sym, subst, ◌∙◌, arith, nat_eq, eqb→eq, true≢false}
use Rattle.std.proofs.lemmas.Bool.{eq-eqb}
use Rattle.std.specs.Bool.{passes}
use Rattle.dyadic.specs.Fraction.{Fraction, IsFraction, difference_of, sum_of, product_of, negated}
use Rattle.interval_model.specs.Interval.{Interval, interval_sum}
use Rattle.dyadic.proofs.Equal.{◌≈◌, ≈_refl, ≈_sym, sum_same}
use Rattle.interval_model.proofs.Ends.{product_is_good}
use Rattle.interval_model.proofs.EndsSums.{sum_is_good}
use Rattle.interval_model.proofs.Holds.{Holds, same_holds, sum_holds}
use Rattle.interval_model.proofs.Inverses.{sum_less}
use Rattle.cover_model.specs.Combination.{Adjoints, Part, joined, handed}
use Rattle.cover_model.proofs.CombinationFractions.{joins, off_good, moved}

-- ---- relations of values that stay where the same is taken from both

abbrev pub Stable : (Fraction → Fraction → Type 0) → Type 0
Stable R = (f g z : Fraction) → IsFraction z → R f g → R (difference_of f z) (difference_of g z)

abbrev pub Same : Fraction → Fraction → Type 0
Same f g = IsFraction f × IsFraction g × (f ≈ g)

pub same_stable : Stable Same
same_stable f g z n r = (off_good f z r.0 n, off_good g z r.1 n, sum_same r.2 (≈_refl (negated z)))

-- the second is the first, and y more
abbrev pub More : Fraction → Fraction → Fraction → Type 0
More y f g = IsFraction f × (g ≡ sum_of f y)

pub more_stable : (y : Fraction) → Stable (More y)
more_stable y f g z n r = (off_good f z r.0 n, ap (λ (x : Fraction). difference_of x z) r.1 ∙ sym (moved f y z))

-- the first is the second, less y
abbrev pub Less : Fraction → Fraction → Fraction → Type 0
Less y f g = f ≡ difference_of g y

pub less_stable : (y : Fraction) → Stable (Less y)
less_stable y f g z n r = ap (λ (x : Fraction). difference_of x z) r ∙ moved g (negated z) y

abbrev pub Less-both : Fraction → Fraction → Fraction → Fraction → Type 0
Less-both x y f g = f ≡ difference_of (difference_of g x) y

less-both-stable : (x y : Fraction) → Stable (Less-both x y)
less-both-stable x y f g z n r = less_stable y f (difference_of g x) z n r ∙ ap (λ (t : Fraction). difference_of t y) (moved g (negated z) x)

abbrev pub Equal : Fraction → Fraction → Type 0
Equal f g = IsFraction f × (f ≡ g)

pub equal_stable : Stable Equal
equal_stable f g z n r = (off_good f z r.0 n, ap (λ (x : Fraction). difference_of x z) r.1)

-- ---- P of the value, less the adjoint's part

abbrev pub Through : Option Interval → Fraction → (Fraction → Type 0) → Fraction → Type 0
Through None d P f = P f
Through (Some w) d P f = (a : Fraction) × IsFraction a × Holds w a × P (difference_of f (product_of a d))

pub through_map : (R : Fraction → Fraction → Type 0) → Stable R → (P Q : Fraction → Type 0) → ((f g : Fraction) → R f g → P f → Q g) → (o : Option Interval) (d : Fraction) → IsFraction d → (f g : Fraction) → R f g → Through o d P f → Through o d Q g
through_map R s P Q c None d n f g r t = c f g r t
through_map R s P Q c (Some w) d n f g r t = (t.0, t.1, t.2, c (difference_of f (product_of t.0 d)) (difference_of g (product_of t.0 d)) (s f g (product_of t.0 d) (product_is_good t.0 d t.1 n) r) t.3)

-- less the parts of an adjoint and of a coefficient of the square
abbrev pub Both : Option Interval → Option Interval → Fraction → (Fraction → Type 0) → Fraction → Type 0
Both o q d P f = Through o d (Through q (product_of d d) P) f

pub both_map : (R : Fraction → Fraction → Type 0) → Stable R → (P Q : Fraction → Type 0) → ((f g : Fraction) → R f g → P f → Q g) → (o q : Option Interval) (d : Fraction) → IsFraction d → (f g : Fraction) → R f g → Both o q d P f → Both o q d Q g
both_map R s P Q c o q d n f g r t = through_map R s (Through q (product_of d d) P) (Through q (product_of d d) Q) (through_map R s P Q c q (product_of d d) (product_is_good d d n n)) o d n f g r t

-- more of the coefficient
join : (P Q : Fraction → Type 0) → ((f g : Fraction) → Same f g → P f → Q g) → (o : Option Interval) (d : Fraction) → IsFraction d → (i : Interval) (y f : Fraction) → IsFraction y → IsFraction f → Holds i y →
    Through o d P f → Through (Some (joined o i)) d Q (sum_of f (product_of y d))
join P Q c None d n i y f gy gf h t = let z : Fraction = product_of y d in let gz : IsFraction z = product_is_good y d gy n in let more : Fraction = sum_of f z in
    (y, gy, h, c f (difference_of more z) (gf, off_good more z (sum_is_good f z gf gz) gz, ≈_sym (sum_less f z)) t)
join P Q c (Some w) d n i y f gy gf h t = let z : Fraction = product_of y d in let gz : IsFraction z = product_is_good y d gy n in let more : Fraction = sum_of f z in
    let b : Fraction = sum_of t.0 y in let gb : IsFraction b = sum_is_good t.0 y t.1 gy in (
      b,
      gb,
      sum_holds w i t.0 y t.2 h,
      c (difference_of f (product_of t.0 d)) (difference_of more (product_of b d))
          (off_good f (product_of t.0 d) gf (product_is_good t.0 d t.1 n), off_good more (product_of b d) (sum_is_good f z gf gz) (product_is_good b d gb n), ≈_sym (joins f y d t.0)) t.3,
    )

-- ---- adjoints that are handed

handed-other : (a j : ℕ) (i : Interval) (os : Adjoints) → (j ≡ a → ⊥) → handed a i os j ≡ os j
handed-other a j i os n = at (nat_eq j a) refl
  where
    at : (t : Bool) → nat_eq j a ≡ t → cond t (Some (joined (os j) i)) (os j) ≡ os j
    at true e = absurd (n (eqb→eq j a (passes _ e)))
    at false e = refl

not-last : (k a : ℕ) → a < suc k → nat_eq k a ≡ false → a < k
not-last k a l n = let other : k ≡ a → ⊥ = λ s. true≢false (sym (eq-eqb k a s) ∙ n) in omega arith

-- the differences to the values at the centre, of the nodes by number, and of the Real axes
module _ (off : ℕ → Fraction) (good : (k : ℕ) → IsFraction (off k)) (IsReal : ℕ → Type 0) (apart : ℕ → Fraction) (fine : (axis : ℕ) → IsFraction (apart axis)) where
  -- what is left once the parts are taken lies in the range
  abbrev pub Left : List Part → Interval → Fraction → Type 0
  Left [] acc f = Holds acc f
  Left (x ∷ parts) acc f = IsReal x.axis × Both x.linear x.square (apart x.axis) (Left parts acc) f

  pub carried_left : (R : Fraction → Fraction → Type 0) → Stable R → (acc acc' : Interval) → ((f g : Fraction) → R f g → Holds acc f → Holds acc' g) → (parts : List Part) (f g : Fraction) → R f g → Left parts acc f → Left parts acc' g
  carried_left R s acc acc' c [] f g r h = c f g r h
  carried_left R s acc acc' c (x ∷ parts) f g r h = (h.0, both_map R s (Left parts acc) (Left parts acc') (carried_left R s acc acc' c parts) x.linear x.square (apart x.axis) (fine x.axis) f g r h.1)

  pub same_left : (parts : List Part) (acc : Interval) (f g : Fraction) → Same f g → Left parts acc f → Left parts acc g
  same_left parts acc = carried_left Same same_stable acc acc (λ f g r h. same_holds acc f g r.0 r.1 r.2 h) parts

  pub more_left : (parts : List Part) (acc : Interval) (i : Interval) (y : Fraction) → Holds i y → (f g : Fraction) → More y f g → Left parts acc f → Left parts (interval_sum acc i) g
  more_left parts acc i y k = carried_left (More y) (more_stable y) acc (interval_sum acc i) (λ f g r h. subst (Holds (interval_sum acc i)) (sym r.1) (sum_holds acc i f y h k)) parts

  -- of the nodes below this number
  abbrev pub Reaches : ℕ → Adjoints → Adjoints → List Part → Interval → Fraction → Type 0
  Reaches zero os qs ps acc f = Left ps acc f
  Reaches (suc k) os qs ps acc f = Both (os k) (qs k) (off k) (Reaches k os qs ps acc) f

  carried : (R : Fraction → Fraction → Type 0) → Stable R → (ps ps' : List Part) (acc acc' : Interval) → ((f g : Fraction) → R f g → Left ps acc f → Left ps' acc' g) → (k : ℕ) (os qs : Adjoints) (f g : Fraction) → R f g →
      Reaches k os qs ps acc f → Reaches k os qs ps' acc' g
  carried R s ps ps' acc acc' c zero os qs f g r h = c f g r h
  carried R s ps ps' acc acc' c (suc k) os qs f g r h = both_map R s (Reaches k os qs ps acc) (Reaches k os qs ps' acc') (carried R s ps ps' acc acc' c k os qs) (os k) (qs k) (off k) (good k) f g r h

  pub same_reaches : (k : ℕ) (os qs : Adjoints) (ps : List Part) (acc : Interval) (f g : Fraction) → Same f g → Reaches k os qs ps acc f → Reaches k os qs ps acc g
  same_reaches k os qs ps acc = carried Same same_stable ps ps acc acc (same_left ps acc) k os qs

  pub more_reaches : (k : ℕ) (os qs : Adjoints) (ps : List Part) (acc : Interval) (f : Fraction) (i : Interval) (y : Fraction) → IsFraction f → Holds i y → Reaches k os qs ps acc f → Reaches k os qs ps (interval_sum acc i) (sum_of f y)
  more_reaches k os qs ps acc f i y n h = carried (More y) (more_stable y) ps ps acc (interval_sum acc i) (more_left ps acc i y h) k os qs f (sum_of f y) (n, refl)

  -- adjoints of nodes from this number on do not matter
  agree : (ps : List Part) (acc : Interval) (k : ℕ) (os os' qs qs' : Adjoints) → ((j : ℕ) → j < k → os' j ≡ os j) → ((j : ℕ) → j < k → qs' j ≡ qs j) → (f g : Fraction) → Same f g → Reaches k os qs ps acc f → Reaches k os' qs' ps acc g
  agree ps acc zero os os' qs qs' a b f g r h = same_left ps acc f g r h
  agree ps acc (suc k) os os' qs qs' a b f g r h =
      subst (λ (o : Option Interval). Both o (qs' k) (off k) (Reaches k os' qs' ps acc) g) (sym (a k (omega arith)))
      (subst (λ (q : Option Interval). Both (os k) q (off k) (Reaches k os' qs' ps acc) g) (sym (b k (omega arith)))
      (both_map Same same_stable (Reaches k os qs ps acc) (Reaches k os' qs' ps acc) (agree ps acc k os os' qs qs' (λ j l. a j (omega arith)) (λ j l. b j (omega arith))) (os k) (qs k) (off k) (good k) f g r h))

  -- more for node a
  pub handed_reaches : (k a : ℕ) (os qs : Adjoints) (ps : List Part) (acc : Interval) (i : Interval) (y : Fraction) → a < k → IsFraction y → Holds i y → (f : Fraction) → IsFraction f → Reaches k os qs ps acc f →
      Reaches k (handed a i os) qs ps acc (sum_of f (product_of y (off a)))
  handed_reaches zero a os qs ps acc i y l gy h f gf r = absurd (omega arith)
  handed_reaches (suc k) a os qs ps acc i y l gy h f gf r = at (λ b f' g' t. handed_reaches k a os qs ps acc i y b gy h f' g' t) (nat_eq k a) refl
    where
      at : (a < k → (f' : Fraction) → IsFraction f' → Reaches k os qs ps acc f' → Reaches k (handed a i os) qs ps acc (sum_of f' (product_of y (off a)))) → (t : Bool) → nat_eq k a ≡ t →
          Both (cond t (Some (joined (os k) i)) (os k)) (qs k) (off k) (Reaches k (handed a i os) qs ps acc) (sum_of f (product_of y (off a)))
      at below true e = let same : k ≡ a = eqb→eq k a (passes _ e) in
          subst (λ (n : ℕ). Both (Some (joined (os k) i)) (qs k) (off k) (Reaches k (handed a i os) qs ps acc) (sum_of f (product_of y (off n)))) same
          (join (Through (qs k) (product_of (off k) (off k)) (Reaches k os qs ps acc)) (Through (qs k) (product_of (off k) (off k)) (Reaches k (handed a i os) qs ps acc))
          (through_map Same same_stable (Reaches k os qs ps acc) (Reaches k (handed a i os) qs ps acc) (agree ps acc k os (handed a i os) qs qs (λ j b. handed-other a j i os (λ s. omega arith)) (λ j b. refl)) (qs k) (product_of (off k) (off k)) (product_is_good (off k) (off k) (good k) (good k)))
          (os k) (off k) (good k) i y f gy gf h r)
      at below false e = both_map (More (product_of y (off a))) (more_stable (product_of y (off a))) (Reaches k os qs ps acc) (Reaches k (handed a i os) qs ps acc)
          (λ f' g r' t. subst (Reaches k (handed a i os) qs ps acc) (sym r'.1) (below (not-last k a l e) f' r'.0 t)) (os k) (qs k) (off k) (good k) f (sum_of f (product_of y (off a))) (gf, refl) r

  -- more of the square for node a
  pub squared_reaches : (k a : ℕ) (os qs : Adjoints) (ps : List Part) (acc : Interval) (i : Interval) (y : Fraction) → a < k → IsFraction y → Holds i y → (f : Fraction) → IsFraction f → Reaches k os qs ps acc f →
      Reaches k os (handed a i qs) ps acc (sum_of f (product_of y (product_of (off a) (off a))))
  squared_reaches zero a os qs ps acc i y l gy h f gf r = absurd (omega arith)
  squared_reaches (suc k) a os qs ps acc i y l gy h f gf r = at (λ b f' g' t. squared_reaches k a os qs ps acc i y b gy h f' g' t) (nat_eq k a) refl
    where
      sq : ℕ → Fraction
      sq n = product_of (off n) (off n)

      sq-good : (n : ℕ) → IsFraction (product_of (off n) (off n))
      sq-good n = product_is_good (off n) (off n) (good n) (good n)

      at : (a < k → (f' : Fraction) → IsFraction f' → Reaches k os qs ps acc f' → Reaches k os (handed a i qs) ps acc (sum_of f' (product_of y (product_of (off a) (off a))))) → (t : Bool) → nat_eq k a ≡ t →
          Both (os k) (cond t (Some (joined (qs k) i)) (qs k)) (off k) (Reaches k os (handed a i qs) ps acc) (sum_of f (product_of y (product_of (off a) (off a))))
      at below true e = let same : k ≡ a = eqb→eq k a (passes _ e) in let z : Fraction = product_of y (product_of (off k) (off k)) in
          subst (λ (n : ℕ). Both (os k) (Some (joined (qs k) i)) (off k) (Reaches k os (handed a i qs) ps acc) (sum_of f (product_of y (product_of (off n) (off n))))) same
          (through_map (More z) (more_stable z) (Through (qs k) (product_of (off k) (off k)) (Reaches k os qs ps acc)) (Through (Some (joined (qs k) i)) (product_of (off k) (off k)) (Reaches k os (handed a i qs) ps acc))
          (λ f' g r' t. subst (Through (Some (joined (qs k) i)) (product_of (off k) (off k)) (Reaches k os (handed a i qs) ps acc)) (sym r'.1)
          (join (Reaches k os qs ps acc) (Reaches k os (handed a i qs) ps acc) (agree ps acc k os os qs (handed a i qs) (λ j b. refl) (λ j b. handed-other a j i qs (λ s. omega arith))) (qs k) (product_of (off k) (off k)) (sq-good k) i y f' gy r'.0 h t))
          (os k) (off k) (good k) f (sum_of f z) (gf, refl) r)
      at below false e = let z : Fraction = product_of y (product_of (off a) (off a)) in both_map (More z) (more_stable z) (Reaches k os qs ps acc) (Reaches k os (handed a i qs) ps acc)
          (λ f' g r' t. subst (Reaches k os (handed a i qs) ps acc) (sym r'.1) (below (not-last k a l e) f' r'.0 t)) (os k) (qs k) (off k) (good k) f (sum_of f z) (gf, refl) r

  -- a part of an axis
  pub parted : (k : ℕ) (os qs : Adjoints) (ps : List Part) (acc : Interval) (axis : ℕ) (o q : Option Interval) (f : Fraction) → IsReal axis → IsFraction f → Both o q (apart axis) (Reaches k os qs ps acc) f →
      Reaches k os qs (record { axis = axis; linear = o; square = q } ∷ ps) acc f
  parted k os qs ps acc axis None None f n gf r = carried Equal equal_stable ps (record { axis = axis; linear = None; square = None } ∷ ps) acc acc (λ f' g e h. (n, subst (Left ps acc) e.1 h)) k os qs f f (gf, refl) r
  parted k os qs ps acc axis (Some w) None f n gf r = let z : Fraction = product_of r.0 (apart axis) in
      carried (Less z) (less_stable z) ps (record { axis = axis; linear = Some w; square = None } ∷ ps) acc acc (λ f' g e h. (n, (r.0, r.1, r.2, subst (Left ps acc) e h))) k os qs (difference_of f z) f refl r.3
  parted k os qs ps acc axis None (Some w) f n gf r = let z : Fraction = product_of r.0 (product_of (apart axis) (apart axis)) in
      carried (Less z) (less_stable z) ps (record { axis = axis; linear = None; square = Some w } ∷ ps) acc acc (λ f' g e h. (n, (r.0, r.1, r.2, subst (Left ps acc) e h))) k os qs (difference_of f z) f refl r.3
  parted k os qs ps acc axis (Some w) (Some v) f n gf r = let z : Fraction = product_of r.0 (apart axis) in let t = r.3 in let y : Fraction = product_of t.0 (product_of (apart axis) (apart axis)) in
      carried (Less-both z y) (less-both-stable z y) ps (record { axis = axis; linear = Some w; square = Some v } ∷ ps) acc acc (λ f' g e h. (n, (r.0, r.1, r.2, (t.0, t.1, t.2, subst (Left ps acc) e h)))) k os qs (difference_of (difference_of f z) y) f refl t.3
