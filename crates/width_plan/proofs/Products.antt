-- Products and squares of narrow intervals.
use Rattle.std.proofs.Common.{◌≡◌, inl, suc, ◌*◌, ◌^◌, arith, refl, sym, ap, subst, Bool, true, false, cond, ◌&&◌, IsTrue, ℤ, pos, negsuc, neg_ℤ, ◌+ℤ◌, ◌*ℤ◌, ◌≤ℤ◌}
use Rattle.std.proofs.lemmas.Int.{ints}
use Rattle.dyadic.specs.Fraction.{Fraction, IsFraction, at_most, zero_fraction}
use Rattle.dyadic.specs.Rounding.{Dyadic, exact, End, at, end_at_most, down}
use Rattle.dyadic.specs.End.{end_product, lesser, greater, rounded_down}
use Rattle.dyadic.proofs.Equal.{both_true}
use Rattle.dyadic.proofs.Ring
use Rattle.dyadic.proofs.Ring.{atom, natural, plus, minus, times, read_below}
use Rattle.dyadic.proofs.Rounds.{at_most_read}
use Rattle.interval_model.proofs.Ends.{◌⊑◌, Good, end_trans, lesser_below, greater_above, good_lesser, good_greater, other_way}
use Rattle.interval_model.proofs.EndsProducts.{end_refl, least_of_four, greatest_of_four}
use Rattle.interval_model.proofs.Squares.{least_square, greatest_square}
use Rattle.width_plan.proofs.Ends.{fine, fine_is_fraction, product_is_fine}

-- ---- products of whole numbers

both-plus : (a b : ℤ) → pos 0 ≤ℤ a → pos 0 ≤ℤ b → pos 0 ≤ℤ (a *ℤ b)
both-plus (pos m) (pos n) i j = Ring.below (natural 0) (times (natural m) (natural n)) (omega arith)
both-plus (negsuc m) b i j = absurd (omega (arith, ints, i))
both-plus (pos m) (negsuc n) i j = absurd (omega (arith, ints, j))

pub record IsUpTo (x m : ℤ) : Type 0 where
  pub least : neg_ℤ m ≤ℤ x
  pub most : x ≤ℤ m

-- the product of two numbers is at most that of their greatest sizes
pub bounded_product : (x y m b : ℤ) → IsUpTo x m → IsUpTo y b → (x *ℤ y) ≤ℤ (m *ℤ b)
bounded_product x y m b i j =
    let p = both-plus (m +ℤ neg_ℤ x) (b +ℤ y) (room-low m x i.most) (room-high b y j.least) in
    let q = both-plus (m +ℤ x) (b +ℤ neg_ℤ y) (room-high m x i.least) (room-low b y j.most) in
    Ring.below (times (atom x) (atom y)) (times (atom m) (atom b))
    (omega (
      arith,
      read_below (natural 0) (times (plus (atom m) (minus (atom x))) (plus (atom b) (atom y))) p,
      read_below (natural 0) (times (plus (atom m) (atom x)) (plus (atom b) (minus (atom y)))) q,
    ))
  where
    room-low : (m x : ℤ) → x ≤ℤ m → pos 0 ≤ℤ (m +ℤ neg_ℤ x)
    room-low m x i = Ring.below (natural 0) (plus (atom m) (minus (atom x))) (omega (arith, read_below (atom x) (atom m) i))

    room-high : (m x : ℤ) → neg_ℤ m ≤ℤ x → pos 0 ≤ℤ (m +ℤ x)
    room-high m x i = Ring.below (natural 0) (plus (atom m) (atom x)) (omega (arith, read_below (minus (atom m)) (atom x) i))

-- x lies between l and h
pub record IsIn (l h x : ℤ) : Type 0 where
  pub from : l ≤ℤ x
  pub to : x ≤ℤ h

apart : (l h a x x' : ℤ) → (h +ℤ neg_ℤ l) ≤ℤ a → IsIn l h x → IsIn l h x' → IsUpTo (x +ℤ neg_ℤ x') a
apart l h a x x' d i j = record {
  least = Ring.below (minus (atom a)) (plus (atom x) (minus (atom x'))) (omega (arith, read_below (plus (atom h) (minus (atom l))) (atom a) d, read_below (atom l) (atom x) i.from, read_below (atom x') (atom h) j.to));
  most = Ring.below (plus (atom x) (minus (atom x'))) (atom a) (omega (arith, read_below (plus (atom h) (minus (atom l))) (atom a) d, read_below (atom x) (atom h) i.to, read_below (atom l) (atom x') j.from));
}

-- two products of what lies between narrow ends
pub products_apart : (l h l' h' a b m m' x y x' y' : ℤ) → (h +ℤ neg_ℤ l) ≤ℤ a → (h' +ℤ neg_ℤ l') ≤ℤ b → IsIn l h x → IsIn l' h' y → IsIn l h x' → IsIn l' h' y' → IsUpTo x m → IsUpTo y' m' →
    ((x *ℤ y) +ℤ neg_ℤ (x' *ℤ y')) ≤ℤ ((m *ℤ b) +ℤ (m' *ℤ a))
products_apart l h l' h' a b m m' x y x' y' d d' i j i' j' u u' =
    Ring.below (plus (times (atom x) (atom y)) (minus (times (atom x') (atom y')))) (plus (times (atom m) (atom b)) (times (atom m') (atom a)))
    (omega (
      arith,
      read_below (times (atom x) (plus (atom y) (minus (atom y')))) (times (atom m) (atom b)) (bounded_product x (y +ℤ neg_ℤ y') m b u (apart l' h' b y y' d' j j')),
      read_below (times (atom y') (plus (atom x) (minus (atom x')))) (times (atom m') (atom a)) (bounded_product y' (x +ℤ neg_ℤ x') m' a u' (apart l h a x x' d i i')),
    ))

-- two squares of what lies between narrow ends
pub squares_apart : (l h a m x x' : ℤ) → (h +ℤ neg_ℤ l) ≤ℤ a → IsIn l h x → IsIn l h x' → IsUpTo x m → IsUpTo x' m → ((x *ℤ x) +ℤ neg_ℤ (x' *ℤ x')) ≤ℤ ((pos 2 *ℤ m) *ℤ a)
squares_apart l h a m x x' d i i' u u' =
    Ring.below (plus (times (atom x) (atom x)) (minus (times (atom x') (atom x')))) (times (times (natural 2) (atom m)) (atom a))
    (omega (
      arith,
      read_below (times (plus (atom x) (atom x')) (plus (atom x) (minus (atom x')))) (times (times (natural 2) (atom m)) (atom a))
          (bounded_product (x +ℤ x') (x +ℤ neg_ℤ x') (pos 2 *ℤ m) a (twice m x x' u u') (apart l h a x x' d i i')),
    ))
  where
    twice : (m x x' : ℤ) → IsUpTo x m → IsUpTo x' m → IsUpTo (x +ℤ x') (pos 2 *ℤ m)
    twice m x x' u u' = record {
      least = Ring.below (minus (times (natural 2) (atom m))) (plus (atom x) (atom x')) (omega (arith, read_below (minus (atom m)) (atom x) u.least, read_below (minus (atom m)) (atom x') u'.least));
      most = Ring.below (plus (atom x) (atom x')) (times (natural 2) (atom m)) (omega (arith, read_below (atom x) (atom m) u.most, read_below (atom x') (atom m) u'.most));
    }

-- a square of what lies between narrow ends around 0
pub square_around : (l h a m x : ℤ) → (h +ℤ neg_ℤ l) ≤ℤ a → l ≤ℤ pos 0 → pos 0 ≤ℤ h → IsIn l h x → IsUpTo x m → (x *ℤ x) ≤ℤ ((pos 2 *ℤ m) *ℤ a)
square_around l h a m x d n p i u =
    let k = bounded_product x x m a u (whole l h a x d n p i) in
    let e = both-plus m a (size m x u) (side l h a d n p) in
    Ring.below (times (atom x) (atom x)) (times (times (natural 2) (atom m)) (atom a))
    (omega (arith, read_below (times (atom x) (atom x)) (times (atom m) (atom a)) k, read_below (natural 0) (times (atom m) (atom a)) e))
  where
    size : (m x : ℤ) → IsUpTo x m → pos 0 ≤ℤ m
    size m x u = Ring.below (natural 0) (atom m) (omega (arith, read_below (minus (atom m)) (atom x) u.least, read_below (atom x) (atom m) u.most))

    side : (l h a : ℤ) → (h +ℤ neg_ℤ l) ≤ℤ a → l ≤ℤ pos 0 → pos 0 ≤ℤ h → pos 0 ≤ℤ a
    side l h a d n p = Ring.below (natural 0) (atom a) (omega (arith, read_below (plus (atom h) (minus (atom l))) (atom a) d, read_below (atom l) (natural 0) n, read_below (natural 0) (atom h) p))

    whole : (l h a x : ℤ) → (h +ℤ neg_ℤ l) ≤ℤ a → l ≤ℤ pos 0 → pos 0 ≤ℤ h → IsIn l h x → IsUpTo x a
    whole l h a x d n p i = record {
      least = Ring.below (minus (atom a)) (atom x) (omega (arith, read_below (plus (atom h) (minus (atom l))) (atom a) d, read_below (natural 0) (atom h) p, read_below (atom l) (atom x) i.from));
      most = Ring.below (atom x) (atom a) (omega (arith, read_below (plus (atom h) (minus (atom l))) (atom a) d, read_below (atom l) (natural 0) n, read_below (atom x) (atom h) i.to));
    }

-- ---- the corners

-- an end is a product of numbers between l and h, and between l' and h'
pub record IsCorner (l h l' h' : ℤ) (e : End) : Type 0 where
  pub x : ℤ
  pub y : ℤ
  pub x_in : IsIn l h x
  pub y_in : IsIn l' h' y
  pub is : e ≡ at (fine (x *ℤ y))

lesser-corner : (l h l' h' : ℤ) (e f : End) → IsCorner l h l' h' e → IsCorner l h l' h' f → IsCorner l h l' h' (lesser e f)
lesser-corner l h l' h' e f i j = go (end_at_most e f)
  where
    go : (t : Bool) → IsCorner l h l' h' (cond t e f)
    go true = i
    go false = j

greater-corner : (l h l' h' : ℤ) (e f : End) → IsCorner l h l' h' e → IsCorner l h l' h' f → IsCorner l h l' h' (greater e f)
greater-corner l h l' h' e f i j = go (end_at_most e f)
  where
    go : (t : Bool) → IsCorner l h l' h' (cond t f e)
    go true = j
    go false = i

low-in : (l h : ℤ) → l ≤ℤ h → IsIn l h l
low-in l h o = record { from = omega (arith, ints); to = o }

high-in : (l h : ℤ) → l ≤ℤ h → IsIn l h h
high-in l h o = record { from = o; to = omega (arith, ints) }

fine-order : (n n' : ℤ) → ◌⊑◌ (at (fine n)) (at (fine n')) → n ≤ℤ n'
fine-order n n' h = Ring.below (atom n) (atom n') (omega (arith, read_below (times (atom n) (natural (2 ^ 120 * 2 ^ 120))) (times (atom n') (natural (2 ^ 120 * 2 ^ 120))) (at_most_read (fine n) (fine n') h)))

module _ (l h l' h' : Dyadic) (o : l.units ≤ℤ h.units) (o' : l'.units ≤ℤ h'.units) where
  abbrev first : End
  first = end_product (at (exact l)) (at (exact l'))

  abbrev second : End
  second = end_product (at (exact l)) (at (exact h'))

  abbrev third : End
  third = end_product (at (exact h)) (at (exact l'))

  abbrev fourth : End
  fourth = end_product (at (exact h)) (at (exact h'))

  abbrev pub least : End
  least = least_of_four end_product (at (exact l)) (at (exact h)) (at (exact l')) (at (exact h'))

  abbrev pub greatest : End
  greatest = greatest_of_four end_product (at (exact l)) (at (exact h)) (at (exact l')) (at (exact h'))

  corner-of : (x y : Dyadic) → IsIn l.units h.units x.units → IsIn l'.units h'.units y.units → IsCorner l.units h.units l'.units h'.units (end_product (at (exact x)) (at (exact y)))
  corner-of x y i j = record { x = x.units; y = y.units; x_in = i; y_in = j; is = ap at (product_is_fine x y) }

  one : IsCorner l.units h.units l'.units h'.units (end_product (at (exact l)) (at (exact l')))
  one = corner-of l l' (low-in l.units h.units o) (low-in l'.units h'.units o')

  two : IsCorner l.units h.units l'.units h'.units (end_product (at (exact l)) (at (exact h')))
  two = corner-of l h' (low-in l.units h.units o) (high-in l'.units h'.units o')

  three : IsCorner l.units h.units l'.units h'.units (end_product (at (exact h)) (at (exact l')))
  three = corner-of h l' (high-in l.units h.units o) (low-in l'.units h'.units o')

  four : IsCorner l.units h.units l'.units h'.units (end_product (at (exact h)) (at (exact h')))
  four = corner-of h h' (high-in l.units h.units o) (high-in l'.units h'.units o')

  pub least_corner : IsCorner l.units h.units l'.units h'.units least
  least_corner = lesser-corner l.units h.units l'.units h'.units (lesser first second) (lesser third fourth)
      (lesser-corner l.units h.units l'.units h'.units first second one two) (lesser-corner l.units h.units l'.units h'.units third fourth three four)

  pub greatest_corner : IsCorner l.units h.units l'.units h'.units greatest
  greatest_corner = greater-corner l.units h.units l'.units h'.units (greater first second) (greater third fourth)
      (greater-corner l.units h.units l'.units h'.units first second one two) (greater-corner l.units h.units l'.units h'.units third fourth three four)

  good : (x y : Dyadic) → Good (end_product (at (exact x)) (at (exact y)))
  good x y = subst (λ (q : Fraction). IsFraction q) (sym (product_is_fine x y)) (fine_is_fraction (x.units *ℤ y.units))

  below-first : ◌⊑◌ least first
  below-first = lesser_below (lesser first second) (lesser third fourth) first (good_lesser first second (good l l') (good l h')) (good_lesser third fourth (good h l') (good h h'))
      (inl (lesser_below first second first (good l l') (good l h') (inl (end_refl first))))

  first-below : ◌⊑◌ first greatest
  first-below = greater_above (greater first second) (greater third fourth) first (good_greater first second (good l l') (good l h')) (good_greater third fourth (good h l') (good h h'))
      (inl (greater_above first second first (good l l') (good l h') (inl (end_refl first))))

  pub corners_in_order : (least_corner.x *ℤ least_corner.y) ≤ℤ (greatest_corner.x *ℤ greatest_corner.y)
  corners_in_order = fine-order (least_corner.x *ℤ least_corner.y) (greatest_corner.x *ℤ greatest_corner.y)
      (subst (λ (e : End). ◌⊑◌ e (at (fine (greatest_corner.x *ℤ greatest_corner.y)))) least_corner.is
      (subst (λ (e : End). ◌⊑◌ least e) greatest_corner.is (end_trans least first greatest (good l l') below-first first-below)))

-- ---- squares

-- the two ends of a square: one of its ends' squares, or 0 below it where 0 lies between them
pub record AreSquares (l h : Dyadic) (least-end greatest-end : End) : Type 0 where
  pub low : ℤ
  pub high : ℤ
  pub low_is : rounded_down least-end ≡ down (fine low)
  pub high_is : greatest-end ≡ at (fine high)
  pub ordered : low ≤ℤ high
  pub apart : (m a : ℤ) → (h.units +ℤ neg_ℤ l.units) ≤ℤ a → IsUpTo l.units m → IsUpTo h.units m → (high +ℤ neg_ℤ low) ≤ℤ ((pos 2 *ℤ m) *ℤ a)

square-plus : (z : ℤ) → pos 0 ≤ℤ (z *ℤ z)
square-plus (pos n) = both-plus (pos n) (pos n) (omega (arith, ints)) (omega (arith, ints))
square-plus (negsuc n) = Ring.below (natural 0) (times (minus (natural (suc n))) (minus (natural (suc n)))) (omega arith)

one-of : (l h : Dyadic) (t : Bool) → l.units ≤ℤ h.units → end_at_most (at (fine (l.units *ℤ l.units))) (at (fine (h.units *ℤ h.units))) ≡ t → AreSquares l h
    (cond t (at (fine (l.units *ℤ l.units))) (at (fine (h.units *ℤ h.units)))) (cond t (at (fine (h.units *ℤ h.units))) (at (fine (l.units *ℤ l.units))))
one-of l h true o e = record {
  low = l.units *ℤ l.units;
  high = h.units *ℤ h.units;
  low_is = refl;
  high_is = refl;
  ordered = fine-order (l.units *ℤ l.units) (h.units *ℤ h.units) e;
  apart = λ m a d u v. squares_apart l.units h.units a m h.units l.units d (high-in l.units h.units o) (low-in l.units h.units o) v u;
}
one-of l h false o e = record {
  low = h.units *ℤ h.units;
  high = l.units *ℤ l.units;
  low_is = refl;
  high_is = refl;
  ordered = fine-order (h.units *ℤ h.units) (l.units *ℤ l.units) (other_way (at (fine (l.units *ℤ l.units))) (at (fine (h.units *ℤ h.units))) e);
  apart = λ m a d u v. squares_apart l.units h.units a m l.units h.units d (low-in l.units h.units o) (high-in l.units h.units o) u v;
}

-- around 0
around : (l h : Dyadic) (t : Bool) → l.units ≤ℤ h.units → l.units ≤ℤ pos 0 → pos 0 ≤ℤ h.units →
    AreSquares l h (at zero_fraction) (cond t (at (fine (h.units *ℤ h.units))) (at (fine (l.units *ℤ l.units))))
around l h true o n p = record {
  low = pos 0;
  high = h.units *ℤ h.units;
  low_is = refl;
  high_is = refl;
  ordered = square-plus h.units;
  apart = λ m a d u v. less (h.units *ℤ h.units) ((pos 2 *ℤ m) *ℤ a) (square_around l.units h.units a m h.units d n p (high-in l.units h.units o) v);
}
  where
    less : (s b : ℤ) → s ≤ℤ b → (s +ℤ neg_ℤ (pos 0)) ≤ℤ b
    less s b h = Ring.below (plus (atom s) (minus (natural 0))) (atom b) (omega (arith, read_below (atom s) (atom b) h))
around l h false o n p = record {
  low = pos 0;
  high = l.units *ℤ l.units;
  low_is = refl;
  high_is = refl;
  ordered = square-plus l.units;
  apart = λ m a d u v. less (l.units *ℤ l.units) ((pos 2 *ℤ m) *ℤ a) (square_around l.units h.units a m l.units d n p (low-in l.units h.units o) u);
}
  where
    less : (s b : ℤ) → s ≤ℤ b → (s +ℤ neg_ℤ (pos 0)) ≤ℤ b
    less s b h = Ring.below (plus (atom s) (minus (natural 0))) (atom b) (omega (arith, read_below (atom s) (atom b) h))

pub squares : (l h : Dyadic) → l.units ≤ℤ h.units → AreSquares l h (least_square (at (exact l)) (at (exact h))) (greatest_square (at (exact l)) (at (exact h)))
squares l h o =
    rw (product_is_fine l l, product_is_fine h h)
    (go (end_at_most (at (exact l)) (at zero_fraction) && end_at_most (at zero_fraction) (at (exact h))) refl)
  where
    below-nought : (d : Dyadic) → IsTrue (at_most (exact d) zero_fraction) → d.units ≤ℤ pos 0
    below-nought d k = Ring.below (atom d.units) (natural 0) (omega (arith, read_below (times (atom d.units) (natural 1)) (times (natural 0) (natural (2 ^ 120))) (at_most_read (exact d) zero_fraction k)))

    above-nought : (d : Dyadic) → IsTrue (at_most zero_fraction (exact d)) → pos 0 ≤ℤ d.units
    above-nought d k = Ring.below (natural 0) (atom d.units) (omega (arith, read_below (times (natural 0) (natural (2 ^ 120))) (times (atom d.units) (natural 1)) (at_most_read zero_fraction (exact d) k)))

    go : (t : Bool) → (end_at_most (at (exact l)) (at zero_fraction) && end_at_most (at zero_fraction) (at (exact h))) ≡ t →
        AreSquares l h (cond t (at zero_fraction) (lesser (at (fine (l.units *ℤ l.units))) (at (fine (h.units *ℤ h.units))))) (greater (at (fine (l.units *ℤ l.units))) (at (fine (h.units *ℤ h.units))))
    go true e = let k = both_true (end_at_most (at (exact l)) (at zero_fraction)) (end_at_most (at zero_fraction) (at (exact h))) e in
        around l h (end_at_most (at (fine (l.units *ℤ l.units))) (at (fine (h.units *ℤ h.units)))) o (below-nought l k.0) (above-nought h k.1)
    go false e = one-of l h (end_at_most (at (fine (l.units *ℤ l.units))) (at (fine (h.units *ℤ h.units)))) o refl
