-- Where a space has a point, so has its middle.
use Rattle.std.proofs.Common.{List, [], ◌∷◌, true, false, not, IsTrue, refl, sym, true≢false, lit<}
use Rattle.dyadic.specs.Fraction.{at_most}
use Rattle.dyadic.specs.Point.{Sort, real_sort, bool_sort, Coordinate, at_fraction, at_bool, IsPoint}
use Rattle.dyadic.specs.Rounding.{exact, mid}
use Rattle.dyadic.proofs.Equal.{both_true, both_pass}
use Rattle.interval_model.proofs.EndsProducts.{at_most_refl}
use Rattle.interval_model.specs.Space.{Domain, real_domain, bool_domain, Space, in_domain, in_space, middle_domain, middle}

-- the middle of an axis that has this coordinate
abbrev middle_coordinate : Domain → Coordinate → Coordinate
middle_coordinate (real_domain l h) (at_fraction q) = at_fraction (exact (mid l h))
middle_coordinate (bool_domain f t) (at_bool b) = at_bool (not f)
middle_coordinate _ c = c

-- a point of the middle of a space that has a point
abbrev pub middle_point : Space → List Coordinate → List Coordinate
middle_point (d ∷ space) (c ∷ point) = middle_coordinate d c ∷ middle_point space point
middle_point _ point = point

in-middle-domain : (d : Domain) (c : Coordinate) → IsTrue (in_domain d c) → IsTrue (in_domain (middle_domain d) (middle_coordinate d c))
in-middle-domain (real_domain l h) (at_fraction q) i = let m = exact (mid l h) in both_pass (at_most m m) (at_most m m) (at_most_refl m) (at_most_refl m)
in-middle-domain (bool_domain true t) (at_bool b) i = refl
in-middle-domain (bool_domain false t) (at_bool true) i = i
in-middle-domain (bool_domain false t) (at_bool false) i = absurd (true≢false (sym i))
in-middle-domain (real_domain l h) (at_bool b) i = absurd (true≢false (sym i))
in-middle-domain (bool_domain f t) (at_fraction q) i = absurd (true≢false (sym i))

pub in_middle : (space : Space) (point : List Coordinate) → IsTrue (in_space space point) → IsTrue (in_space (middle space) (middle_point space point))
in_middle [] [] i = refl
in_middle [] (c ∷ point) i = absurd (true≢false (sym i))
in_middle (d ∷ space) [] i = absurd (true≢false (sym i))
in_middle (d ∷ space) (c ∷ point) i = let e = both_true (in_domain d c) (in_space space point) i in
    both_pass (in_domain (middle_domain d) (middle_coordinate d c)) (in_space (middle space) (middle_point space point)) (in-middle-domain d c e.0) (in_middle space point e.1)

pub middle_is_point : (sorts : List Sort) (space : Space) (point : List Coordinate) → IsPoint sorts point → IsTrue (in_space space point) → IsPoint sorts (middle_point space point)
middle_is_point [] [] [] f i = tt
middle_is_point [] (d ∷ space) [] f i = tt
middle_is_point (real_sort ∷ sorts) (real_domain l h ∷ space) (at_fraction q ∷ point) f i = (lit< tt, middle_is_point sorts space point f.1 (both_true (in_domain (real_domain l h) (at_fraction q)) (in_space space point) i).1)
middle_is_point (real_sort ∷ sorts) (bool_domain t u ∷ space) (at_fraction q ∷ point) f i = absurd (true≢false (sym i))
middle_is_point (bool_sort ∷ sorts) (bool_domain t u ∷ space) (at_bool b ∷ point) f i = middle_is_point sorts space point f (both_true (in_domain (bool_domain t u) (at_bool b)) (in_space space point) i).1
middle_is_point (bool_sort ∷ sorts) (real_domain l h ∷ space) (at_bool b ∷ point) f i = absurd (true≢false (sym i))
middle_is_point (s ∷ sorts) [] (c ∷ point) f i = absurd (true≢false (sym i))
middle_is_point (real_sort ∷ sorts) space (at_bool b ∷ point) f i = elim f [ ]
middle_is_point (bool_sort ∷ sorts) space (at_fraction q ∷ point) f i = elim f [ ]
middle_is_point (real_sort ∷ sorts) space [] f i = elim f [ ]
middle_is_point (bool_sort ∷ sorts) space [] f i = elim f [ ]
middle_is_point [] space (c ∷ point) f i = elim f [ ]
