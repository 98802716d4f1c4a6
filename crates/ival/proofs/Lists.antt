-- Lists of intervals and of domains, place by place.
use Rattle.std.proofs.Common.{◌≡◌, ℕ, zero, suc, ◌+◌, ◌<◌, ◌≤◌, [], ◌∷◌, map, length, replicate, get_or, set, add-one, Bool, IsTrue, refl, ap, sym, arith, true≢false}
use Rattle.interval_model.specs.Space.{Domain, Space, changed, test_axis, middle_domain, domain_interval, axis_interval}
use Rattle.interval_model.specs.Interval.{nothing}

pub map_replicate : {X Y : Type 0} (f : X → Y) (x : X) (n : ℕ) → map f (replicate n x) ≡ replicate n (f x)
map_replicate f x zero = refl
map_replicate f x (suc n) = ap (λ t. f x ∷ t) (map_replicate f x n)

pub test_bound : (f : Domain → Bool) (i : ℕ) (space : Space) → IsTrue (test_axis f i space) → i < length space
test_bound f i [] h = absurd (true≢false (sym h))
test_bound f zero (d ∷ space) h = omega arith
test_bound f (suc i) (d ∷ space) h = let k = test_bound f i space h in omega (arith, k)

pub test_at : (f : Domain → Bool) (i : ℕ) (space : Space) (d : Domain) → IsTrue (test_axis f i space) → IsTrue (f (get_or space i d))
test_at f i [] d h = absurd (true≢false (sym h))
test_at f zero (d' ∷ space) d h = h
test_at f (suc i) (d' ∷ space) d h = test_at f i space d h

pub changed_is : (f : Domain → Domain) (i : ℕ) (space : Space) (d : Domain) → changed f i space ≡ set space i (f (get_or space i d))
changed_is f i [] d = refl
changed_is f zero (d' ∷ space) d = refl
changed_is f (suc i) (d' ∷ space) d = ap (λ t. d' ∷ t) (changed_is f i space d)

-- ---- middles, axis by axis: those of the first so many axes, and what stood there before of the others

abbrev pub middles : ℕ → Space → Space → Space
middles zero xs ys = ys
middles (suc i) (x ∷ xs) (y ∷ ys) = middle_domain x ∷ middles i xs ys
middles (suc i) xs ys = ys

pub middles_step : (i : ℕ) (xs ys : Space) (d : Domain) → i < length xs → i < length ys → set (middles i xs ys) i (middle_domain (get_or xs i d)) ≡ middles (suc i) xs ys
middles_step zero (x ∷ xs) (y ∷ ys) d h k = refl
middles_step (suc i) (x ∷ xs) (y ∷ ys) d h k = ap (λ t. middle_domain x ∷ t) (middles_step i xs ys d (omega (arith, h)) (omega (arith, k)))
middles_step i [] ys d h k = absurd (omega (arith, h))
middles_step i (x ∷ xs) [] d h k = absurd (omega (arith, k))

pub middles_next : (i : ℕ) (xs ys : Space) (d : Domain) → i < length xs → i < length ys → set (middles i xs ys) i (middle_domain (get_or xs i d)) ≡ middles (i + 1) xs ys
middles_next i xs ys d h k = rw add-one (middles_step i xs ys d h k)

pub middles_end : (xs ys : Space) → length xs ≡ length ys → middles (length xs) xs ys ≡ map middle_domain xs
middles_end [] [] h = refl
middles_end (x ∷ xs) (y ∷ ys) h = ap (λ t. middle_domain x ∷ t) (middles_end xs ys (omega (arith, h)))
middles_end [] (y ∷ ys) h = absurd (omega (arith, h))
middles_end (x ∷ xs) [] h = absurd (omega (arith, h))

pub length_middles : (i : ℕ) (xs ys : Space) → length (middles i xs ys) ≡ length ys
length_middles zero xs ys = refl
length_middles (suc i) (x ∷ xs) (y ∷ ys) = let k = length_middles i xs ys in omega (arith, k)
length_middles (suc i) [] ys = refl
length_middles (suc i) (x ∷ xs) [] = refl

-- ---- what is left to an axis by number

pub interval_at : (space : Space) (k : ℕ) (d : Domain) → k < length space → axis_interval space k ≡ domain_interval (get_or space k d)
interval_at [] k d h = absurd (omega arith)
interval_at (d' ∷ space) zero d h = refl
interval_at (d' ∷ space) (suc k) d h = interval_at space k d (omega arith)

pub no_interval : (space : Space) (k : ℕ) → length space ≤ k → axis_interval space k ≡ nothing
no_interval [] k h = refl
no_interval (d ∷ space) zero h = absurd (omega arith)
no_interval (d ∷ space) (suc k) h = no_interval space k (omega arith)
