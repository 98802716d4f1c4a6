-- Sums by place, and the same by rows and by columns.
use Rattle.std.proofs.Common.{◌≡◌, ℕ, zero, suc, ◌+◌, ◌<◌, ◌≤◌, List, [], ◌∷◌, length, get_or, map, sum_by, refl, arith}
use Rattle.std.proofs.lemmas.List.Sums.{sum_by-cons}
use Rattle.steal_pool.specs.declared.deque.Link.{Link}
use Rattle.steal_pool.specs.declared.hand.Hand.{Hand}
use Rattle.steal_pool.specs.declared.rule.DequeView.{DequeView}
use Rattle.steal_pool.specs.Law.{weigh, weigh_all, total}
use Rattle.steal_pool.specs.Account.{taken_by}
use Rattle.steal_pool.specs.Gathering.{column}

-- f of each number below n, added up
pub upto : ℕ → (ℕ → ℕ) → ℕ
upto zero f = 0
upto (suc n) f = f 0 + upto n (λ k. f (suc k))

pub upto_plus : (n : ℕ) (f g : ℕ → ℕ) → upto n (λ k. f k + g k) ≡ upto n f + upto n g
unfolding upto
upto_plus zero f g = refl
upto_plus (suc n) f g = let t = upto_plus n (λ k. f (suc k)) (λ k. g (suc k)) in omega (arith, t)

pub upto_none : (n : ℕ) → upto n (λ _. 0) ≡ 0
unfolding upto
upto_none zero = refl
upto_none (suc n) = let t = upto_none n in omega (arith, t)

module _ {A : Type 0} where
  -- a sum over a row is the sum by place
  pub sum_upto : (f : A → ℕ) (xs : List A) (n : ℕ) (g : ℕ → ℕ) → length xs ≡ n → ((k : ℕ) (d : A) → k < n → f (get_or xs k d) ≡ g k) → sum_by f xs ≡ upto n g
  unfolding upto
  sum_upto f [] zero g len same = refl
  sum_upto f [] (suc n) g len same = absurd (omega arith)
  sum_upto f (x ∷ xs) zero g len same = absurd (omega arith)
  sum_upto f (x ∷ xs) (suc n) g len same =
      let c = sum_by-cons f x xs in
      let a : f x ≡ g 0 = same 0 x (omega arith) in
      let t = sum_upto f xs n (λ k. g (suc k)) (omega arith) (λ k d h. same (suc k) d (omega arith)) in
      omega (arith, c, a, t)

-- what was taken through the links of a row, added up by place
upto_links : (w : ℕ → ℕ) (e : Link) (ls : List Link) (n : ℕ) → length ls ≡ n → upto n (λ k. weigh w (taken_by (get_or ls k e))) ≡ weigh_all w (map taken_by ls)
unfolding upto
upto_links w e [] zero len = refl
upto_links w e [] (suc n) len = absurd (omega arith)
upto_links w e (l ∷ ls) zero len = absurd (omega arith)
upto_links w e (l ∷ ls) (suc n) len = let t = upto_links w e ls n (omega arith) in omega (arith, t)

abbrev pub taken_weight : (ℕ → ℕ) → DequeView → ℕ
taken_weight w v = weigh w v.taken

abbrev pub stolen_weight : (ℕ → ℕ) → Hand → ℕ
stolen_weight w h = weigh_all w (map taken_by h.links.items)

-- by columns it is as much as by rows
pub by_columns : (w : ℕ → ℕ) (e : Link) (n : ℕ) (hs : List Hand) → ((j : ℕ) (d : Hand) → j < length hs → length (get_or hs j d).links.items ≡ n)
    → upto n (λ k. total (taken_weight w) (column e k hs)) ≡ sum_by (stolen_weight w) hs
by_columns w e n [] wide = upto_none n
by_columns w e n (h ∷ hs) wide =
    let c = sum_by-cons (stolen_weight w) h hs in
    let p = upto_plus n (λ k. weigh w (taken_by (get_or h.links.items k e))) (λ k. total (taken_weight w) (column e k hs)) in
    let one = upto_links w e h.links.items n (wide 0 h (omega arith)) in
    let t = by_columns w e n hs (λ j d below. wide (suc j) d (omega arith)) in
    omega (arith, c, p, one, t)

pub upto_le : (n : ℕ) (f g : ℕ → ℕ) → ((k : ℕ) → k < n → f k ≤ g k) → upto n f ≤ upto n g
unfolding upto
upto_le zero f g less = omega arith
upto_le (suc n) f g less = let a = less 0 (omega arith) in let t = upto_le n (λ k. f (suc k)) (λ k. g (suc k)) (λ k h. less (suc k) (omega arith)) in omega (arith, a, t)
