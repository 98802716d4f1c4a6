-- The law of a pool: what was put is what was taken and what is left, and nobody takes another's ids out of their order.
use Rattle.std.specs.Prelude.{◌≡◌, ◌==◌, ℕ, ◌+◌, ◌-◌, ◌≤◌, if◌then◌else◌, Some, All, List, [], sum_by, slice_get, slice_index_or}
use Rattle.crossbeam_deque.specs.Handles.{worker_view}
use Rattle.steal_pool.specs.declared.hand.Hand.{Hand}
use Rattle.steal_pool.specs.declared.rule.DequeView.{DequeView}
use Rattle.steal_pool.specs.Law.{weigh, weigh_all, weigh_of, IsSub}
use Rattle.steal_pool.specs.Account.{Account}

-- 1 at x, and else 0
abbrev pub one_at : ℕ → ℕ → ℕ
one_at x y = if y == x then 1 else 0

-- how often x stands in a list
abbrev pub times : ℕ → List ℕ → ℕ
times x xs = weigh (one_at x) xs

-- how often a hand pushed x, and how often it took x, of its own deque or of others
abbrev pub pushed_times : ℕ → Account → ℕ
pushed_times x a = times x a.pushed

abbrev pub taken_times : ℕ → Account → ℕ
taken_times x a = times x a.popped + weigh_all (one_at x) a.stolen

-- The law of all hands of a pool, where an id x is left so many times: each id was pushed as often as it was taken and is left. What a hand took of its own deque, and what it took of another's, are subsequences of what the deque's owner pushed
pub record PoolLaw (hands : List Account) (left : ℕ → ℕ) : Type 0 where
  pub balanced : (x : ℕ) → sum_by (taken_times x) hands + left x ≡ sum_by (pushed_times x) hands
  pub popped : All (λ a. IsSub a.popped a.pushed) hands
  pub stolen : (j k : ℕ) (a b : Account) → slice_get hands j ≡ Some a → slice_get hands k ≡ Some b → IsSub (slice_index_or a.stolen k []) b.pushed

-- what the owner of a deque knows
abbrev pub own_view : Hand → DequeView
own_view h = worker_view h.own.worker

-- the owner knows its deque whole, and no more was taken than was put, however the ids are weighed
pub record IsSettled (h : Hand) : Type 0 where
  pub whole : (own_view h).parts ≡ 65
  pub bounded : (f : ℕ → ℕ) → weigh_of f (own_view h) ≤ weigh f (own_view h).put

-- how often x was put into a deque, and was taken from it
abbrev pub put_in : ℕ → DequeView → ℕ
put_in x v = times x v.put

abbrev pub taken_from : ℕ → DequeView → ℕ
taken_from x v = weigh_of (one_at x) v

-- how often x is left in deques that are known whole
abbrev pub left_in : List DequeView → ℕ → ℕ
left_in views x = sum_by (put_in x) views - sum_by (taken_from x) views
