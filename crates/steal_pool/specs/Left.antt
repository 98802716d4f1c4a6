-- What is left in the deques of hands that were gathered.
use Rattle.std.specs.Prelude.{ℕ, map}
use Rattle.steal_pool.specs.declared.gathered.Gathered.{Gathered}
use Rattle.steal_pool.specs.PoolLaw.{own_view, left_in}

-- how often the id x is left
abbrev pub times_left : Gathered → ℕ → ℕ
times_left g x = left_in (map own_view g.hands.items) x
