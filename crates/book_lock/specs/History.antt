-- Histories of calls.
use Rattle.std.specs.Prelude.{◌≡◌, ℕ, ◌==◌, if◌then◌else◌, List, [], ◌∷◌}
use Rattle.book_lock.specs.declared.views.Entry.{Entry}

module _ {C R : Type 0} where
  abbrev pub entry : ℕ → C → R → Entry C R
  entry n c r = record { seat = n; call = c; reply = r }

  -- the calls of one seat, in their order
  abbrev pub calls_by : ℕ → List (Entry C R) → List (Entry C R)
  calls_by n [] = []
  calls_by n (e ∷ es) = if e.seat == n then e ∷ calls_by n es else calls_by n es

module _ {O C R : Type 0} (meets : O → C → Type 0) (steps : O → C → R → O → Type 0) where
  -- these calls, each allowed and answered as one thread's would be, lead from the first object to the last
  abbrev pub IsHistory : O → List (Entry C R) → O → Type 0
  IsHistory b [] b' = b' ≡ b
  IsHistory b (e ∷ es) b' = (m : O) × meets b e.call × steps b e.call e.reply m × IsHistory m es b'

  abbrev pub IsLegal : O → List (Entry C R) → Type 0
  IsLegal b log = (b' : O) × IsHistory b log b'
