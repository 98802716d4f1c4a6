-- Two watched literals a clause (Moskewicz, Madigan, Zhao, Zhang, Malik 2001), over fixed lists of the clauses of each literal.
use Rattle.std.specs.Prelude.{◌≡◌, ℕ, ◌+◌, ◌<◌, ◌≤◌, List, drop, length, All, Contains, IsTrue, Some, slice_get, vec_len}
use Rattle.std.specs.declared.vec.Vec.{Vec}
use Rattle.std.specs.declared.alloc.Global.{Global}
use Rattle.clause_search.specs.declared.literal.Literal.{Literal}
use Rattle.clause_search.specs.Clauses.{Cnf}
use Rattle.clause_search.specs.declared.table.Table.{Table}
use Rattle.clause_search.specs.declared.watches.Watches.{Watches}
use Rattle.clause_search.specs.declared.clause.Found.{Found}
use Rattle.clause_search.specs.declared.clause.Found.TheVariants.{Settled, Unit as Single, Conflict}
use Rattle.clause_search.specs.Table.{opposite, is_true, is_undecided, value_for, SetsOne}
use Rattle.clause_search.specs.Found.{UnitAmong, ConflictAmong}
use Rattle.clause_search.specs.Lists.{list_at, code_of, AreListed}
use Rattle.clause_search.specs.Pairs.{IsGuarded}

-- the clauses that hold the literal
abbrev pub list_of : Watches → Literal → List ℕ
list_of w l = list_at w.lists (code_of w.atoms w.axes l)

-- clause i will be looked at for the literal, whose opposite is in the queue
pub record IsPending (lists : Vec (Vec ℕ Global) Global) (atoms axes : ℕ) (queue : List Literal) (next at i : ℕ) (l : Literal) : Type 0 where
  pub place : ℕ
  pub ahead : next ≤ place
  pub queued : slice_get queue place ≡ Some (opposite l)
  pub unseen : place ≡ next → Contains (drop at (list_at lists (code_of atoms axes l))) i

abbrev pub GuardedIn : Cnf → Table → (ℕ → Literal → Type 0) → List Literal → List Literal → ℕ → Type 0
GuardedIn c values pending first second i = (clause : List Literal) (x y : Literal) → slice_get c.clauses i ≡ Some clause → slice_get first i ≡ Some x → slice_get second i ≡ Some y → IsGuarded values (pending i) clause x y

abbrev pub AllGuarded : Cnf → Table → (ℕ → Literal → Type 0) → List Literal → List Literal → ℕ → Type 0
AllGuarded c values pending first second n = (i : ℕ) → i < n → GuardedIn c values pending first second i

-- there is a place for the watched literals of each clause, and each clause is in the lists of its literals
pub record HasLists (c : Cnf) (w : Watches) : Type 0 where
  pub firsts : vec_len w.first ≡ length c.clauses
  pub seconds : vec_len w.second ≡ length c.clauses
  pub same_atoms : w.atoms ≡ c.atoms
  pub same_axes : w.axes ≡ c.axes
  pub listed : AreListed c w.lists

pub record IsWatching (c : Cnf) (values : Table) (w : Watches) : Type 0 where
  pub lists_hold : HasLists c w
  pub few : w.started ≤ length c.clauses
  pub queue_ahead : w.next ≤ length w.queue.items
  pub fresh : w.next ≡ length w.queue.items → w.at ≡ 0
  pub queued_true : All (λ (l : Literal). IsTrue (is_true values l)) w.queue.items
  pub guarded : AllGuarded c values (IsPending w.lists w.atoms w.axes w.queue.items w.next w.at) w.first.items w.second.items w.started

-- watches from now on a table in which this literal has become true
abbrev pub IsWatchingAlso : Watches → Watches → Literal → Type 0
IsWatchingAlso v w l = (c : Cnf) (t u : Table) → IsWatching c t v → SetsOne t u l.variable (value_for l.positive) → IsTrue (is_undecided t l.variable) → IsWatching c u w

-- a step at one clause: the clause is settled and the next one is due, or what is seen follows
abbrev pub StepSays : Cnf → Table → ℕ → ℕ → Found → Type 0
StepSays c values before after Settled = after ≡ before + 1
StepSays c values before after (Single l) = UnitAmong c values l
StepSays c values before after Conflict = ConflictAmong c values

-- the same literals are in the queue, and the same one is due
pub record SameQueue (v w : Watches) : Type 0 where
  pub same_lists : w.lists ≡ v.lists
  pub same_queue : w.queue.items ≡ v.queue.items
  pub same_next : w.next ≡ v.next
  pub same_started : w.started ≡ v.started
  pub atoms_stay : w.atoms ≡ v.atoms
  pub axes_stay : w.axes ≡ v.axes

-- all clauses of a literal's list are settled, or what is seen follows
abbrev pub ListSays : Cnf → Table → Watches → Literal → Found → Type 0
ListSays c values w l Settled = length (list_of w l) ≤ w.at
ListSays c values w l (Single m) = UnitAmong c values m
ListSays c values w l Conflict = ConflictAmong c values

-- so many clauses are started, and nothing is pending
pub record IsThrough (w : Watches) (n : ℕ) : Type 0 where
  pub all_started : w.started ≡ n
  pub none_due : length w.queue.items ≤ w.next

abbrev pub StartsAll : Cnf → Table → Watches → Found → Type 0
StartsAll c values w Settled = w.started ≡ length c.clauses
StartsAll c values w (Single m) = UnitAmong c values m
StartsAll c values w Conflict = ConflictAmong c values

abbrev pub VisitsAll : Cnf → Table → Watches → Found → Type 0
VisitsAll c values w Settled = IsThrough w (length c.clauses)
VisitsAll c values w (Single m) = UnitAmong c values m
VisitsAll c values w Conflict = ConflictAmong c values
