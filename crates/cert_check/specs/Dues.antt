-- What is due in the code as the definitions see it. Of the states that stay open or stuck the code keeps the number.
use Rattle.std.specs.Prelude.{◌≡◌, ℕ, ◌≤◌, List, [], Option, Some, map, replicate, length, drop, All, Result, Ok, Err, IsTrue}
use Rattle.cover_model.specs.State.{State}
use Rattle.cover_model.specs.Rules as rules
use Rattle.cover_model.specs.Rules.{open_line}
use Rattle.cert_read.specs.CertLine.{CertLine}
use Rattle.poly_graph.specs.ProblemViews.{Parts, problem_of}
use Rattle.ival.specs.declared.space.Space.{Space}
use Rattle.ival.specs.SpaceViews.{space_of, capacity_of}
use Rattle.cert_model.specs.Due.{Standing, Value, at_point, left_open, Due, version_due, margin_due, delta_due, bound_due, kind_due, next_due, yes_due, no_due, lemma_due, root_due, tree_due, end_due, nothing_due, NextOf, Next, on, faulty, axis_next, coordinate_next, all_below, CertFault, after_rule, after_lemma_rule, tree_goes_on, lemma_goes_on}
use Rattle.cert_model.specs.Accepted.{next}
use Rattle.cert_check.specs.declared.standing.Lemma as code
use Rattle.cert_check.specs.declared.pending.Pending.{Pending}
use Rattle.cert_check.specs.declared.loosenings.Loosenings.{Loosenings}
use Rattle.cert_check.specs.declared.due.Cover.{Cover}
use Rattle.cert_check.specs.declared.due.Tree.{Tree}
use Rattle.cert_check.specs.declared.due.Value as value
use Rattle.cert_check.specs.declared.due.Value.TheVariants as kept
use Rattle.cert_check.specs.declared.due.Due as held
use Rattle.cert_check.specs.declared.due.Due.TheVariants as due
use Rattle.cert_check.specs.declared.refusal.Refusal.{Refusal}
use Rattle.cert_check.specs.States.{state_of, lemma_of, loosenings_of, Fits}
use Rattle.cert_check.specs.Behind.{pending_of}
use Rattle.cert_check.specs.Faults.{IsLineRefusal}

-- ---- states that stay

abbrev pub blank : Standing
blank = record { state = record { space = []; marks = [] }; does = open_line }

abbrev pub blanks : ℕ → List Standing
blanks n = replicate n blank

abbrev pub lean_left : List Standing → List Standing
lean_left left = blanks (length left)

abbrev pub lean_value : Value → Value
lean_value (at_point space) = at_point space
lean_value (left_open left) = left_open (lean_left left)

-- without the states that stay
abbrev pub lean : Due → Due
lean (tree_due s lemmas S pending done) = tree_due s lemmas S pending (lean_left done)
lean (end_due s lemmas v) = end_due s lemmas (lean_value v)
lean (nothing_due s lemmas v) = nothing_due s lemmas (lean_value v)
lean d = d

abbrev pub next_map : {D E : Type 0} → (D → E) → NextOf D → NextOf E
next_map f (on d) = on (f d)
next_map f (faulty g) = faulty g

abbrev pub lean_next : Next → Next
lean_next x = next_map lean x

-- ---- views

abbrev pub value_of : value.Value → Value
value_of (kept.Point space) = at_point (space_of space)
value_of (kept.Left Ls n) = left_open (blanks n)

-- the lemmas of a cover; a point has none
abbrev pub lemmas_of : value.Value → List State
lemmas_of (kept.Point space) = []
lemmas_of (kept.Left Ls n) = Ls

abbrev pub due_of : Parts → held.Due → Due
due_of p due.Version = version_due
due_of p (due.Margin v) = margin_due v
due_of p (due.Delta v m) = delta_due v m
due_of p (due.Bound s) = bound_due (loosenings_of s)
due_of p (due.Kind s) = kind_due (loosenings_of s)
due_of p (due.Next c) = next_due (loosenings_of c.loosenings) c.count c.lemmas
due_of p (due.Axis c space) = axis_next (loosenings_of c.loosenings) c.count c.lemmas (drop (length (space_of space)) p.axes) (space_of space)
due_of p (due.No c space js) = no_due (loosenings_of c.loosenings) c.count c.lemmas (space_of space) js.items
due_of p (due.Lemma c L t) = lemma_due (loosenings_of c.loosenings) c.count c.lemmas (lemma_of L) (state_of t.state) (pending_of t.pending)
due_of p (due.Root c) = root_due (loosenings_of c.loosenings) c.lemmas
due_of p (due.Tree c t n) = tree_due (loosenings_of c.loosenings) c.lemmas (state_of t.state) (pending_of t.pending) (blanks n)
due_of p (due.Coordinate s space) = coordinate_next (loosenings_of s) (drop (length (space_of space)) p.axes) (space_of space)
due_of p (due.End c n) = end_due (loosenings_of c.loosenings) c.lemmas (left_open (blanks n))
due_of p (due.Nothing s v) = nothing_due (loosenings_of s) (lemmas_of v) (value_of v)

-- ---- what holds of the states in work

abbrev pub AllFit : Parts → List State → Type 0
AllFit p Ls = All (Fits p) Ls

pub record IsTree (p : Parts) (t : Tree) : Type 0 where
  pub state : Fits p (state_of t.state)
  pub pending : All (Fits p) (pending_of t.pending)

-- the space has room for the axes that are missing
pub record HasRoom (p : Parts) (axes capacity : ℕ) : Type 0 where
  pub within : axes ≤ length p.axes
  pub room : length p.axes ≤ capacity

abbrev pub IsSound : Parts → held.Due → Type 0
IsSound p (due.Next c) = AllFit p c.lemmas
IsSound p (due.Axis c space) = AllFit p c.lemmas × HasRoom p (length (space_of space)) (capacity_of space)
IsSound p (due.No c space js) = AllFit p c.lemmas × (length (space_of space) ≡ length p.axes) × IsTrue (all_below (length p.atoms) js.items)
IsSound p (due.Lemma c L t) = AllFit p c.lemmas × Fits p (lemma_of L) × IsTree p t
IsSound p (due.Root c) = AllFit p c.lemmas
IsSound p (due.Tree c t n) = AllFit p c.lemmas × IsTree p t
IsSound p (due.Coordinate s space) = HasRoom p (length (space_of space)) (capacity_of space)
IsSound p (due.End c n) = AllFit p c.lemmas
IsSound p (due.Nothing s v) = AllFit p (lemmas_of v)
IsSound p d = Unit {0}

-- ---- what comes of a line

-- the outcome of a line: what is due next, or its fault
abbrev pub IsOutcome : Parts → Result held.Due Refusal → Next → Type 0
IsOutcome p (Ok d) x = lean_next x ≡ on (due_of p d)
IsOutcome p (Err r) x = IsLineRefusal r x

-- the outcome of a line where this is due and the words give this bound
abbrev pub IsNextAt : Parts → Option ℕ → Due → CertLine → Result held.Due Refusal → Type 0
IsNextAt p bound d line r = IsOutcome p r (next (problem_of p) bound d line)

-- the same at every bound
abbrev pub IsNextOf : Parts → Due → CertLine → Result held.Due Refusal → Type 0
IsNextOf p d line r = (bound : Option ℕ) → IsNextAt p bound d line r

-- the same where the code holds what is due
abbrev pub IsNext : Parts → held.Due → CertLine → Result held.Due Refusal → Type 0
IsNext p d line r = IsNextOf p (due_of p d) line r

-- the same for every problem
abbrev pub IsNextAnywhere : held.Due → CertLine → Result held.Due Refusal → Type 0
IsNextAnywhere d line r = (p : Parts) → IsNext p d line r

-- `yes` of a lemma's state whose space is whole
abbrev pub yes_of : Cover → Space → Due
yes_of c space = yes_due (loosenings_of c.loosenings) c.count c.lemmas (space_of space)

-- `end` of a point whose space is whole
abbrev pub end_of_point : Loosenings → Space → Due
end_of_point s space = end_due (loosenings_of s) [] (at_point (space_of space))

-- the first line of the tree of a lemma with this state
abbrev pub begun_lemma : Cover → code.Lemma → Next
begun_lemma c L = on (lemma_due (loosenings_of c.loosenings) c.count c.lemmas (lemma_of L) (lemma_of L) [])

-- what is due after a rule of the main tree that leaves this, with what is due where it fails
abbrev pub after_main_rule : Cover → Pending → ℕ → rules.Left → CertFault → Standing → Next
after_main_rule c pending stayed left f x =
    after_rule (Some left) f x (pending_of pending) (blanks stayed) (tree_goes_on (loosenings_of c.loosenings) c.lemmas)

-- what is due after a rule of the tree of a lemma with this state
abbrev pub after_rule_of_lemma : Cover → code.Lemma → Pending → rules.Left → CertFault → Next
after_rule_of_lemma c L pending left f =
    after_lemma_rule (Some left) f (pending_of pending) (lemma_goes_on (loosenings_of c.loosenings) c.count c.lemmas (lemma_of L))
