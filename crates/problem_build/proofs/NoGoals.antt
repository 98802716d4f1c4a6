-- A script without a goal among its steps has none at its check; the goal of a session.
use Rattle.std.proofs.Common.{◌≡◌, ℕ, zero, suc, List, [], ◌∷◌, ◌++◌, Bool, true, false, cond, Option, Some, None, refl, ap, sym, ◌∙◌, subst, map, length}
use Rattle.std.specs.List.{AllByRecursion}
use Rattle.std.specs.Prelude.{slice_get}
use Rattle.std.proofs.Math.Nat.{suc_inj, suc-ne-zero}
use Rattle.script_model.specs.Reading.{Meanings, Names, unknown, value}
use Rattle.script_model.specs.Sexp.{Place, Sexp, leaf, symbol}
use Rattle.script_model.specs.Script.{Command, declare, define, claim, minimize, check, ineffective, defined, goals, first_of, sorts_of}
use Rattle.script_model.specs.Declared.{numbered}
use Rattle.interval_model.specs.Interval.{Interval, nothing, between}
use Rattle.script_roots.specs.Fresh.{Table, asserted_from}
use Rattle.script_roots.specs.Ranges.{Ranges, enclosed, quotient_range}
use Rattle.script_roots.specs.Rewritten.{assertion, between_ends, claims_of, claims_of_all, declaration, declarations, rewritten, rewritten_by, script_table, unless_empty}
use Rattle.script_roots.specs.Tree as tree
use Rattle.script_roots.specs.Tree.{Tree, atomic, applied, root, quotient, formless, theory_names}
use Rattle.script_roots.specs.TreeBounds.{declared_ranges}
use Rattle.script_forms.specs.Atoms.{constant_tree, goal_atom, numbered_goal, only_term, script_atoms}
use Rattle.script_forms.specs.Terms.{Unfolded}
use Rattle.script_forms.specs.Unfolded.{as_tree}
use Rattle.script_fault.specs.Answers.{IsFaultOrMemory}
use Rattle.script_fault.specs.declared.fault.ReadError.{ReadError}
use Rattle.script_fault.specs.declared.fault.ReadError.TheVariants.{Fault, Memory}
use Rattle.script_fault.specs.declared.fault.ScriptFault.{ScriptFault}
use Rattle.smt_script.specs.Commands.{CommandsRead, steps}
use Rattle.smt_script.specs.CommandAnswers.{commands_fault}
use Rattle.smt_script.specs.Levels.{Asked, Levels, Step, command, opens, closes, resets, asks_values, after_step, asked_from, asked_here, checks_of, closed_to, no_levels, only_script, opened}
use Rattle.sort_check.specs.Single.{asked_fault}
use Rattle.poly_graph.specs.ProblemViews.{Parts, problem_of}
use Rattle.problem_session.specs.Session.{problems_of}
use Rattle.script_reading.specs.Goals.{goal_of_checks}
use Rattle.script_reading.specs.Built.{IsBuiltOf}
use Rattle.script_reading.specs.Session.{AreBuilt, carried_of, rewritten_at}
use Rattle.problem_build.specs.GoalStep.{has_goal, is_goal}

-- ---- commands without a goal

abbrev plain : Command → Bool
plain (minimize at t) = false
plain c = true

abbrev IsPlain : Command → Type 0
IsPlain c = plain c ≡ true

abbrev ArePlain : List Command → Type 0
ArePlain cs = AllByRecursion IsPlain cs

no-goals : {V : Type 0} (M : Meanings V) (names : Names V) (vs : List V) (script : List Command) → ArePlain script → goals M names vs script ≡ []
no-goals M names vs [] h = refl
no-goals M names [] (declare at x sort ∷ rest) h = no-goals M ((x, value (M.nothing at (unknown x))) ∷ names) [] rest h.1
no-goals M names (v ∷ vs) (declare at x sort ∷ rest) h = no-goals M ((x, value v) ∷ names) vs rest h.1
no-goals M names vs (define at f params sort body ∷ rest) h = no-goals M ((f, defined M names params body) ∷ names) vs rest h.1
no-goals M names vs (claim at e ∷ rest) h = no-goals M names vs rest h.1
no-goals M names vs (minimize at t ∷ rest) h = let no = h.0 in cc
no-goals M names vs (check at ∷ rest) h = no-goals M names vs rest h.1
no-goals M names vs (ineffective at ∷ rest) h = no-goals M names vs rest h.1

no-atom : (script : List Command) → ArePlain script → goal_atom script ≡ None
no-atom script h =
    ap (λ (us : List Unfolded). numbered_goal (script_atoms script) (only_term (first_of us))) (no-goals as_tree [] (numbered constant_tree 0 (sorts_of script)) script h)

-- ---- levels without a goal

record Plain-levels (l : Levels) : Type 0 where
  inner : ArePlain l.inner
  outer : AllByRecursion ArePlain l.outer

plain-more : (cs : List Command) (c : Command) → ArePlain cs → IsPlain c → ArePlain (cs ++ (c ∷ []))
plain-more [] c h p = (p, tt)
plain-more (d ∷ cs) c h p = (h.0, plain-more cs c h.1 p)

plain-opened : (n : ℕ) (l : Levels) → Plain-levels l → Plain-levels (opened n l)
plain-opened zero l h = h
plain-opened (suc n) l h = plain-opened n _ (record { inner = h.inner; outer = (h.inner, h.outer) })

plain-closed : (n : ℕ) (inner : List Command) (outer : List (List Command)) → ArePlain inner → AllByRecursion ArePlain outer → Plain-levels (closed_to n inner outer)
plain-closed zero inner outer h k = record { inner = h; outer = k }
plain-closed (suc n) inner [] h k = record { inner = h; outer = tt }
plain-closed (suc n) inner (cs ∷ outer) h k = plain-closed n cs outer k.0 k.1

-- a step that is no goal
plain-step : (l : Levels) (s : Step) → is_goal s ≡ false → Plain-levels l → Plain-levels (after_step l s)
plain-step l (command (declare at x sort)) e h = record { inner = plain-more l.inner (declare at x sort) h.inner refl; outer = h.outer }
plain-step l (command (define at f params sort body)) e h = record { inner = plain-more l.inner (define at f params sort body) h.inner refl; outer = h.outer }
plain-step l (command (claim at x)) e h = record { inner = plain-more l.inner (claim at x) h.inner refl; outer = h.outer }
plain-step l (command (minimize at t)) e h = cc
plain-step l (command (check at)) e h = h
plain-step l (command (ineffective at)) e h = h
plain-step l (opens at n) e h = plain-opened n l h
plain-step l (closes at n) e h = plain-closed n l.inner l.outer h.inner h.outer
plain-step l (resets at) e h = record { inner = tt; outer = tt }
plain-step l (asks_values at es) e h = h

-- ---- checks without a goal

abbrev IsPlainAsked : Asked → Type 0
IsPlainAsked a = ArePlain a.script

plain-append : (xs ys : List Asked) → AllByRecursion IsPlainAsked xs → AllByRecursion IsPlainAsked ys → AllByRecursion IsPlainAsked (xs ++ ys)
plain-append [] ys h k = k
plain-append (x ∷ xs) ys h k = (h.0, plain-append xs ys h.1 k)

plain-here : (l : Levels) (s : Step) → Plain-levels l → AllByRecursion IsPlainAsked (asked_here l s)
plain-here l (command (check at)) h = (plain-more l.inner (check at) h.inner refl, tt)
plain-here l (command (declare at x sort)) h = tt
plain-here l (command (define at f params sort body)) h = tt
plain-here l (command (claim at x)) h = tt
plain-here l (command (minimize at t)) h = tt
plain-here l (command (ineffective at)) h = tt
plain-here l (opens at n) h = tt
plain-here l (closes at n) h = tt
plain-here l (resets at) h = tt
plain-here l (asks_values at es) h = tt

none-first : (b : Bool) (rest : Bool) → cond b true rest ≡ false → (b ≡ false) × (rest ≡ false)
none-first true rest e = cc
none-first false rest e = (refl, e)

plain-asked : (l : Levels) (told : List Step) → has_goal told ≡ false → Plain-levels l → AllByRecursion IsPlainAsked (asked_from l told)
plain-asked l [] e h = tt
plain-asked l (s ∷ rest) e h =
    let both = none-first (is_goal s) (has_goal rest) e in
    plain-append (asked_here l s) (asked_from (after_step l s) rest) (plain-here l s h) (plain-asked (after_step l s) rest both.1 (plain-step l s both.0 h))

none-of : (asked : List Asked) → AllByRecursion IsPlainAsked asked → goal_of_checks asked ≡ None
none-of [] h = refl
none-of (a ∷ []) h = no-atom a.script h.0
none-of (a ∷ b ∷ later) h = refl

-- where no step is a goal, no check has one
pub no_goal : (told : List Step) → has_goal told ≡ false → goal_of_checks (checks_of told) ≡ None
no_goal told e = none-of (checks_of told) (plain-asked no_levels told e (record { inner = tt; outer = tt }))

-- ---- where constants stand for roots and quotients

plain-both : (xs ys : List Command) → ArePlain xs → ArePlain ys → ArePlain (xs ++ ys)
plain-both [] ys h k = k
plain-both (x ∷ xs) ys h k = (h.0, plain-both xs ys h.1 k)

plain-declarations : (script : List Command) → ArePlain (declarations script)
plain-declarations [] = tt
plain-declarations (declare at x sort ∷ rest) = (refl, plain-declarations rest)
plain-declarations (define at f params sort body ∷ rest) = plain-declarations rest
plain-declarations (claim at e ∷ rest) = plain-declarations rest
plain-declarations (minimize at t ∷ rest) = plain-declarations rest
plain-declarations (check at ∷ rest) = plain-declarations rest
plain-declarations (ineffective at ∷ rest) = plain-declarations rest

plain-declared : (table : Table) → ArePlain (map declaration table)
plain-declared [] = tt
plain-declared (entry ∷ rest) = (refl, plain-declared rest)

plain-ends : (at : Place) (c : Sexp) (i : Interval) → ArePlain (between_ends at c i)
plain-ends at c nothing = (refl, (refl, tt))
plain-ends at c (between l h) = (refl, (refl, tt))

plain-claims : (ranges : Ranges) (table : Table) (name : List ℕ) (t : Tree) → ArePlain (claims_of ranges table name t)
plain-claims ranges table name (root at t) = (refl, (refl, (refl, tt)))
plain-claims ranges table name (quotient at t d) =
    plain-both (between_ends at (leaf at (symbol name)) (quotient_range (enclosed ranges t) (enclosed ranges d))) _
    (plain-ends at (leaf at (symbol name)) (quotient_range (enclosed ranges t) (enclosed ranges d))) (refl, tt)
plain-claims ranges table name (atomic at l) = tt
plain-claims ranges table name (applied at f ts) = tt
plain-claims ranges table name (formless at) = tt

plain-all-claims : (ranges : Ranges) (table rest : Table) → ArePlain (claims_of_all ranges table rest)
plain-all-claims ranges table [] = tt
plain-all-claims ranges table (entry ∷ rest) =
    plain-both (claims_of ranges table entry.0 entry.1) (claims_of_all ranges table rest) (plain-claims ranges table entry.0 entry.1) (plain-all-claims ranges table rest)

plain-asserted : (table : Table) (names : tree.Names) (script : List Command) → ArePlain script → ArePlain (map (assertion table) (asserted_from names script))
plain-asserted table names [] h = tt
plain-asserted table names (declare at x sort ∷ rest) h = plain-asserted table ((x, tree.tree (atomic at (symbol x))) ∷ names) rest h.1
plain-asserted table names (define at f params sort body ∷ rest) h = plain-asserted table ((f, tree.definition names params body) ∷ names) rest h.1
plain-asserted table names (claim at e ∷ rest) h = (refl, plain-asserted table names rest h.1)
plain-asserted table names (minimize at t ∷ rest) h = let no = h.0 in cc
plain-asserted table names (check at ∷ rest) h = plain-asserted table names rest h.1
plain-asserted table names (ineffective at ∷ rest) h = plain-asserted table names rest h.1

plain-by : (ranges : Ranges) (table : Table) (script : List Command) → ArePlain script → ArePlain (rewritten_by ranges table script)
plain-by ranges table script h =
    plain-both (declarations script ++ map declaration table ++ claims_of_all ranges table table) _
    (plain-both (declarations script ++ map declaration table) _ (plain-both (declarations script) _ (plain-declarations script) (plain-declared table)) (plain-all-claims ranges table table))
    (plain-asserted table theory_names script h)

plain-unless : (table : Table) (script other : List Command) → ArePlain script → ArePlain other → ArePlain (unless_empty table script other)
plain-unless [] script other h k = h
plain-unless (entry ∷ rest) script other h k = k

plain-rewritten : (bound : Option ℕ) (script : List Command) → ArePlain script → ArePlain (rewritten bound script)
plain-rewritten bound script h =
    let ranges = declared_ranges bound script in
    let table = script_table bound script in
    plain-unless table script (rewritten_by ranges table script) h (plain-by ranges table script h)

plain-checks : (bound : Option ℕ) (asked : List Asked) → AllByRecursion IsPlainAsked asked → AllByRecursion IsPlainAsked (map (rewritten_at bound) asked)
plain-checks bound [] h = tt
plain-checks bound (a ∷ later) h = (plain-rewritten bound a.script h.0, plain-checks bound later h.1)

-- where no step is a goal, no check has one
pub no_rooted_goal : (bound : Option ℕ) (told : List Step) → has_goal told ≡ false → goal_of_checks (map (rewritten_at bound) (checks_of told)) ≡ None
no_rooted_goal bound told e =
    none-of (map (rewritten_at bound) (checks_of told)) (plain-checks bound (checks_of told) (plain-asked no_levels told e (record { inner = tt; outer = tt })))

-- ---- the goal of a session

pub memory_only : (e : ReadError) (found : Option ScriptFault) → found ≡ None → IsFaultOrMemory e found → e ≡ Memory
memory_only (Fault f) found none h = let same : ◌≡◌ {A = Option ScriptFault} (Some f) None = sym h ∙ none in cc
memory_only Memory found none h = refl

pub same_steps : (r : CommandsRead) (a b : List Step) → r ≡ steps a → r ≡ steps b → a ≡ b
same_steps r a b e f = let same : steps a ≡ steps b = sym e ∙ f in cc

pub no_commands_fault : (r : CommandsRead) (told : List Step) → r ≡ steps told → commands_fault r ≡ None
no_commands_fault r told e = ap commands_fault e

-- not one check
pub several_have_none : (bound : Option ℕ) (asked : List Asked) (said : List Bool) (session : List (Parts × Bool)) → AreBuilt bound asked said (problems_of session) → (length session ≡ 1 → ⊥) → goal_of_checks asked ≡ None
several_have_none bound [] said session h many = refl
several_have_none bound (a ∷ []) (x ∷ []) (p ∷ []) h many = absurd (many refl)
several_have_none bound (a ∷ []) [] session h many = absurd h
several_have_none bound (a ∷ []) (x ∷ said) [] h many = absurd h
several_have_none bound (a ∷ []) (x ∷ y ∷ said) (p ∷ session) h many = absurd h.2
several_have_none bound (a ∷ []) (x ∷ []) (p ∷ q ∷ session) h many = absurd h.2
several_have_none bound (a ∷ b ∷ later) said session h many = refl

-- one check, and its problem
pub record OneCheck (bound : Option ℕ) (asked : List Asked) (p : Parts) : Type 0 where
  pub only : Asked
  pub are : asked ≡ only ∷ []
  pub built : IsBuiltOf bound only.script (problem_of p)

pub one_check : (bound : Option ℕ) (asked : List Asked) (said : List Bool) (session : List (Parts × Bool)) → AreBuilt bound asked said (problems_of session) → length session ≡ 1 →
    (p : Parts) → slice_get (map (λ (q : Parts × Bool). q.0) session) 0 ≡ Some p → OneCheck bound asked p
one_check bound (a ∷ []) (x ∷ []) (q ∷ []) h one p at =
    let is : q.0 ≡ p = cc in
    record { only = a; are = refl; built = subst (λ (r : Parts). IsBuiltOf bound a.script (problem_of r)) is h.0 }
one_check bound (a ∷ b ∷ asked) (x ∷ []) (q ∷ []) h one p at = absurd h.2
one_check bound (a ∷ b ∷ asked) (x ∷ y ∷ said) (q ∷ []) h one p at = absurd h.2
one_check bound (a ∷ []) (x ∷ y ∷ said) (q ∷ []) h one p at = absurd h.2
one_check bound [] [] (q ∷ []) h one p at = absurd h
one_check bound [] (x ∷ said) (q ∷ []) h one p at = absurd h
one_check bound (a ∷ asked) [] (q ∷ []) h one p at = absurd h
one_check bound asked said [] h one p at = cc
one_check bound asked said (q ∷ r ∷ session) h one p at = absurd (suc-ne-zero (length session) (suc_inj one))

pub one_asked_fault : (asked : List Asked) (a : Asked) → asked ≡ a ∷ [] → asked_fault asked ≡ None
one_asked_fault asked a e = ap asked_fault e

pub only_is : (asked : List Asked) (a : Asked) (cs : List Command) → asked ≡ a ∷ [] → only_script asked ≡ Some cs → cs ≡ a.script
only_is asked a cs e h = let same : ◌≡◌ {A = Option (List Command)} (Some a.script) (Some cs) = sym (ap only_script e) ∙ h in cc

pub goal_of_one : (asked : List Asked) (a : Asked) → asked ≡ a ∷ [] → goal_of_checks asked ≡ goal_atom a.script
goal_of_one asked a e = ap goal_of_checks e

-- the script of the only check, whose problem this is
module _ (bound : Option ℕ) (told told' : List Step) (session : List (Parts × Bool)) (built : AreBuilt bound (checks_of told) (carried_of told) (problems_of session)) (one : length session ≡ 1) (same : told' ≡ told)
    (cs : List Command) (only : only_script (checks_of told') ≡ Some cs) (p : Parts) (at : slice_get (map (λ (q : Parts × Bool). q.0) session) 0 ≡ Some p) where
  the-check : OneCheck bound (checks_of told) p
  the-check = one_check bound (checks_of told) (carried_of told) session built one p at

  its-script : cs ≡ the-check.only.script
  its-script = only_is (checks_of told) the-check.only cs the-check.are (ap (λ (ss : List Step). only_script (checks_of ss)) (sym same) ∙ only)

  pub only_built : IsBuiltOf bound cs (problem_of p)
  only_built = subst (λ (x : List Command). IsBuiltOf bound x (problem_of p)) (sym its-script) the-check.built

  pub only_goal : goal_of_checks (checks_of told) ≡ goal_atom cs
  only_goal = goal_of_one (checks_of told) the-check.only the-check.are ∙ ap goal_atom (sym its-script)

-- ---- a goal among steps

pub first_counts : (b : Bool) (s : Step) (rest : List Step) → b ≡ is_goal s → has_goal (s ∷ rest) ≡ cond b true (has_goal rest)
first_counts b s rest e = ap (λ (x : Bool). cond x true (has_goal rest)) (sym e)
