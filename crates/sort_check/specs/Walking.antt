-- What is left to be done while the sort of an expression is found, and what that comes to.
use Rattle.std.specs.Prelude.{◌≡◌, ℕ, List, [], ◌∷◌, ◌++◌, true, Result, Ok, Err, is_some, map}
use Rattle.script_model.specs.Sexp as sexp
use Rattle.script_model.specs.Reading.{Names, value, meaning, meanings, bound_names, binding_meanings}
use Rattle.smt_sexp.specs.Arena.{expression_at, rest_of}
use Rattle.smt_sexp.specs.Views.{place_of}
use Rattle.smt_sexp.specs.declared.sexps.Sexps as arena
use Rattle.smt_script.specs.Views.{parameter_of, sort_of}
use Rattle.smt_script.specs.declared.command.Parameter.{Parameter}
use Rattle.smt_script.specs.declared.command.Sort as code_sort
use Rattle.sort_check.specs.Calls.{Top}
use Rattle.sort_check.specs.Forms.{bound_from}
use Rattle.sort_check.specs.Sorts.{Sorted, of_sort, ill, sorting, first_ill, or_first, first_of_two, parameter_names}
use Rattle.sort_check.specs.Views.{Knows, around, fault_of, head_sort, names_back, sorts_seen}
use Rattle.sort_check.specs.declared.names.Head.{Head}
use Rattle.sort_check.specs.declared.stop.Stop.{Stop}
use Rattle.sort_check.specs.declared.stop.Stop.TheVariants as stops
use Rattle.sort_check.specs.declared.frames.Call.{Call}
use Rattle.sort_check.specs.declared.frames.Let.{Let}
use Rattle.sort_check.specs.declared.frames.Frame.{Frame}
use Rattle.sort_check.specs.declared.frames.Frame.TheVariants as frame
use Rattle.sort_check.specs.declared.frames.Next.{Next}
use Rattle.sort_check.specs.declared.frames.Next.TheVariants as next

-- ---- calls

-- the sort of a call at arguments of these sorts, or their first fault
abbrev pub call_sort : sexp.Place → Head → List Sorted → Sorted
call_sort at h said = or_first (first_ill said) (head_sort at h said)

-- the sorts of the arguments that are left
abbrev pub arguments_left : arena.Sexps → Names Sorted → Call → List Sorted
arguments_left s names c = meanings sorting (around c.locals.value names) (rest_of s c.next)

-- what a call comes to, whose first arguments have sorts
abbrev pub Calls : arena.Sexps → Names Sorted → Call → Sorted → Type 0
Calls s names c t = t ≡ call_sort (place_of c.place) c.head (sorts_seen c.sorts.items ++ arguments_left s names c)

-- the same, where the next argument is in work, which has this sort
abbrev pub CallWaits : arena.Sexps → Names Sorted → Call → Sorted → Sorted → Type 0
CallWaits s names c u t = t ≡ call_sort (place_of c.place) c.head (sorts_seen c.sorts.items ++ (u ∷ arguments_left s names c))

-- ---- `let`

-- the names of the bindings that are left
abbrev pub bindings_left : arena.Sexps → Names Sorted → Let → Names Sorted
bindings_left s names l = binding_meanings sorting (around l.locals.value names) (rest_of s l.next)

-- the body's sort, where the bindings are these
abbrev pub body_sort : arena.Sexps → Names Sorted → Let → Names Sorted → Sorted
body_sort s names l bound = meaning sorting (bound ++ around l.locals.value names) (expression_at s l.body)

abbrev pub names_bound : List Parameter → Names Sorted
names_bound ps = parameter_names (map parameter_of ps)

-- the first names that a `let` binds, the last first
abbrev pub bound_before : Let → List (List ℕ)
bound_before l = names_back (map parameter_of l.bound) []

-- what stands behind the bound names
abbrev pub IsFormed : arena.Sexps → Let → Type 0
IsFormed s l = is_some (bound_names (rest_of s l.next)) ≡ true

-- what a `let` comes to, whose first names are bound
abbrev pub Lets : arena.Sexps → Names Sorted → Let → Sorted → Type 0
Lets s names l t =
    IsFormed s l × (t ≡ bound_from (bound_before l) (around l.locals.value names) (rest_of s l.next) (body_sort s names l (names_bound l.bound ++ bindings_left s names l)))

-- the same, where this name is to be bound to this sort
abbrev pub LetWaits : arena.Sexps → Names Sorted → Let → List ℕ → Sorted → Sorted → Type 0
LetWaits s names l x u t =
    IsFormed s l × (t ≡ first_of_two u (bound_from (x ∷ bound_before l) (around l.locals.value names) (rest_of s l.next) (body_sort s names l (names_bound l.bound ++ ((x, value u) ∷ bindings_left s names l)))))

-- ---- turns

-- what waits comes to, behind this sort
abbrev pub Waits : arena.Sexps → Names Sorted → Frame → Sorted → Sorted → Type 0
Waits s names (frame.Call c) u t = CallWaits s names c u t
Waits s names (frame.Let l at x) u t = LetWaits s names l x.now u t

-- it comes to this sort where this is done next
abbrev pub Leaves : arena.Sexps → Names Sorted → Next → Sorted → Type 0
Leaves s names (next.Back sort) t = t ≡ of_sort (sort_of sort)
Leaves s names (next.Enter locals at) t = t ≡ meaning sorting (around locals.value names) (expression_at s at)
Leaves s names (next.Wait f locals at) t = Waits s names f (meaning sorting (around locals.value names) (expression_at s at)) t

abbrev pub Turns : arena.Sexps → Names Sorted → Sorted → Result Next Stop → Type 0
Turns s names t (Ok n) = Leaves s names n t
Turns s names t (Err (stops.Fault at f)) = t ≡ ill (place_of at) (fault_of f)
Turns s names t (Err stops.Memory) = Unit {0}

-- the same by the names that stand around an expression
abbrev pub TurnsIn : {S : Type 0} → arena.Sexps → Top S → List Parameter → (Names Sorted → Sorted) → Result Next Stop → Type 0
TurnsIn s top locals f r = (names : Names Sorted) → Knows top names → Turns s names (f (around locals names)) r

-- a sort that is found goes back
abbrev pub returned : Result code_sort.Sort Stop → Result Next Stop
returned (Ok sort) = Ok (next.Back sort)
returned (Err stop) = Err stop
