-- The first fault of a script's bytes, over all that is done with them: its size, its text, its commands, its names
-- and sorts, its checks, and the building of what is in force at them. A script is read as it is written; where that has
-- a fault it is read with roots: constants stand for its roots and quotients. Where both have one, `told` says which.
use Rattle.std.specs.Prelude.{ℕ, List, [], ◌∷◌, length, Bool, true, false, ◌&&◌, ◌||◌, Option, Some, None, cond, nat_eq, nat_le, nat_lt}
use Rattle.script_model.specs.Sexp.{Place}
use Rattle.script_model.specs.Script.{Command}
use Rattle.script_fault.specs.declared.fault.FaultKind.{FaultKind}
use Rattle.script_fault.specs.declared.fault.FaultKind.TheVariants.{NumberTooWide, SortMismatch, DivisorNotConstant, ZeroDivisor, NoBound, BoundTooWide, LeftOut, TooMany}
use Rattle.script_fault.specs.declared.fault.ScriptFault.{ScriptFault}
use Rattle.script_fault.specs.declared.limit.Limit.{Limit}
use Rattle.script_fault.specs.declared.limit.Limit.TheVariants.{Size, Nodes, Atoms, Forms}
use Rattle.smt_sexp.specs.Lexicon.{TextRead, whole, faulty, read}
use Rattle.smt_sexp.specs.TextAnswers.{fault_at, text_kind, too_many_bytes}
pub use Rattle.smt_sexp.specs.TextAnswers.{most_bytes}
use Rattle.smt_script.specs.Commands.{CommandsRead, steps, command_fault, steps_of}
use Rattle.smt_script.specs.Levels.{Asked, Step, checks_of}
use Rattle.smt_script.specs.CommandAnswers.{command_kind}
use Rattle.sort_check.specs.Sorts.{Finding, sort_fault}
use Rattle.sort_check.specs.Levels.{course_fault, course_fault_with_roots}
use Rattle.sort_check.specs.Single.{asked_fault}
use Rattle.sort_check.specs.SortAnswers.{finding_fault, sort_kind}
use Rattle.script_forms.specs.Terms as terms
use Rattle.script_forms.specs.Terms.{Fault}
use Rattle.script_forms.specs.Walk as walk
use Rattle.script_forms.specs.Walk.{BuildingFault, building_fault}
use Rattle.script_roots.specs.Refused.{Refusal, too_large, left_out_form, refusal}
use Rattle.script_roots.specs.Rewritten.{rewritten}

-- ---- the kinds of a building's faults; those of the other parts stand with these

-- a script whose sorts are right meets no ill formed expression
abbrev pub unfolding_kind : Fault → FaultKind
unfolding_kind (terms.number_too_wide at) = NumberTooWide
unfolding_kind (terms.divisor_not_constant at) = DivisorNotConstant
unfolding_kind (terms.zero_divisor at) = ZeroDivisor
unfolding_kind (terms.ill_formed at) = SortMismatch

abbrev pub building_kind : BuildingFault → FaultKind
building_kind (walk.unfolds_not x) = unfolding_kind x
building_kind walk.too_large = TooMany Size
building_kind walk.too_many_nodes = TooMany Nodes
building_kind walk.too_many_atoms = TooMany Atoms
building_kind walk.too_many_forms = TooMany Forms
building_kind (walk.lacks_bound name) = NoBound name
building_kind (walk.bound_beyond name) = BoundTooWide name

-- ---- one part after the other

abbrev pub in_building : Option (Place × BuildingFault) → Option ScriptFault
in_building None = None
in_building (Some (at, x)) = Some (fault_at at (building_kind x))

-- where the last part is this one of the checks
abbrev pub by_sorts : (List Asked → Option ScriptFault) → List Step → Finding → Option ScriptFault
by_sorts last ss (Some (at, x)) = Some (fault_at at (sort_kind x))
by_sorts last ss None = last (checks_of ss)

-- where this finds the fault of names and sorts
abbrev pub by_commands : (List Step → Finding) → (List Asked → Option ScriptFault) → CommandsRead → Option ScriptFault
by_commands sorts last (command_fault at x) = Some (fault_at at (command_kind x))
by_commands sorts last (steps ss) = by_sorts last ss (sorts ss)

abbrev pub by_text : (List Step → Finding) → (List Asked → Option ScriptFault) → TextRead → Option ScriptFault
by_text sorts last (faulty at x) = Some (fault_at at (text_kind x))
by_text sorts last (whole es) = by_commands sorts last (steps_of es)

abbrev pub by_bytes : (List Step → Finding) → (List Asked → Option ScriptFault) → List ℕ → Option ScriptFault
by_bytes sorts last text = cond (nat_le (length text) most_bytes) (by_text sorts last (read text)) (Some too_many_bytes)

abbrev pub first_of : Option ScriptFault → Option ScriptFault → Option ScriptFault
first_of (Some x) later = Some x
first_of None later = later

-- ---- as it is written, with one check

-- the building of what is in force at the only check
abbrev pub in_checks : Option ℕ → List Asked → Option ScriptFault
in_checks bound (a ∷ []) = in_building (building_fault bound a.script)
in_checks bound asked = asked_fault asked

abbrev pub in_sorts : Option ℕ → List Step → Finding → Option ScriptFault
in_sorts bound ss x = by_sorts (in_checks bound) ss x

abbrev pub in_commands : Option ℕ → CommandsRead → Option ScriptFault
in_commands bound r = by_commands course_fault (in_checks bound) r

abbrev pub in_text : Option ℕ → TextRead → Option ScriptFault
in_text bound r = by_text course_fault (in_checks bound) r

-- where the words give this bound; a second check is a fault
abbrev pub plain_script_fault : Option ℕ → List ℕ → Option ScriptFault
plain_script_fault bound text = by_bytes course_fault (in_checks bound) text

-- ---- as it is written, with any number of checks

-- the building of what is in force at each check, one after the other
abbrev pub in_each_check : Option ℕ → List Asked → Option ScriptFault
in_each_check bound [] = None
in_each_check bound (a ∷ later) = first_of (in_building (building_fault bound a.script)) (in_each_check bound later)

abbrev pub plain_session_fault : Option ℕ → List ℕ → Option ScriptFault
plain_session_fault bound text = by_bytes course_fault (in_each_check bound) text

-- ---- with roots

abbrev pub refusal_kind : Refusal → FaultKind
refusal_kind too_large = TooMany Size
refusal_kind left_out_form = LeftOut

abbrev pub in_refusal : Option (Place × Refusal) → Option ScriptFault
in_refusal None = None
in_refusal (Some (at, x)) = Some (fault_at at (refusal_kind x))

-- of commands whose roots and quotients are replaced: that they cannot be, the names and sorts of the commands with constants
-- in their place, and the building of these
abbrev pub in_rewriting : Option ℕ → List Command → Option ScriptFault
in_rewriting bound script = first_of (in_refusal (refusal bound script))
    (first_of (finding_fault (sort_fault (rewritten bound script))) (in_building (building_fault bound (rewritten bound script))))

-- at the only check
abbrev pub in_rewritten : Option ℕ → List Asked → Option ScriptFault
in_rewritten bound (a ∷ []) = in_rewriting bound a.script
in_rewritten bound asked = asked_fault asked

-- at each check, one after the other
abbrev pub in_each_rewritten : Option ℕ → List Asked → Option ScriptFault
in_each_rewritten bound [] = None
in_each_rewritten bound (a ∷ later) = first_of (in_rewriting bound a.script) (in_each_rewritten bound later)

abbrev pub rooted_script_fault : Option ℕ → List ℕ → Option ScriptFault
rooted_script_fault bound text = by_bytes course_fault_with_roots (in_rewritten bound) text

abbrev pub rooted_session_fault : Option ℕ → List ℕ → Option ScriptFault
rooted_session_fault bound text = by_bytes course_fault_with_roots (in_each_rewritten bound) text

-- ---- which fault is told

abbrev pub is_of_building : Limit → Bool
is_of_building Size = true
is_of_building Nodes = true
is_of_building Atoms = true
is_of_building Forms = true
is_of_building _ = false

-- what the building meets and no constant in the place of a root or a quotient mends
abbrev pub stays : FaultKind → Bool
stays NumberTooWide = true
stays ZeroDivisor = true
stays (NoBound name) = true
stays (BoundTooWide name) = true
stays (TooMany limit) = is_of_building limit
stays _ = false

abbrev pub is_divisor : FaultKind → Bool
is_divisor DivisorNotConstant = true
is_divisor _ = false

-- there is more than constants can be put into
abbrev pub is_size : FaultKind → Bool
is_size (TooMany Size) = true
is_size _ = false

abbrev pub stands_before : ScriptFault → ScriptFault → Bool
stands_before x y = nat_lt x.at.line y.at.line || (nat_eq x.at.line y.at.line && nat_lt x.at.column y.at.column)

-- Of the fault of a script as it is written, and that with roots: whether the former is told. So it is where roots mend nothing of it, and where it is a
-- divisor that stands before the place from which on the script is too large for constants.
abbrev pub is_told : ScriptFault → ScriptFault → Bool
is_told x y = stays x.kind || (is_divisor x.kind && is_size y.kind && stands_before x y)

abbrev pub told : ScriptFault → ScriptFault → ScriptFault
told x y = cond (is_told x y) x y

-- ---- the first fault

-- there is none where there is none in one of the two readings
abbrev pub unless_plain : Option ScriptFault → Option ScriptFault → Option ScriptFault
unless_plain None rooted = None
unless_plain (Some x) None = None
unless_plain (Some x) (Some y) = Some (told x y)

-- the first fault of a script with one check, where the words give this bound; a second check is one
abbrev pub script_fault : Option ℕ → List ℕ → Option ScriptFault
script_fault bound text = unless_plain (plain_script_fault bound text) (rooted_script_fault bound text)

-- the first fault of a script with any number of checks, where the words give this bound
abbrev pub session_fault : Option ℕ → List ℕ → Option ScriptFault
session_fault bound text = unless_plain (plain_session_fault bound text) (rooted_session_fault bound text)
