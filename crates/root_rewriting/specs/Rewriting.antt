-- The script that is made.
use Rattle.std.specs.Prelude.{◌≡◌, ◌≢◌, ℕ, List, [], ◌++◌, map, Option, Some, None}
use Rattle.dyadic.specs.Point.{real_sort}
use Rattle.script_fault.specs.declared.fault.FaultKind.{FaultKind}
use Rattle.script_fault.specs.declared.fault.FaultKind.TheVariants.{TooMany, LeftOut}
use Rattle.script_fault.specs.declared.fault.ScriptFault.{ScriptFault}
use Rattle.script_fault.specs.declared.limit.Limit.TheVariants.{Size}
use Rattle.script_model.specs.Sexp.{Place}
use Rattle.script_model.specs.Script.{Command, declare}
use Rattle.script_roots.specs.Fresh.{left_out}
use Rattle.script_roots.specs.Refused.{Refusal, too_large, left_out_form, refused_at, too_long}
use Rattle.script_roots.specs.Rewritten.{rewritten, script_table}
use Rattle.smt_script.specs.Views.{sort_of}
use Rattle.smt_sexp.specs.TextAnswers.{fault_at}
use Rattle.smt_sexp.specs.Views.{place_of}
use Rattle.root_rewriting.specs.Placing.{placed_command}
use Rattle.root_rewriting.specs.declared.script.Declared.{Declared}
use Rattle.root_rewriting.specs.declared.script.Introduced.{Introduced}
use Rattle.root_rewriting.specs.declared.script.Rewriting.{Rewriting}

abbrev pub declared_command : Declared → Command
declared_command d = declare (place_of d.place) d.name.now (sort_of d.sort)

abbrev pub introduced_command : Introduced → Command
introduced_command i = declare (place_of i.place) i.name real_sort

-- its commands
abbrev pub commands_of : Rewriting → List Command
commands_of r = map declared_command r.declared.items ++ map introduced_command r.introduced.items ++ map (placed_command r.sexps) r.placed.items

-- a script that stays as it is, or the one that stands for it
abbrev pub IsAnswer : Option ℕ → List Command → Option Rewriting → Type 0
IsAnswer bound script None = script_table bound script ≡ []
IsAnswer bound script (Some r) = (commands_of r ≡ rewritten bound script) × (script_table bound script ≢ [])

-- ---- refusals

abbrev pub refusal_kind : Refusal → FaultKind
refusal_kind too_large = TooMany Size
refusal_kind left_out_form = LeftOut

-- those but too many expressions
abbrev pub refused_later : Option ℕ → List Command → Option (Place × Refusal)
refused_later bound script = refused_at left_out_form (left_out script) (refused_at too_large (too_long bound script) None)

-- as a fault of the script
abbrev pub refusal_fault : Option (Place × Refusal) → Option ScriptFault
refusal_fault None = None
refusal_fault (Some (at, why)) = Some (fault_at at (refusal_kind why))
