-- The program's command, as data of the parser of command lines.
use Rattle.std.specs.Prelude.{ℕ, true, pos, List, [], ◌∷◌, Some, codes}
use Rattle.clap.specs.Words.{App, Rule, Text, new_app, new_rule, with_rule, with_subcommand}
use Rattle.clap.specs.declared.builder.value_parser.ValueParser.TheVariants as parser
use Rattle.command_line.specs.declared.program.Part.{Part}
use Rattle.command_line.specs.declared.program.Part.TheVariants.{Script, Cert, Certs, Out, Seed, Size, Delta, Margin, Least, Budget, Bound, Workers, Gap, Share}
use Rattle.command_line.specs.declared.program.Name.{Name}
use Rattle.command_line.specs.declared.program.Name.TheVariants.{Solve, Minimize, Check, Demo, Upgrade, Plan, Resume, Join}

-- a word that has to be there
abbrev pub word_rule : Text → Rule
word_rule id = record (new_rule id) { required = true }

-- `--id N`, with N from the least to the most, and a default where there is one
abbrev pub number_rule : Text → ℕ → ℕ → List Text → Rule
number_rule id least most default = record (new_rule id) {
  long = Some id;
  parser = Some (parser.Signed (pos least) (pos most));
  defaults = default;
}

abbrev pub delta_rule : Rule
delta_rule = number_rule (codes "delta-bits") 1 30 (codes "10" ∷ [])

abbrev pub margin_rule : Rule
margin_rule = number_rule (codes "margin-bits") 2 60 (codes "20" ∷ [])

abbrev pub least_rule : Rule
least_rule = number_rule (codes "least-bits") 0 60 (codes "20" ∷ [])

abbrev pub budget_rule : Rule
budget_rule = number_rule (codes "budget") 0 1048576 (codes "65536" ∷ [])

abbrev pub bound_rule : Rule
bound_rule = number_rule (codes "bound") 1 4294967295 []

abbrev pub workers_rule : Rule
workers_rule = number_rule (codes "workers") 1 64 (codes "1" ∷ [])

abbrev pub gap_rule : Rule
gap_rule = number_rule (codes "gap-bits") 0 30 (codes "10" ∷ [])

-- `--part I/N`, a text
abbrev pub share_rule : Rule
share_rule = record (new_rule (codes "part")) { long = Some (codes "part"); defaults = codes "1/1" ∷ [] }

-- the last words, two or more
abbrev pub certs_rule : Rule
certs_rule = record (word_rule (codes "cert")) { range = Some (record { start_inclusive = 2; end_inclusive = 1000000 }) }

abbrev pub seed_rule : Rule
seed_rule = record (word_rule (codes "seed")) { parser = Some (parser.Unsigned 0 18446744073709551615) }

abbrev pub size_rule : Rule
size_rule = record (word_rule (codes "size")) { parser = Some (parser.Signed (pos 1) (pos 10000)) }

-- the rule of a word or an option
abbrev pub rule_in : Part → Rule
rule_in Script = word_rule (codes "script")
rule_in Cert = word_rule (codes "cert")
rule_in Certs = certs_rule
rule_in Out = word_rule (codes "out")
rule_in Seed = seed_rule
rule_in Size = size_rule
rule_in Delta = delta_rule
rule_in Margin = margin_rule
rule_in Least = least_rule
rule_in Budget = budget_rule
rule_in Bound = bound_rule
rule_in Workers = workers_rule
rule_in Gap = gap_rule
rule_in Share = share_rule

-- a command with these parts behind those that it has
abbrev pub with_parts : App → List Part → App
with_parts app [] = app
with_parts app (part ∷ parts) = with_parts (with_rule app (rule_in part)) parts

-- `check SCRIPT CERT` and its option, under this name
abbrev pub check_named : Text → App
check_named name = with_parts (new_app name) (Script ∷ Cert ∷ Bound ∷ [])

-- the checker's own command, `dpoly-check SCRIPT CERT` and its option
unfoldable pub checker : App
checker = check_named (codes "dpoly-check")

-- the subcommands, each with its words and its options
abbrev pub app_in : Name → App
app_in Solve = with_parts (new_app (codes "solve")) (Script ∷ Cert ∷ Delta ∷ Margin ∷ Least ∷ Budget ∷ Bound ∷ Workers ∷ [])
app_in Minimize = with_parts (new_app (codes "minimize")) (Script ∷ Cert ∷ Gap ∷ Delta ∷ Margin ∷ Least ∷ Budget ∷ Bound ∷ Workers ∷ [])
app_in Check = check_named (codes "check")
app_in Demo = with_parts (new_app (codes "demo")) (Seed ∷ Size ∷ Cert ∷ Workers ∷ [])
app_in Upgrade = with_parts (new_app (codes "upgrade")) (Script ∷ Cert ∷ Out ∷ Bound ∷ [])
app_in Plan = with_parts (new_app (codes "plan")) (Script ∷ Delta ∷ Margin ∷ Bound ∷ [])
app_in Resume = with_parts (new_app (codes "resume")) (Script ∷ Cert ∷ Out ∷ Share ∷ Least ∷ Budget ∷ Bound ∷ Workers ∷ [])
app_in Join = with_parts (new_app (codes "join")) (Script ∷ Out ∷ Certs ∷ Bound ∷ [])

-- the command before its subcommands are added, one of which has to be given
abbrev pub new_program : App
new_program = record (new_app (codes "dpoly")) { top = record (new_app (codes "dpoly")).top { subcommand_required = true } }

-- a command with these subcommands behind those that it has
abbrev pub with_commands : App → List Name → App
with_commands app [] = app
with_commands app (name ∷ names) = with_commands (with_subcommand app (app_in name).top) names

-- the whole command
unfoldable pub program : App
program = with_commands new_program (Solve ∷ Minimize ∷ Check ∷ Demo ∷ Upgrade ∷ Plan ∷ Resume ∷ Join ∷ [])
