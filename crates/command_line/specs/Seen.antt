-- The words as the code holds them.
use Rattle.std.specs.Prelude.{◌≡◌, List, [], map, string_bytes}
use Rattle.std.specs.Borrow.{Bor}
use Rattle.std.specs.declared.alloc.Global.{Global}
use Rattle.std.specs.declared.string.String.{String}
use Rattle.clap.specs.Words.{Text, fault_of, found_of, matches_of, rows_of, subcommand_of, subcommand_rows_of}
use Rattle.clap.specs.declared.parser.matches.ArgMatches.{ArgMatches}
use Rattle.command_line.specs.Program.{checker, program}
use Rattle.command_line.specs.declared.request.SolveWords.{SolveWords}
use Rattle.command_line.specs.declared.request.MinimizeWords.{MinimizeWords}
use Rattle.command_line.specs.declared.request.CheckWords.{CheckWords}
use Rattle.command_line.specs.declared.request.DemoWords.{DemoWords}
use Rattle.command_line.specs.declared.request.UpgradeWords.{UpgradeWords}
use Rattle.command_line.specs.declared.request.PlanWords.{PlanWords}
use Rattle.command_line.specs.declared.request.Share.{Share}
use Rattle.command_line.specs.declared.request.ResumeWords.{ResumeWords}
use Rattle.command_line.specs.declared.request.JoinWords.{JoinWords}
use Rattle.command_line.specs.declared.read.JoinNames.{JoinNames}
use Rattle.command_line.specs.declared.request.Request.{Request}
use Rattle.command_line.specs.declared.request.Request.TheVariants.{Solve, Minimize, Check, Demo, Upgrade, Plan, Resume, Join}
use Rattle.command_line.specs.Words as words
use Rattle.command_line.specs.Words.{Command, solve, minimize, check, demo, upgrade, plan, resume, join}

abbrev pub seen_solve : SolveWords → words.Solve
seen_solve asked = record { script = asked.script.now; cert = asked.cert.now; options = asked.options }

abbrev pub seen_minimize : MinimizeWords → words.Minimize
seen_minimize asked = record { script = asked.script.now; cert = asked.cert.now; gap_bits = asked.gap_bits; options = asked.options }

abbrev pub seen_check : CheckWords → words.Check
seen_check asked = record { script = asked.script.now; cert = asked.cert.now; bound = asked.bound }

abbrev pub seen_demo : DemoWords → words.Demo
seen_demo asked = record { seed = asked.seed; size = asked.size; cert = asked.cert.now; options = asked.options }

abbrev pub seen_upgrade : UpgradeWords → words.Upgrade
seen_upgrade asked = record { script = asked.script.now; cert = asked.cert.now; out = asked.out.now; bound = asked.bound }

abbrev pub seen_plan : PlanWords → words.Plan
seen_plan asked = record { script = asked.script.now; delta_bits = asked.delta_bits; margin_bits = asked.margin_bits; bound = asked.bound }

abbrev pub seen_share : Share → words.Share
seen_share h = record { number = h.number; count = h.count }

abbrev pub seen_resume : ResumeWords → words.Resume
seen_resume asked = record {
  script = asked.script.now;
  cert = asked.cert.now;
  out = asked.out.now;
  share = seen_share asked.share;
  least_bits = asked.least_bits;
  budget = asked.budget;
  bound = asked.bound;
  workers = asked.workers;
}

-- the texts behind references
abbrev pub texts_behind : List (Bor Text) → List Text
texts_behind = map (λ s. s.now)

abbrev pub seen_join : JoinWords → words.Join
seen_join asked = record { script = asked.script.now; out = asked.out.now; certs = texts_behind asked.certs.items; bound = asked.bound }

-- the same before the names of the certificates are copied
abbrev pub seen_names : JoinNames → words.Join
seen_names asked = record { script = asked.script.now; out = asked.out.now; certs = texts_behind asked.certs.now; bound = asked.bound }

abbrev pub seen : Request → Command
seen (Solve asked) = solve (seen_solve asked)
seen (Minimize asked) = minimize (seen_minimize asked)
seen (Check asked) = check (seen_check asked)
seen (Demo asked) = demo (seen_demo asked)
seen (Upgrade asked) = upgrade (seen_upgrade asked)
seen (Plan asked) = plan (seen_plan asked)
seen (Resume asked) = resume (seen_resume asked)
seen (Join asked) = join (seen_join asked)

-- the bytes of each word
abbrev pub texts_of : List (String Global) → List Text
texts_of words = map string_bytes words

-- the parser finds no fault in the words, and these matches
abbrev pub AreMatchesOf : List (String Global) → ArgMatches → Type 0
AreMatchesOf words m = (fault_of program (texts_of words) ≡ []) × (subcommand_rows_of m ≡ subcommand_of program (texts_of words))

-- the same of the words of the checker's call
abbrev pub AreCheckerMatchesOf : List (String Global) → ArgMatches → Type 0
AreCheckerMatchesOf words m = (fault_of checker (texts_of words) ≡ []) × (rows_of (found_of m) ≡ matches_of checker (texts_of words))
