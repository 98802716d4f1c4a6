-- The exit statuses of the program.
use Rattle.std.specs.Prelude.{ℕ}
use Rattle.check_run.specs.declared.status.Status.{Status}
use Rattle.check_run.specs.declared.status.Status.TheVariants.{Answered, CertRefused, ScriptRefused, Usage, InFailed, OutFailed, NoMemory}

abbrev pub exit_code : Status → ℕ
exit_code Answered = 0
exit_code CertRefused = 1
exit_code ScriptRefused = 2
exit_code Usage = 3
exit_code InFailed = 4
exit_code OutFailed = 5
exit_code NoMemory = 6
