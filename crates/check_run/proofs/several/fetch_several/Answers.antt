use Rattle.std.proofs.Common.{List, ℕ, Bor, subst, sym}
use Rattle.command_line.specs.Seen.{seen_join, texts_behind}
use Rattle.check_run.specs.declared.status.Status.{Status}
use Rattle.check_run.specs.Joined.{several_starts}
use Rattle.check_run.specs.Several.{HaltsSeveral, IsHalted}
use Rattle.check_run.proofs.Starting.{several_halted, several_unread}
use Rattle.check_run.proofs.several.fetch_several.Goals as goal

pub returns-in-Err-start_several : goal.returns-in-Err-start_several
returns-in-Err-start_several g c =
    several_halted (seen_join c.args.asked.now) c.in-Ok.script c.in-Err-start_several.status _ _ _ c.in-Ok.ensures
    (subst (λ (names : List (Bor (List ℕ))). IsHalted (several_starts (texts_behind names) c.args.asked.now.out.now) c.in-Err-start_several.status (g.D.Desk.sight c.fetch_script.new.desk) (g.D.Desk.sight c.start_several.new.desk)) c.deref.ensures.value c.in-Err-start_several.ensures.starts)
    c.in-Err-start_several.ensures.script

pub returns-in-Err : goal.returns-in-Err
returns-in-Err g c =
    subst (λ (s : Status). HaltsSeveral (seen_join c.args.asked.now) s (g.D.Desk.sight c.args.desk.now) (g.D.Desk.sight c.fetch_script.new.desk)) (sym c.status.ensures)
    (several_unread (seen_join c.args.asked.now) c.in-Err.unread (g.D.Desk.sight c.args.desk.now) (g.D.Desk.sight c.fetch_script.new.desk) c.in-Err.ensures)
