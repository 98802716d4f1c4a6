use Rattle.std.proofs.Common.{◌≡◌, ◌+◌, ◌∷◌, ℕ, suc, List, [], Bor, drop, get_or, subst, ap, ◌∙◌, arith}
use Rattle.std.proofs.Math.Seq.{drop-cons}
use Rattle.command_line.specs.Seen.{texts_behind}
use Rattle.check_run.specs.Joined.{part_starts}
use Rattle.check_run.proofs.Starting.{StartedSoFar, started_one}
use Rattle.check_run.proofs.several.start_parts.Goals as goal

pub loop-name-preserved : goal.loop-name-preserved
loop-name-preserved g c =
    let names : List (Bor (List ℕ)) = c.args.names.now in
    let k = c.loop-name.name-index in
    let none : Bor (List ℕ) = record { ref_ptr = (0, 0); now = [] } in
    let next : suc k ≡ k + 1 = omega arith in
    let split : drop k names ≡ get_or names k none ∷ drop (k + 1) names = drop-cons names k none (omega (arith, c.loop-name-test.true)) ∙ ap (λ (n : ℕ). get_or names k none ∷ drop n names) next in
    let so_far = subst (λ (left : List (Bor (List ℕ))). StartedSoFar (part_starts (texts_behind left)) (part_starts (texts_behind names)) (g.D.Desk.sight c.args.desk.now) (g.D.Desk.sight c.loop-name.desk)) split c.loop-name.invariant in
    started_one (get_or names k none).now (part_starts (texts_behind (drop (k + 1) names))) (part_starts (texts_behind names)) (g.D.Desk.sight c.args.desk.now) (g.D.Desk.sight c.loop-name.desk) (g.D.Desk.sight c.start.new.self) so_far c.in-Ok.ensures.ok
