use Rattle.std.proofs.Common.{◌≡◌, Some, ap, sym, subst, ◌∙◌}
use Rattle.std.proofs.lemmas.Result.{err_from_is_err_and}
use Rattle.script_model.specs.Reading.{found}
use Rattle.script_model.specs.Sexp.{group}
use Rattle.smt_sexp.specs.Arena.{rest_of}
use Rattle.smt_sexp.specs.Views.{place_of}
use Rattle.script_fault.specs.Answers.{IsFaultOrMemory}
use Rattle.smt_script.specs.Calls.{Appends, steps_found}
use Rattle.smt_script.specs.Commands.{Said, command_words, one_command, by_word}
use Rattle.smt_script.specs.CommandAnswers.{said_fault}
use Rattle.smt_script.specs.Run.{before_of}
use Rattle.smt_script.specs.Views.{word_of}
use Rattle.smt_script.specs.declared.found.Found.{Found}
use Rattle.smt_script.proofs.Added.{one_added}
use Rattle.smt_script.proofs.Heads.{head_is}
use Rattle.smt_script.proofs.reading.command.Goals as goal
use Rattle.smt_script.proofs.reading.command.Goals.{After-by_word, in-One+in_ok-push-in-One, in-Assumed+in_ok-add_assumed-in-Assumed}

-- the group is the command of its word
is_word : (c : After-by_word) → one_command (before_of c.args.before) (group (place_of c.args.place) (rest_of c.args.sexps.now c.args.inside)) ≡
    by_word (before_of c.args.before) (place_of c.args.place) (word_of c.in-Some-word_named.word) (rest_of c.args.sexps.now c.in-Some.at)
is_word c =
    let named : found c.in-Some.name.now command_words ≡ Some (word_of c.in-Some-word_named.word) =
    ap (λ n. found n command_words) (sym c.as_slice.ensures) ∙ sym c.in-Some-word_named.ensures in
    head_is (before_of c.args.before) (place_of c.args.place) _ (rest_of c.args.sexps.now c.args.inside) _ c.in-Some.name.now _ c.in-Some.ensures.0 named

pub returns-in_err-next : goal.returns-in_err-next
returns-in_err-next c =
    let p = err_from_is_err_and c.from_residual.result c.from_residual.ensures.1 in
    rw (p.1, p.2)
    (subst (λ (x : Said). IsFaultOrMemory c.in_err-next.field-0.0 (said_fault (place_of c.args.place) x)) (sym (is_word (goal.at.returns-in_err-next c).After-by_word)) c.in_err-next.ensures)

pub returns : goal.returns
returns c =
    let s = c.args.sexps.now in let at = c.args.place in
    record {
      made = steps_found s at c.in_ok-next.found;
      said_so = is_word (goal.at.returns c).After-by_word ∙ c.in_ok-next.ensures;
      added = elim c.match-found.branch [
        | in-One+in_ok-push-in-One w ↦ rw w.steps-is (one_added s at c.in_ok-next.found w.in-One.step c.args.steps.now.items w.push.new.self.items w.in-One.is w.in_ok-push-in-One.ensures.items)
        | in-Assumed+in_ok-add_assumed-in-Assumed w ↦ rw w.steps-is (subst (λ (f : Found). Appends s at f c.args.steps.now.items w.add_assumed.new.steps.items) (sym w.in-Assumed.is) w.in_ok-add_assumed-in-Assumed.ensures)
      ];
    }
