-- The first word of a command, and the end of all commands.
use Rattle.std.proofs.Common.{◌≡◌, ℕ, List, [], ◌∷◌, ◌++◌, true, false, cond, Some, refl, ap, sym, ◌∙◌, append_assoc}
use Rattle.script_model.specs.Sexp.{Place, place_of, Sexp, group, Sexps}
use Rattle.script_model.specs.Reading.{found}
use Rattle.smt_script.specs.Levels.{Step}
use Rattle.smt_script.specs.Commands.{Before, fails, Said, says, Word, by_word, by_head, one_command, command_words, CommandsRead, steps, command_fault, steps_from, steps_of, at_end, joined, next_before, accepted, of_read, course_of}
use Rattle.smt_sexp.specs.Lexicon.{read, whole}
use Rattle.smt_script.specs.Forms.{as_symbol}
use Rattle.smt_script.specs.Run.{by_first, with_front}
use Rattle.smt_script.specs.CommandAnswers.{said_fault, commands_fault}
use Rattle.script_fault.specs.declared.fault.ScriptFault.{ScriptFault}
use Rattle.smt_script.proofs.Shapes.{by_one}

pub head_is : (b : Before) (at p : Place) (items args : Sexps) (name : List ℕ) (w : Word) → as_symbol items ≡ Some (p, name, args) → found name command_words ≡ Some w →
    one_command b (group at items) ≡ by_word b at w args
head_is b at p items args name w symbol_is word_is = sym (by_one b at items) ∙ ap (by_first b at) symbol_is ∙ ap (λ o. by_head b at o args) word_is

pub ended : (b : Before) (es : List Sexp) → b.ended ≡ true → steps_from b es ≡ at_end b
ended b [] h = refl
ended b (e ∷ es) h = ap (λ t. cond t (at_end b) (steps_from_more b e es)) h
  where
    steps_from_more : Before → Sexp → List Sexp → CommandsRead
    steps_from_more c x xs = joined (place_of x) (one_command c x) (steps_from (next_before c (one_command c x)) xs)

joined_says : (at : Place) (b : Before) (ss : List Step) (later : CommandsRead) → joined at (says b ss) later ≡ with_front ss later
joined_says at b ss (steps rest) = refl
joined_says at b ss (command_fault at' f) = refl

-- the steps of the first command, where it has no fault
pub first_says : (b next : Before) (e : Sexp) (es : List Sexp) (ss : List Step) → b.ended ≡ false → one_command b e ≡ says next ss → steps_from b (e ∷ es) ≡ with_front ss (steps_from next es)
first_says b next e es ss h said =
    ap (λ t. cond t (at_end b) (joined (place_of e) (one_command b e) (steps_from (next_before b (one_command b e)) es))) h ∙
    ap (λ x. joined (place_of e) x (steps_from (next_before b x) es)) said ∙
    joined_says (place_of e) next ss (steps_from next es)

pub front_more : (front ss : List Step) (later : CommandsRead) → with_front front (with_front ss later) ≡ with_front (front ++ ss) later
front_more front ss (steps rest) = ap steps (sym (append_assoc front ss rest))
front_more front ss (command_fault at f) = refl

-- a text without a fault, and its commands without one, are steps
pub course_of_commands : (bytes : List ℕ) (es : List Sexp) (ss : List Step) → read bytes ≡ whole es → steps_of es ≡ steps ss → course_of bytes ≡ Some ss
course_of_commands bytes es ss text_is steps_are = ap of_read text_is ∙ ap accepted steps_are

-- steps before others leave their first fault
pub front_fault : (ss : List Step) (later : CommandsRead) → commands_fault (with_front ss later) ≡ commands_fault later
front_fault ss (steps rest) = refl
front_fault ss (command_fault at f) = refl

joined_fault : (at : Place) (said : Said) (later : CommandsRead) (x : ScriptFault) → said_fault at said ≡ Some x → commands_fault (joined at said later) ≡ Some x
joined_fault at (fails f) later x e = e
joined_fault at (says b ss) later x e = cc

-- the fault of the first command is the first one
pub first_fault : (b : Before) (e : Sexp) (es : List Sexp) (x : ScriptFault) → b.ended ≡ false → said_fault (place_of e) (one_command b e) ≡ Some x → commands_fault (steps_from b (e ∷ es)) ≡ Some x
first_fault b e es x h said =
    ap (λ t. commands_fault (cond t (at_end b) (joined (place_of e) (one_command b e) (steps_from (next_before b (one_command b e)) es)))) h ∙
    joined_fault (place_of e) (one_command b e) (steps_from (next_before b (one_command b e)) es) x said
