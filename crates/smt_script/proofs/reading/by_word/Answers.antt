use Rattle.std.proofs.Common.{refl, sym, subst}
use Rattle.smt_sexp.specs.Arena.{rest_of}
use Rattle.smt_sexp.specs.Views.{place_of}
use Rattle.smt_script.specs.Calls.{GivesFound}
use Rattle.smt_script.specs.Commands.{Said, by_word, with_end}
use Rattle.smt_script.specs.Run.{before_of}
use Rattle.smt_script.specs.Views.{word_of}
use Rattle.smt_script.specs.declared.words.Word.{Word}
use Rattle.smt_script.proofs.Shapes.{by_asserts, by_declares, by_declares_function, by_defines, by_echoes, by_exits, by_gets_model, by_sets_logic}
use Rattle.smt_script.proofs.reading.by_word.Goals as goal

pub returns-in-SetsLogic : goal.returns-in-SetsLogic
returns-in-SetsLogic c =
    let b = before_of c.args.before in let at = place_of c.args.place in let args = rest_of c.args.sexps.now c.args.at in
    subst (λ (w : Word). GivesFound c.args.sexps.now c.args.place (by_word b at (word_of w) args) c.one.result) (sym c.in-SetsLogic.is)
    (subst (λ (x : Said). GivesFound c.args.sexps.now c.args.place x c.one.result) (by_sets_logic b at args) (c.one.ensures c.args.sexps.now c.args.place _ (c.set_logic.ensures b refl)))

pub returns-in-Informs : goal.returns-in-Informs
returns-in-Informs c =
    let b = before_of c.args.before in let at = place_of c.args.place in let args = rest_of c.args.sexps.now c.args.at in
    subst (λ (w : Word). GivesFound c.args.sexps.now c.args.place (by_word b at (word_of w) args) c.one-in-Informs.result) (sym c.in-Informs.is)
    (c.one-in-Informs.ensures c.args.sexps.now c.args.place _ refl)

pub returns-in-Echoes : goal.returns-in-Echoes
returns-in-Echoes c =
    let b = before_of c.args.before in let at = place_of c.args.place in let args = rest_of c.args.sexps.now c.args.at in
    subst (λ (w : Word). GivesFound c.args.sexps.now c.args.place (by_word b at (word_of w) args) c.one-in-Echoes.result) (sym c.in-Echoes.is)
    (subst (λ (x : Said). GivesFound c.args.sexps.now c.args.place x c.one-in-Echoes.result) (by_echoes b at args) (c.one-in-Echoes.ensures c.args.sexps.now c.args.place _ (c.echo.ensures b)))

pub returns-in-GetsModel : goal.returns-in-GetsModel
returns-in-GetsModel c =
    let b = before_of c.args.before in let at = place_of c.args.place in let args = rest_of c.args.sexps.now c.args.at in
    subst (λ (w : Word). GivesFound c.args.sexps.now c.args.place (by_word b at (word_of w) args) c.one-in-GetsModel.result) (sym c.in-GetsModel.is)
    (subst (λ (x : Said). GivesFound c.args.sexps.now c.args.place x c.one-in-GetsModel.result) (by_gets_model b at args) (c.one-in-GetsModel.ensures c.args.sexps.now c.args.place _ (c.alone.ensures b)))

pub returns-in-Declares : goal.returns-in-Declares
returns-in-Declares c =
    let b = before_of c.args.before in let at = place_of c.args.place in let args = rest_of c.args.sexps.now c.args.at in
    subst (λ (w : Word). GivesFound c.args.sexps.now c.args.place (by_word b at (word_of w) args) c.one-in-Declares.result) (sym c.in-Declares.is)
    (subst (λ (x : Said). GivesFound c.args.sexps.now c.args.place x c.one-in-Declares.result) (by_declares b at args) (c.one-in-Declares.ensures c.args.sexps.now c.args.place _ (c.declare_const.ensures b)))

pub returns-in-DeclaresFunction : goal.returns-in-DeclaresFunction
returns-in-DeclaresFunction c =
    let b = before_of c.args.before in let at = place_of c.args.place in let args = rest_of c.args.sexps.now c.args.at in
    subst (λ (w : Word). GivesFound c.args.sexps.now c.args.place (by_word b at (word_of w) args) c.one-in-DeclaresFunction.result) (sym c.in-DeclaresFunction.is)
    (subst (λ (x : Said). GivesFound c.args.sexps.now c.args.place x c.one-in-DeclaresFunction.result) (by_declares_function b at args) (c.one-in-DeclaresFunction.ensures c.args.sexps.now c.args.place _ (c.declare_fun.ensures b)))

pub returns-in-Defines : goal.returns-in-Defines
returns-in-Defines c =
    let b = before_of c.args.before in let at = place_of c.args.place in let args = rest_of c.args.sexps.now c.args.at in
    subst (λ (w : Word). GivesFound c.args.sexps.now c.args.place (by_word b at (word_of w) args) c.one-in-Defines.result) (sym c.in-Defines.is)
    (subst (λ (x : Said). GivesFound c.args.sexps.now c.args.place x c.one-in-Defines.result) (by_defines b at args) (c.one-in-Defines.ensures c.args.sexps.now c.args.place _ (c.define_fun.ensures b)))

pub returns-in-Asserts : goal.returns-in-Asserts
returns-in-Asserts c =
    let b = before_of c.args.before in let at = place_of c.args.place in let args = rest_of c.args.sexps.now c.args.at in
    subst (λ (w : Word). GivesFound c.args.sexps.now c.args.place (by_word b at (word_of w) args) c.one-in-Asserts.result) (sym c.in-Asserts.is)
    (subst (λ (x : Said). GivesFound c.args.sexps.now c.args.place x c.one-in-Asserts.result) (by_asserts b at args) (c.one-in-Asserts.ensures c.args.sexps.now c.args.place _ (c.assert_term.ensures b)))

pub returns-in-Exits : goal.returns-in-Exits
returns-in-Exits c =
    let b = before_of c.args.before in let at = place_of c.args.place in let args = rest_of c.args.sexps.now c.args.at in
    subst (λ (w : Word). GivesFound c.args.sexps.now c.args.place (by_word b at (word_of w) args) c.one-in-Exits.result) (sym c.in-Exits.is)
    (subst (λ (x : Said). GivesFound c.args.sexps.now c.args.place x c.one-in-Exits.result) (by_exits b at args) (c.one-in-Exits.ensures c.args.sexps.now c.args.place _ (c.alone-in-Exits.ensures (with_end b))))
