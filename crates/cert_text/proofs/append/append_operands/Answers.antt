use Rattle.std.proofs.Common.{sym, subst, OnOk}
use Rattle.std.proofs.lemmas.Result.{on_ok_weaker}
use Rattle.cover_line.specs.Views.{multipliers_of}
use Rattle.cert_text.specs.Ruled.{HasOperands, operands_in}
use Rattle.cert_text.specs.declared.operands.Operands.{Operands}
use Rattle.cert_text.proofs.Ruled.{atom_operand, lemma_operand, axis_operand, two_operands, multiplier_operands}
use Rattle.cert_text.proofs.append.append_operands.Goals as goal

pub returns-in-Atom : goal.returns-in-Atom
returns-in-Atom c =
    subst (λ (o : Operands). OnOk c.append_word_and_count.result (HasOperands c.args.text.now.items (operands_in o) c.append_word_and_count.new.text.items)) (sym c.in-Atom.is)
    (on_ok_weaker c.append_word_and_count.result (λ e. atom_operand c.in-Atom.atom _ _ c.append_word_and_count.ensures.count e) c.append_word_and_count.ensures.text)

pub returns-in-Lemma : goal.returns-in-Lemma
returns-in-Lemma c =
    subst (λ (o : Operands). OnOk c.append_word_and_count-in-Lemma.result (HasOperands c.args.text.now.items (operands_in o) c.append_word_and_count-in-Lemma.new.text.items)) (sym c.in-Lemma.is)
    (on_ok_weaker c.append_word_and_count-in-Lemma.result (λ e. lemma_operand c.in-Lemma.lemma _ _ c.append_word_and_count-in-Lemma.ensures.count e) c.append_word_and_count-in-Lemma.ensures.text)

pub returns-in_ok-append_word_and_count-in-AtomLemma : goal.returns-in_ok-append_word_and_count-in-AtomLemma
returns-in_ok-append_word_and_count-in-AtomLemma c =
    subst (λ (o : Operands). OnOk c.append_word_and_count-in-AtomLemma-2.result (HasOperands c.args.text.now.items (operands_in o) c.append_word_and_count-in-AtomLemma-2.new.text.items)) (sym c.in-AtomLemma.is)
    (on_ok_weaker c.append_word_and_count-in-AtomLemma-2.result
    (λ e. two_operands c.in-AtomLemma.atom c.in-AtomLemma.lemma _ _ _ c.append_word_and_count-in-AtomLemma.ensures.count c.append_word_and_count-in-AtomLemma-2.ensures.count c.in_ok-append_word_and_count-in-AtomLemma.ensures.text e)
    c.append_word_and_count-in-AtomLemma-2.ensures.text)

pub returns-in-Axis : goal.returns-in-Axis
returns-in-Axis c =
    subst (λ (o : Operands). OnOk c.append_word_and_count-in-Axis.result (HasOperands c.args.text.now.items (operands_in o) c.append_word_and_count-in-Axis.new.text.items)) (sym c.in-Axis.is)
    (on_ok_weaker c.append_word_and_count-in-Axis.result (λ e. axis_operand c.in-Axis.axis _ _ c.append_word_and_count-in-Axis.ensures.count e) c.append_word_and_count-in-Axis.ensures.text)

pub returns-in-Multipliers : goal.returns-in-Multipliers
returns-in-Multipliers c =
    subst (λ (o : Operands). OnOk c.append_pairs.result (HasOperands c.args.text.now.items (operands_in o) c.append_pairs.new.text.items)) (sym c.in-Multipliers.is)
    (on_ok_weaker c.append_pairs.result (λ h. multiplier_operands (multipliers_of c.in-Multipliers.pairs.now) _ _ h) c.append_pairs.ensures)

pub returns-in-Groups : goal.returns-in-Groups
returns-in-Groups c =
    subst (λ (o : Operands). OnOk c.append_groups.result (HasOperands c.args.text.now.items (operands_in o) c.append_groups.new.text.items)) (sym c.in-Groups.is) c.append_groups.ensures

pub returns-in-Squares : goal.returns-in-Squares
returns-in-Squares c =
    subst (λ (o : Operands). OnOk c.append_squares.result (HasOperands c.args.text.now.items (operands_in o) c.append_squares.new.text.items)) (sym c.in-Squares.is) c.append_squares.ensures
