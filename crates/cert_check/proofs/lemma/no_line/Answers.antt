use Rattle.std.proofs.lemmas.Grind.{common_steps}
use Rattle.std.proofs.Common.{length, ap, ◌∙◌, sym, arith, rules}
use Rattle.std.proofs.lemmas.List.{length-map}
use Rattle.poly_graph.specs.Views.{atom_of}
use Rattle.cert_check.proofs.Marking.{length_marks}
use Rattle.cert_check.proofs.lemma.no_line.Goals as goal

pub returns-in_ok-no-in-Some-clause-sound : goal.returns-in_ok-no-in-Some-clause-sound
returns-in_ok-no-in-Some-clause-sound c =
    let count = length c.atoms-atoms.result.now in
    let lengths = sym (length-map c.atoms-atoms.result.now atom_of) ∙ ap length c.atoms-atoms.ensures.atoms in
    c.lemma_tree.ensures.sound c.args.problem.now c.requires.0 (record { axes = c.requires.1; atoms = length_marks count c.args.yes.items c.in_ok-no-in-Some.no.items ∙ lengths })

pub returns-then-not-is_list-clause-comes : goal.returns-then-not-is_list-clause-comes
returns-then-not-is_list-clause-comes c = grind (arith, common_steps)

pub returns-then-not-is_list-clause-sound : goal.returns-then-not-is_list-clause-sound
returns-then-not-is_list-clause-sound c = search rules

pub returns-in_err-marks-in-No-clause-comes : goal.returns-in_err-marks-in-No-clause-comes
returns-in_err-marks-in-No-clause-comes c = search rules

pub returns-in_err-marks-in-No-clause-sound : goal.returns-in_err-marks-in-No-clause-sound
returns-in_err-marks-in-No-clause-sound c = search rules

pub returns-in-None-clause-comes : goal.returns-in-None-clause-comes
returns-in-None-clause-comes c = search rules

pub returns-in-None-clause-sound : goal.returns-in-None-clause-sound
returns-in-None-clause-sound c = search rules

pub returns-in_default : goal.returns-in_default
returns-in_default c = search rules
