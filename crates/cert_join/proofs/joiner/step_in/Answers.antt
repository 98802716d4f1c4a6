use Rattle.std.proofs.Common.{subst}
use Rattle.cert_join.specs.declared.joiner.Stage.{Stage}
use Rattle.cert_join.specs.Gathered.{lists_of}
use Rattle.cert_join.specs.Joining.{IsAt}
use Rattle.cert_join.specs.declared.joiner.Stage.TheVariants.{Lemmas, Trees}
use Rattle.cert_join.proofs.Steps.{ends_step, heads_step, in_memory, lemmas_step, numbering_step, trees_step}
use Rattle.cert_join.proofs.joiner.step_in.Goals as goal

pub returns-in-Heads-clause-steps : goal.returns-in-Heads-clause-steps
returns-in-Heads-clause-steps c = λ certs first covers done texts at.
    let here = subst (λ (s : Stage). IsAt certs first covers done c.args.text.now.items (lists_of c.args.numbers.now) s c.args.cursors.now) c.in-Heads.is at in
    heads_step certs first covers done (lists_of c.args.numbers.now) c.step.result c.args.text.now.items c.step.new.self c.step.new.cursors here.0 (c.step.ensures certs covers texts here.1)

pub returns-in-Numbering-clause-steps : goal.returns-in-Numbering-clause-steps
returns-in-Numbering-clause-steps c = λ certs first covers done texts at.
    let here = subst (λ (s : Stage). IsAt certs first covers done c.args.text.now.items (lists_of c.args.numbers.now) s c.args.cursors.now) c.in-Numbering.is at in
    numbering_step certs first covers done (lists_of c.args.numbers.now) c.step-in-Numbering.result c.args.text.now.items c.in-Numbering.heads c.step-in-Numbering.new.self c.step-in-Numbering.new.cursors here.0 here.1
    (c.step-in-Numbering.ensures certs covers texts here.2)

pub returns-in-Lemmas-clause-steps : goal.returns-in-Lemmas-clause-steps
returns-in-Lemmas-clause-steps c = λ certs first covers done texts at.
    let here = subst (λ (s : Stage). IsAt certs first covers done c.args.text.now.items (lists_of c.args.numbers.now) s c.args.cursors.now) c.in-Lemmas.is at in
    in_memory certs first covers done (lists_of c.args.numbers.now) c.step-in-Lemmas.result c.in_memory-in-Lemmas.result c.step-in-Lemmas.new.text.items (Lemmas c.step-in-Lemmas.new.self) c.step-in-Lemmas.new.cursors c.in_memory-in-Lemmas.ensures
    (lemmas_step certs first covers done (lists_of c.args.numbers.now) c.args.text.now.items c.in-Lemmas.lemmas c.args.cursors.now here c.step-in-Lemmas.result c.step-in-Lemmas.new.text.items c.step-in-Lemmas.new.self c.step-in-Lemmas.new.cursors
    (c.step-in-Lemmas.ensures certs here.left here.due))

pub returns-in-Ends-clause-steps : goal.returns-in-Ends-clause-steps
returns-in-Ends-clause-steps c = λ certs first covers done texts at.
    let here = subst (λ (s : Stage). IsAt certs first covers done c.args.text.now.items (lists_of c.args.numbers.now) s c.args.cursors.now) c.in-Ends.is at in
    ends_step certs first covers done (lists_of c.args.numbers.now) c.step_of_ends.result c.args.text.now.items c.in-Ends.part _ c.step_of_ends.new.cursors here

pub returns-in-Point-clause-steps : goal.returns-in-Point-clause-steps
returns-in-Point-clause-steps c = λ certs first covers done texts at.
    absurd (subst (λ (s : Stage). IsAt certs first covers done c.args.text.now.items (lists_of c.args.numbers.now) s c.args.cursors.now) c.in-Point.is at)

pub returns-in-Trees-clause-steps : goal.returns-in-Trees-clause-steps
returns-in-Trees-clause-steps c = λ certs first covers done texts at.
    let here = subst (λ (s : Stage). IsAt certs first covers done c.args.text.now.items (lists_of c.args.numbers.now) s c.args.cursors.now) c.in-Trees.is at in
    in_memory certs first covers done (lists_of c.args.numbers.now) c.step-in-Trees.result c.in_memory-in-Trees.result c.step-in-Trees.new.text.items (Trees c.step-in-Trees.new.self) c.step-in-Trees.new.cursors c.in_memory-in-Trees.ensures
    (trees_step certs first covers done (lists_of c.args.numbers.now) c.args.text.now.items c.in-Trees.trees c.args.cursors.now here c.step-in-Trees.result c.step-in-Trees.new.text.items c.step-in-Trees.new.self c.step-in-Trees.new.cursors
    c.step-in-Trees.ensures)
