use Rattle.std.proofs.Common.{◌≡◌, length, ap, sym, ◌∙◌}
use Rattle.std.proofs.lemmas.List.{length-map}
use Rattle.check_run.specs.Answer.{demo_text}
use Rattle.poly_graph.specs.Views.{atom_of}
use Rattle.dpoly.proofs.Solving.{demonstrated}
use Rattle.dpoly.proofs.solve.solve_demo.Goals as goal

pub returns-in-Ok-demo-clause-ends : goal.returns-in-Ok-demo-clause-ends
returns-in-Ok-demo-clause-ends g c =
    let told = c.in-Ok.ensures in
    let count : length c.atoms.result.now ≡ length c.args.problem.now.atoms = sym (length-map c.atoms.result.now atom_of) ∙ ap length c.atoms.ensures.atoms in
    demonstrated _ c.args.options c.args.name.now c.args.script.now _ c.in-Ok.told.cert.items _ _ _ told.value _ _ _
    told.answer (c.deref.ensures.value ∙ told.text) c.deref-in-Ok-demo.ensures.value (c.in-Ok-demo.ensures ∙ ap (λ n. demo_text (length c.args.script.now) n c.deref.result.now) count) c.deref-in-Ok-demo-2.ensures.value c.finish.ensures.ends
