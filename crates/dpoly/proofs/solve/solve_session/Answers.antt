use Rattle.dpoly.proofs.Solving.{solved}
use Rattle.dpoly.proofs.solve.solve_session.Goals as goal

pub returns-in-Ok-clause-ends : goal.returns-in-Ok-clause-ends
returns-in-Ok-clause-ends g c =
    let told = c.in-Ok.ensures in
    solved _ c.args.options c.args.name.now _ c.in-Ok.told.cert.items _ _ told.values _ _ _ told.answers c.deref.ensures.value told.text c.deref-in-Ok.ensures.value c.finish.ensures.ends
