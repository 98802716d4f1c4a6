use Rattle.problem_build.proofs.Rooted.{roots_made}
use Rattle.problem_build.proofs.assembly.root_form.Goals as goal

pub returns-clause-does : goal.returns-clause-does
returns-clause-does c = roots_made c.args.maker.now.made c.form.new.self.made c.args.roots.items c.form.result c.form.ensures.does
