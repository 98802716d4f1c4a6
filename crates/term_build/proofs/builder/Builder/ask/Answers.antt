use Rattle.poly_graph.specs.Views.{kind_of}
use Rattle.term_build.proofs.Atoms.{kept_ask, seen_ask}
use Rattle.term_build.proofs.builder.Builder.ask.Goals as goal

pub invariant_of-self : goal.invariant_of-self
invariant_of-self c = kept_ask _ _ c.intern-made.new.self (c.args.term, kind_of c.args.kind) c.intern-made.result c.self.view_is c.self.invariant c.requires c.atoms_are_apart.ensures c.intern-made.ensures

pub returns-clause-does : goal.returns-clause-does
returns-clause-does c =
    seen_ask _ _ c.intern-made.new.self (c.args.term, kind_of c.args.kind) c.intern-made.result c.limited.result c.self.view_is c.limited.ensures c.self.invariant c.requires c.atoms_are_apart.ensures c.intern-made.ensures
