use Rattle.smt_sexp.specs.Views.{place_of}
use Rattle.root_rewriting.proofs.unfold.trees.Trees.atomic.Goals as goal

pub push-requires-clause-known : goal.push-requires-clause-known
push-requires-clause-known c = c.atom_facts.ensures (place_of c.args.place)
