use Rattle.term_build.proofs.Emits.{same_seen}
use Rattle.term_build.proofs.builder.Builder.is_same.Goals as goal

pub returns : goal.returns
returns c = same_seen _ _ c.args.a c.args.b c.self.view_is c.self.invariant c.requires.first c.requires.second
