use Rattle.std.proofs.Common.{refl}
use Rattle.term_build.proofs.Emits.{sort_seen}
use Rattle.term_build.proofs.builder.Builder.sort_at.Goals as goal

pub returns : goal.returns
returns c = sort_seen _ c.args.self.now c.self.inside.sorts.items c.args.axis c.index.result.now c.index.result.now c.self.view_is refl c.requires c.index.ensures
