use Rattle.std.proofs.Common.{refl}
use Rattle.root_rewriting.proofs.Growth as growth
use Rattle.root_rewriting.proofs.Reckoned as reckoned
use Rattle.root_rewriting.proofs.unfold.frames.formless.Goals as goal

pub returns-clause-walks : goal.returns-clause-walks
returns-clause-walks c = λ s top. growth.turns_added s top c.args.trees.now c.formless.new.self _ _ c.formless.result c.back.result c.back.ensures c.formless.ensures.added c.formless.ensures.last refl

pub returns-clause-counts : goal.returns-clause-counts
returns-clause-counts c = λ s top. reckoned.goes_back s top c.formless.result c.back.result c.back.ensures
