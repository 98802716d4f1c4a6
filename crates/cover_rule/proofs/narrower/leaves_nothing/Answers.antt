use Rattle.std.proofs.Common.{◌∙◌, ap, sym, length}
use Rattle.ival.specs.SpaceViews.{space_of}
use Rattle.cover_rule.proofs.Narrowings.{within_length}
use Rattle.cover_rule.proofs.Narrowers.{narrows_within}
use Rattle.cover_rule.proofs.narrower.leaves_nothing.Goals as goal

pub copy_space-requires : goal.copy_space-requires
copy_space-requires c =
    let N = space_of c.narrow_by.new.work.spare in let S = c.args.state.now in
    ap length c.space.ensures ∙ sym (within_length N S.space (narrows_within c.args.problem.now c.problem_is_whole.ensures.problem c.args.margins.now S c.args.by N c.in-Less.ensures.narrowed.0))
