use Rattle.std.proofs.Common.{rules, inl, refl, subst, sym}
use Rattle.cover_data.specs.declared.margins.Options.{Options}
use Rattle.cover_book.specs.Limits.{IsWithinLimits}
use Rattle.dpoly.specs.Search.{search_options}
use Rattle.dpoly.proofs.Minimizing.{limits_again}
use Rattle.dpoly.proofs.SearchAnswers.{limits}
use Rattle.dpoly.proofs.minimize.search_least.Goals as goal

pub minimize-requires-clause-within : goal.minimize-requires-clause-within
minimize-requires-clause-within g c =
    let h : IsWithinLimits c.args.problem.now c.first_options-options.result =
    subst (λ (o : Options). IsWithinLimits c.args.problem.now o) (sym c.first_options-options.ensures)
    (limits_again c.args.problem.now (search_options c.args.asked.now.options) 2 (inl refl) (limits c.args.problem.now c.args.asked.now.options c.requires.asked.options c.requires.within)) in
    search (rules, h)
