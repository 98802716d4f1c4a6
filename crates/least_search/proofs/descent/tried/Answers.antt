use Rattle.std.proofs.Common.{sym, ◌∙◌, subst, IsTrue}
use Rattle.interval_model.specs.Space.{Space, space_within}
use Rattle.ival.specs.SpaceViews.{space_of}
use Rattle.cover_data.specs.Margins.{AreMargins}
use Rattle.least_search.proofs.descent.tried.Goals as goal

pub of_middle-requires-clause-margins : goal.of_middle-requires-clause-margins
of_middle-requires-clause-margins c =
    subst AreMargins (sym c.margins-margins.ensures) c.requires.ready.limits.margins

pub of_middle-requires-clause-space : goal.of_middle-requires-clause-space
of_middle-requires-clause-space c =
    subst (λ (s : Space). IsTrue (space_within (space_of c.args.space.now) s)) c.requires.root (sym c.within.ensures ∙ c.if-not-within.false)
