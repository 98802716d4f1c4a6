use Rattle.std.proofs.Common.{ap, ◌∙◌, drop}
use Rattle.solve_core.proofs.Visits.{handed}
use Rattle.solve_core.proofs.search.Search.hand.Goals as goal

pub returns-clause-search : goal.returns-clause-search
returns-clause-search c =
    handed c.args.self.now c.args.lemma c.requires _ c.keep_latest.new.lemmas.items
    (c.keep_latest.ensures ∙ ap (drop _) c.in_ok-push.ensures.items)
