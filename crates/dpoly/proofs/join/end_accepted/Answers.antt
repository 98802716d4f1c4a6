use Rattle.dpoly.proofs.Joining.{crowded_why, joins_in, kept_joins, refused_why, verdict_in}
use Rattle.dpoly.proofs.join.end_accepted.Goals as goal

pub returns-in-Crowded-clause-ends : goal.returns-in-Crowded-clause-ends
returns-in-Crowded-clause-ends g c = λ p b parts old text drafts of so e n all.
    c.end_apart.ensures.ends p b parts old text drafts e n all (crowded_why p b parts text c.args.joint c.in-Crowded.is all so)

pub returns-in-Refused-clause-ends : goal.returns-in-Refused-clause-ends
returns-in-Refused-clause-ends g c = λ p b parts old text drafts of so e n all.
    c.end_apart-in-Refused.ensures.ends p b parts old text drafts e n all (λ agreed. refused_why p b parts text c.args.joint c.in-Refused.line c.in-Refused.is so)

pub returns-in-Whole-clause-ends : goal.returns-in-Whole-clause-ends
returns-in-Whole-clause-ends g c = λ p b parts old text drafts of so e n all.
    kept_joins p b parts c.in-Whole.verdict _ _ _ c.keep_joined.ensures.ends old text drafts (verdict_in p b text c.args.joint c.in-Whole.verdict c.in-Whole.is of) (joins_in p b parts text c.args.joint c.in-Whole.verdict c.in-Whole.is so)
