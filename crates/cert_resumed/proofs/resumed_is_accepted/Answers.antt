use Rattle.cert_resumed.proofs.Resumes
use Rattle.cert_resumed.proofs.resumed_is_accepted.Goals as goal

pub returns-clause-accepted : goal.returns-clause-accepted
returns-clause-accepted c = Resumes.resumed_accepted

pub returns-clause-branches : goal.returns-clause-branches
returns-clause-branches c = Resumes.resumed_branches

pub returns-clause-honest : goal.returns-clause-honest
returns-clause-honest c = Resumes.resumed_honest
