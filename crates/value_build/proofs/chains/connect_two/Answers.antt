use Rattle.value_build.proofs.chains.connect_two.Goals as goal

pub returns-in-Next : goal.returns-in-Next
returns-in-Next c = rw c.in-Next.is c.same_two.ensures

pub returns-in-Later : goal.returns-in-Later
returns-in-Later c = rw c.in-Later.is c.exclusive_two.ensures
