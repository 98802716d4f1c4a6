use Rattle.demo_law.proofs.Faultless as law
use Rattle.demo_law.proofs.demo_is_faultless.Goals as goal

-- src/lib.rt:10:1
pub returns : goal.returns
returns c = law.demo_is_faultless
