use Rattle.dpoly.proofs.Upgrading.{upgrade_of}
use Rattle.dpoly.proofs.upgrade.write_upgraded.Goals as goal

pub returns-in-Ok-clause-ends : goal.returns-in-Ok-clause-ends
returns-in-Ok-clause-ends g c = upgrade_of c.args.name.now c.args.kept.now c.in-Ok.text.items c.deref.result.now _ _ _ c.in-Ok.ensures.text c.in-Ok.ensures.fits c.deref.ensures.value c.finish.ensures.ends
