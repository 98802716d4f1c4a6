use Rattle.std.proofs.Common.{refl}
use Rattle.cert_check.proofs.PartEnds.{is_within, stays_inside}
use Rattle.cert_check.proofs.part.inside.Goals as goal

pub returns-in_default : goal.returns-in_default
returns-in_default c = record {
  comes = stays_inside c.args.part.now c.args.due (is_within c.args.due c.in_default.not-Nothing);
  part = c.requires.part;
  sound = c.requires.sound;
  checks = λ b. refl;
}
