use Rattle.std.proofs.Common.{◌∷◌, refl}
use Rattle.cert_join.proofs.Choices.{starts}
use Rattle.cert_join.proofs.weighing.Weighing.new.Goals as goal

pub returns : goal.returns
returns c = λ certs lines spots b more parts before ahead apart. record {
  lines = lines;
  due = b ∷ more;
  before = before;
  parts = parts;
  ends = refl;
  apart = apart;
  first = starts certs lines (b ∷ more) _ ahead refl refl refl;
  choosing = refl;
}
