use Rattle.std.proofs.Common.{ℕ, List, refl, sym, subst, arith}
use Rattle.cert_join.specs.Ahead.{AreBefore}
use Rattle.cert_join.proofs.Headers.{ahead_at_first}
use Rattle.cert_join.proofs.heads.Heads.new.Goals as goal

pub returns : goal.returns
returns c = λ certs covers spots b. record {
  before = subst (λ (lss : List (List (List ℕ))). AreBefore certs lss spots) (sym (ahead_at_first covers)) b;
  read = record {
    row = omega arith;
    version = refl;
    margin = record { new = λ _. c.new.ensures.items; kept = λ i x e h. absurd (omega (arith, h)) };
    delta = record { new = λ _. c.new-2.ensures.items; kept = λ i x e h. absurd (omega (arith, h)) };
    bound = record { new = λ _. c.new-3.ensures.items; kept = λ i x e h. absurd (omega (arith, h)) };
    point = refl;
    counts = c.new-4.ensures.items;
  };
}
