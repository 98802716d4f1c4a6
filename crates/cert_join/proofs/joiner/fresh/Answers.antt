use Rattle.std.proofs.Common.{◌≡◌, ℕ, ◌∙◌, List, length, map, replicate, arith, sym, ap, subst}
use Rattle.cert_join.specs.Ahead.{AreBefore}
use Rattle.cert_join.specs.Gathered.{nowhere}
use Rattle.cert_join.specs.Heads.{all_lines}
use Rattle.cert_join.specs.Spot.{Spot}
use Rattle.cert_join.proofs.Given.{before_start}
use Rattle.cert_join.proofs.joiner.fresh.Goals as goal

pub returns : goal.returns
returns c = λ certs covers e t.
    let many : length certs ≡ c.loop.counter = omega (arith, e, c.loop.auto.counter-end, c.loop-test.false) in
    subst (λ (s : List Spot). AreBefore certs (map all_lines covers) s) (sym (c.loop.invariant ∙ ap (λ (n : ℕ). replicate n nowhere) (sym many))) (before_start certs covers t)
