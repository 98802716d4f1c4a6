-- A problem without axes and atoms needs no rows and no marks.
use Rattle.std.proofs.Common.{◌≡◌, List, [], length, sym, ap, ◌∙◌, arith, replicate}
use Rattle.poly_graph.specs.ProblemViews.{Parts}
use Rattle.poly_graph.specs.Marks.{Mark, unmarked}
use Rattle.interval_model.specs.Interval.{Interval, nothing}
use Rattle.interval_model.specs.Space.{Space}
use Rattle.form_truth.specs.Truth.{HasRows}

pub no_rows : (p : Parts) (space : Space) (es : List Interval) → p.nodes ≡ [] → p.atoms ≡ [] → es ≡ replicate 0 nothing → HasRows p space es
no_rows p space es n a e = record {
  count = ap length e ∙ sym (ap length n);
  rows = λ j h. absurd (omega (arith, h, ap length a));
}

pub no_marks : (p : Parts) (marks : List Mark) → p.atoms ≡ [] → marks ≡ replicate 0 unmarked → length marks ≡ length p.atoms
no_marks p marks a e = ap length e ∙ sym (ap length a)
