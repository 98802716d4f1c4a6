use Rattle.std.proofs.Common.{◌+◌, ap, sym, ◌∙◌, length, ◌<◌, arith, drop}
use Rattle.cert_read.specs.CertLine.{are_paired}
use Rattle.cert_read.specs.Lines.{words_of}
use Rattle.cert_read.proofs.Paired.{turned, space_at, other_at}
use Rattle.cert_read.proofs.number.are_paired.Goals as goal
use Rattle.cert_read.proofs.number.are_paired.Goals.{then-b-eq32, else-b-eq32}

pub loop-b-preserved : goal.loop-b-preserved
loop-b-preserved c =
    let text = c.args.text.now in
    let i = c.loop-b.b-index in
    let within : i < length text = omega arith in
    elim c.if-b-eq32.branch [
      | then-b-eq32 w ↦ ap (λ t. turned t (are_paired (words_of (drop (i + 1) text)))) w.even-is ∙ sym (space_at c.loop-b.even text i within w.if-b-eq32.true) ∙ c.loop-b.invariant
      | else-b-eq32 w ↦ ap (λ t. turned t (are_paired (words_of (drop (i + 1) text)))) w.even-is ∙ sym (other_at c.loop-b.even text i within w.if-b-eq32.false) ∙ c.loop-b.invariant
    ]
