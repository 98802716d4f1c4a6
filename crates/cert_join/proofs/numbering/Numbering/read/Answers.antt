use Rattle.std.proofs.Common.{◌≡◌, Some, Ok, Err, subst}
use Rattle.cert_read.specs.CertLine.{CertLine}
use Rattle.cert_read.specs.LineText.{line_text}
use Rattle.cert_join.specs.declared.numbering.Numbering.{Numbering}
use Rattle.cert_join.specs.Spot.{line_in}
use Rattle.cert_join.specs.Numbered.{line_kind, TakesNext}
use Rattle.cert_join.proofs.Certificates.{reads_next}
use Rattle.cert_join.proofs.numbering.Numbering.read.Goals as goal

pub returns : goal.returns
returns c = λ cert before x t r.
    let s = c.is_ready.new.self in
    let took = subst (λ (h : Numbering). (l : CertLine) → line_in s ≡ Some (line_text l) → TakesNext (line_kind l) (line_text l) h (Ok c.in-Ok.kind) c.take_next.new.self) c.begun-mark.ensures.same c.in-Ok.ensures in
    reads_next cert before x c.args.self.now c.take_next.new.self c.args.cursor.now s c.move_on.new.cursor c.begun-mark.result (Ok c.in-Ok.kind) t r c.begun-mark.ensures.mark
    c.is_ready.ensures.same (c.is_ready.ensures.ready c.if-not-is_ready.false) took (c.move_on.ensures.back, c.move_on.ensures.on)

pub returns-in-Err : goal.returns-in-Err
returns-in-Err c = λ cert before x t r.
    let s = c.is_ready.new.self in
    let took = subst (λ (h : Numbering). (l : CertLine) → line_in s ≡ Some (line_text l) → TakesNext (line_kind l) (line_text l) h (Err c.in-Err.unjoined) c.take_next.new.self) c.begun-mark.ensures.same c.in-Err.ensures in
    reads_next cert before x c.args.self.now c.take_next.new.self c.args.cursor.now s s c.begun-mark.result (Err c.in-Err.unjoined) t r c.begun-mark.ensures.mark
    c.is_ready.ensures.same (c.is_ready.ensures.ready c.if-not-is_ready.false) took tt
