use Rattle.std.proofs.Common.{◌≡◌, ◌+◌, take, drop, subst, sym, ap, ◌∙◌, arith}
use Rattle.std.proofs.lemmas.List.{drop-drop}
use Rattle.smt_sexp.specs.Lexicon.{place_after, read}
use Rattle.smt_sexp.specs.Step.{GoesOn, IsReading}
use Rattle.smt_sexp.specs.Views.{place_of}
use Rattle.smt_sexp.proofs.reading.read_text.Goals as goal
use Rattle.smt_sexp.proofs.reading.read_text.Goals.{In_ok-step}

-- the text behind this front
gone_on : (c : In_ok-step) → GoesOn c.step.new.building (place_after (place_of c.loop-at.place) (take c.in_ok-found.found.size c.split_at.result.1.now)) (drop c.in_ok-found.found.size c.split_at.result.1.now)
    (read c.args.bytes.now) c.in_ok-step.field-0
gone_on c =
    c.in_ok-step.ensures.ok (read c.args.bytes.now)
    (subst (λ rest. IsReading c.loop-at.building (place_of c.loop-at.place) rest (read c.args.bytes.now)) (sym c.split_at.ensures.back) c.loop-at.invariant.reading)

pub returns-then-branch : goal.returns-then-branch
returns-then-branch c =
    c.finish.ensures (read c.args.bytes.now)
    (subst (GoesOn c.step.new.building (place_after (place_of c.loop-at.place) (take c.in_ok-found.found.size c.split_at.result.1.now)) (drop c.in_ok-found.found.size c.split_at.result.1.now)
    (read c.args.bytes.now)) c.if-branch.true (gone_on (goal.at.returns-then-branch c).In_ok-step))

pub loop-at-preserved : goal.loop-at-preserved
loop-at-preserved c =
    let size = c.in_ok-found.found.size in
    let rest = c.split_at.result.1.now in
    let on = subst (GoesOn c.step.new.building (place_after (place_of c.loop-at.place) (take size rest)) (drop size rest) (read c.args.bytes.now)) c.if-branch.false (gone_on (goal.at.loop-at-preserved c).In_ok-step) in
    let place : place_after (place_of c.loop-at.place) (take size rest) ≡ place_of c.after-place.result =
    sym (c.after-place.ensures.value ∙ ap (place_after (place_of c.loop-at.place)) c.split_at-in-loop-at.ensures.front) in
    let behind : drop size rest ≡ drop (c.loop-at.at + size) c.args.bytes.now = ap (drop size) c.split_at.ensures.back ∙ drop-drop size c.loop-at.at c.args.bytes.now in
    record {
      within = omega (arith, c.in_ok-found.ensures.within, c.split_at.ensures.back_len);
      line = omega (arith, c.after-place.ensures.line, c.split_at-in-loop-at.ensures.front_len, c.loop-at.invariant.line);
      column = omega (arith, c.after-place.ensures.column, c.split_at-in-loop-at.ensures.front_len, c.loop-at.invariant.column);
      count = omega (arith, c.in_ok-step.ensures.count, c.in_ok-found.ensures.some, c.loop-at.invariant.count);
      reading = subst (λ p. IsReading c.step.new.building p (drop (c.loop-at.at + size) c.args.bytes.now) (read c.args.bytes.now)) place
          (subst (λ text. IsReading c.step.new.building (place_after (place_of c.loop-at.place) (take size rest)) text (read c.args.bytes.now)) behind on);
    }
