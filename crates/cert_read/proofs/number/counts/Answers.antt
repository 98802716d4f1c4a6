use Rattle.std.proofs.Common.{◌≡◌, ◌<◌, ◌+◌, ℕ, List, Some, length, take, drop, sym, ap, ◌∙◌, arith}
use Rattle.std.proofs.lemmas.List.{take_all, drop-drop}
use Rattle.cert_read.specs.CertLine.{count_of, counts_of}
use Rattle.cert_read.specs.Lines.{words_of}
use Rattle.cert_read.proofs.Counts.{joined, counts_on, counts_last, counts_none}
use Rattle.cert_read.proofs.Parts.{split_front}
use Rattle.cert_read.proofs.number.counts.Goals as goal

pub returns-in-Err : goal.returns-in-Err
returns-in-Err c =
    let rest = c.split_at.result.1.now in
    let size = c.place_of-size.result in
    let ns = c.loop-number.numbers.items in
    let front = split_front 32 rest size c.place_of-size.ensures.within c.place_of-size.ensures.found c.place_of-size.ensures.before in
    c.loop-number.invariant.joined
    ∙ ap (λ (r : List ℕ). joined ns (counts_of (words_of r))) (sym c.split_at.ensures.back)
    ∙ counts_none ns rest (take size rest) front.0 front.1 (ap count_of (sym c.split_at-in-loop-number.ensures.front) ∙ c.in-Err.ensures.1)

pub returns-then-size-rest : goal.returns-then-size-rest
returns-then-size-rest c =
    let rest = c.split_at.result.1.now in
    let size = c.place_of-size.result in
    let ns = c.loop-number.numbers.items in
    let n = c.in-Ok.number in
    let all : size ≡ length rest = omega (arith, c.if-size-rest.true) in
    c.loop-number.invariant.joined
    ∙ ap (λ (r : List ℕ). joined ns (counts_of (words_of r))) (sym c.split_at.ensures.back)
    ∙ counts_last ns rest size n all c.place_of-size.ensures.before (ap count_of (sym (c.split_at-in-loop-number.ensures.front ∙ take_all size rest (omega (arith, all)))) ∙ c.in-Ok.ensures)
    ∙ ap (λ (l : List ℕ). Some l) (sym c.in_ok-push.ensures.items)

pub loop-number-preserved : goal.loop-number-preserved
loop-number-preserved c =
    let rest = c.split_at.result.1.now in
    let size = c.place_of-size.result in
    let at = c.loop-number.at in
    let ns = c.loop-number.numbers.items in
    let n = c.in-Ok.number in
    let more : size < length rest = omega (arith, c.if-size-rest.false, c.place_of-size.ensures.within) in
    let behind : drop (size + 1) rest ≡ drop (at + (size + 1)) c.args.text.now = ap (drop (size + 1)) c.split_at.ensures.back ∙ drop-drop (size + 1) at c.args.text.now in
    record {
      within = omega (arith, more, c.split_at.ensures.back_len, c.loop-number.invariant.within);
      joined = c.loop-number.invariant.joined
          ∙ ap (λ (r : List ℕ). joined ns (counts_of (words_of r))) (sym c.split_at.ensures.back)
          ∙ counts_on ns rest size n more (c.place_of-size.ensures.found more) c.place_of-size.ensures.before (ap count_of (sym c.split_at-in-loop-number.ensures.front) ∙ c.in-Ok.ensures)
          ∙ ap (λ (l : List ℕ). joined l (counts_of (words_of (drop (size + 1) rest)))) (sym c.in_ok-push.ensures.items)
          ∙ ap (λ (r : List ℕ). joined c.push.new.self.items (counts_of (words_of r))) behind;
    }
