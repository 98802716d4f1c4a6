use Rattle.std.proofs.Common.{◌≡◌, ◌<◌, ◌≤◌, ◌+◌, ◌∷◌, ℕ, List, Ok, Err, Some, None, length, take, drop, get_or, refl, sym, ap, ◌∙◌, subst, arith}
use Rattle.cert_read.specs.State.{Reading}
use Rattle.cert_read.specs.Held.{reading_of}
use Rattle.cert_read.specs.Reading.{IsNextLine, lines_ahead}
use Rattle.cert_read.specs.declared.fault.LineFault.TheVariants.{LineTooLong}
use Rattle.cert_read.proofs.Answered.{NoFeed, told_long, told_none, none_whole, is_last, left, first_line, last_line, told_fault, told_line, behind_place}
use Rattle.cert_read.proofs.reader.LineReader.next_line.Goals as goal
use Rattle.cert_read.proofs.reader.LineReader.next_line.Goals.{then-size-unread+else-size-gt-LONGEST+else-not-is_last_line, else-size-unread}

pub returns-then-size-gt-LONGEST-clause-lines : goal.returns-then-size-gt-LONGEST-clause-lines
returns-then-size-gt-LONGEST-clause-lines c =
    let r = reading_of c.self.inside in
    let n = c.place_of-size.result in
    let back : c.split_at.result.1.now ≡ r.unread = c.split_at.ensures.back ∙ ap (drop c.self.inside.at) c.deref.ensures.value in
    let all : n ≡ length r.unread = omega (arith, c.if-size-unread.true, ap length back) in
    let none : NoFeed r.unread n = subst (λ u. NoFeed u n) back c.place_of-size.ensures.before in
    subst (λ s. IsNextLine (lines_ahead s) s s (Err LineTooLong)) c.self.view_is (told_long r n all c.if-size-gt-LONGEST.true none)

pub returns-then-not-is_last_line-clause-lines : goal.returns-then-not-is_last_line-clause-lines
returns-then-not-is_last_line-clause-lines c =
    let r = reading_of c.self.inside in
    let n = c.place_of-size.result in
    let back : c.split_at.result.1.now ≡ r.unread = c.split_at.ensures.back ∙ ap (drop c.self.inside.at) c.deref.ensures.value in
    let all : n ≡ length r.unread = omega (arith, c.if-size-unread.true, ap length back) in
    let none : NoFeed r.unread n = subst (λ u. NoFeed u n) back c.place_of-size.ensures.before in
    subst (λ s. IsNextLine (lines_ahead s) s r (Ok None)) c.self.view_is
    (told_none r r (none_whole r n (sym c.if-not-is_last_line.ensures) all (omega (arith, c.if-size-gt-LONGEST.false)) none) refl)

pub returns-in-Err-clause-lines : goal.returns-in-Err-clause-lines
returns-in-Err-clause-lines c =
    let r = reading_of c.self.inside in
    let n = c.place_of-size.result in
    let back : c.split_at.result.1.now ≡ r.unread = c.split_at.ensures.back ∙ ap (drop c.self.inside.at) c.deref.ensures.value in
    let none : NoFeed r.unread n = subst (λ u. NoFeed u n) back c.place_of-size.ensures.before in
    let within : n ≤ length r.unread = omega (arith, c.place_of-size.ensures.within, ap length back) in
    let front : c.split_at-2.result.0.now ≡ take n r.unread = c.split_at-2.ensures.front ∙ ap (take n) back in
    let ahead : lines_ahead r ≡ take n r.unread ∷ lines_ahead (left r n) = elim c.if-size-unread.branch [
      | then-size-unread+else-size-gt-LONGEST+else-not-is_last_line w ↦ (
          let all : n ≡ length r.unread = omega (arith, w.if-size-unread.true, ap length back) in
          let last = is_last n r.ended (sym w.if-not-is_last_line.ensures) in
          last_line r n last.1 all last.0 none
          )
      | else-size-unread w ↦ (
          let more : n < length c.split_at.result.1.now = omega (arith, w.if-size-unread.false, c.place_of-size.ensures.within) in
          first_line r n (omega (arith, more, ap length back)) (subst (λ u. get_or u n 0 ≡ 10) back (c.place_of-size.ensures.found more)) none
          )
    ] in
    subst (λ s. IsNextLine (lines_ahead s) s s (Err c.in-Err.fault)) c.self.view_is (told_fault r n c.split_at-2.result.0.now c.in-Err.fault ahead front c.in-Err.ensures)

pub returns-in-Ok-clause-lines : goal.returns-in-Ok-clause-lines
returns-in-Ok-clause-lines c =
    let r = reading_of c.self.inside in
    let n = c.place_of-size.result in
    let back : c.split_at.result.1.now ≡ r.unread = c.split_at.ensures.back ∙ ap (drop c.self.inside.at) c.deref.ensures.value in
    let none : NoFeed r.unread n = subst (λ u. NoFeed u n) back c.place_of-size.ensures.before in
    let within : n ≤ length r.unread = omega (arith, c.place_of-size.ensures.within, ap length back) in
    let front : c.split_at-2.result.0.now ≡ take n r.unread = c.split_at-2.ensures.front ∙ ap (take n) back in
    let ahead : lines_ahead r ≡ take n r.unread ∷ lines_ahead (left r n) = elim c.if-size-unread.branch [
      | then-size-unread+else-size-gt-LONGEST+else-not-is_last_line w ↦ (
          let all : n ≡ length r.unread = omega (arith, w.if-size-unread.true, ap length back) in
          let last = is_last n r.ended (sym w.if-not-is_last_line.ensures) in
          last_line r n last.1 all last.0 none
          )
      | else-size-unread w ↦ (
          let more : n < length c.split_at.result.1.now = omega (arith, w.if-size-unread.false, c.place_of-size.ensures.within) in
          first_line r n (omega (arith, more, ap length back)) (subst (λ u. get_or u n 0 ≡ 10) back (c.place_of-size.ensures.found more)) none
          )
    ] in
    let new : Reading = record { unread = drop c.min-self-inside.result c.self.inside.bytes.items; ended = c.self.inside.ended } in
    let size : c.len.result ≡ length c.self.inside.bytes.items = omega (arith, c.len.ensures, c.self.inside.bytes.ok.0) in
    let behind : drop c.min-self-inside.result c.self.inside.bytes.items ≡ drop (n + 1) r.unread =
    behind_place c.self.inside.bytes.items r.unread c.self.inside.at n c.min-self-inside.result c.len.result size refl c.min-self-inside.ensures in
    subst (λ s. IsNextLine (lines_ahead s) s new (Ok (Some c.in-Ok.line))) c.self.view_is
    (told_line r new n c.split_at-2.result.0.now c.in-Ok.line within ahead front c.in-Ok.ensures (ap (λ (u : List ℕ). record { unread = u; ended = c.self.inside.ended }) behind))

pub returns-then-not-is_last_line-clause-held : goal.returns-then-not-is_last_line-clause-held
returns-then-not-is_last_line-clause-held c =
    let back : c.split_at.result.1.now ≡ drop c.self.inside.at c.self.inside.bytes.items = c.split_at.ensures.back ∙ ap (drop c.self.inside.at) c.deref.ensures.value in
    omega (arith, c.if-size-unread.true, c.if-size-gt-LONGEST.false, ap length back)
