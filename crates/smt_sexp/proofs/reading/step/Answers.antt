use Rattle.std.proofs.Common.{◌<◌, ◌≤◌, length, subst, sym, ap, refl, ◌∙◌, arith}
use Rattle.smt_sexp.specs.FrontOf.{IsPieceOf, front_of}
use Rattle.smt_sexp.specs.Lexicon.{faulty, bad_byte, place_after}
use Rattle.smt_sexp.specs.TextAnswers.{text_fault}
use Rattle.smt_sexp.specs.Views.{place_of, leaf_of}
use Rattle.smt_sexp.proofs.Steps.{blank, opens, deep, leafs, stops, unended, wide, unopened_all, closed_step, open_length, not_none, is_none}
use Rattle.smt_sexp.proofs.reading.step.Goals as goal

pub returns-in-Blank-clause-ok : goal.returns-in-Blank-clause-ok
returns-in-Blank-clause-ok c = λ all r.
    let F = c.requires.found in
    let bytes = c.args.rest.now in
    (r.0, r.1, r.2, r.3 ∙ blank bytes (place_of c.args.place) c.args.found.size c.requires.some F.size F.some r.0 r.1 (subst (IsPieceOf (length bytes) (front_of bytes)) c.in-Blank.is F.tells))

pub returns-then-len-ge-MOST_DEPTH-clause-err : goal.returns-then-len-ge-MOST_DEPTH-clause-err
returns-then-len-ge-MOST_DEPTH-clause-err c = λ all r.
    let F = c.requires.found in
    let bytes = c.args.rest.now in
    let many : 256 ≤ length r.0 = omega (arith, open_length c.args.building.now r.0 r.1 r.2, c.len.ensures, c.args.building.now.open.ok.0) in
    rw c.at.ensures (ap text_fault (r.3 ∙ deep bytes (place_of c.args.place) c.args.found.size c.requires.some F.size F.some r.0 r.1 (subst (IsPieceOf (length bytes) (front_of bytes)) c.in-Opening.is F.tells) many))

pub returns-in_ok-open-in-Opening-clause-ok : goal.returns-in_ok-open-in-Opening-clause-ok
returns-in_ok-open-in-Opening-clause-ok c = λ all r.
    let F = c.requires.found in
    let bytes = c.args.rest.now in
    let few : length r.0 < 256 = omega (arith, open_length c.args.building.now r.0 r.1 r.2, c.len.ensures, c.args.building.now.open.ok.0) in (
      _,
      _,
      c.in_ok-open-in-Opening.ensures.stands r.0 r.1 r.2,
      r.3 ∙ opens bytes (place_of c.args.place) c.args.found.size c.requires.some F.size F.some r.0 r.1 (subst (IsPieceOf (length bytes) (front_of bytes)) c.in-Opening.is F.tells) few,
    )

pub returns-then-is_empty-clause-err : goal.returns-then-is_empty-clause-err
returns-then-is_empty-clause-err c = λ all r.
    let F = c.requires.found in
    let bytes = c.args.rest.now in
    let none = is_none _ c.if-is_empty.ensures in
    rw c.at-then-is_empty.ensures (ap text_fault (r.3 ∙ unopened_all bytes (place_of c.args.place) c.args.found.size c.requires.some F.size F.some r.0 r.1
    (omega (arith, open_length c.args.building.now r.0 r.1 r.2, c.args.building.now.open.ok.0, none)) (subst (IsPieceOf (length bytes) (front_of bytes)) c.in-Closing.is F.tells)))

pub close-requires-clause-some : goal.close-requires-clause-some
close-requires-clause-some c =
    let r = c.requires.stands in
    let some = not_none _ c.if-is_empty.ensures in
    (r.0, r.1, r.2, omega (arith, open_length c.args.building.now r.0 r.1 r.2, c.args.building.now.open.ok.0, some))

pub returns-in_ok-ends-in-Closing-clause-ok : goal.returns-in_ok-ends-in-Closing-clause-ok
returns-in_ok-ends-in-Closing-clause-ok c = λ all r.
    let F = c.requires.found in
    let bytes = c.args.rest.now in
    let some = not_none _ c.if-is_empty.ensures in
    closed_step c.args.building.now c.close.new.self bytes (place_of c.args.place) c.args.found.size c.requires.some F.size F.some r.0 r.1 c.in_ok-ends-in-Closing.ends all
    (omega (arith, open_length c.args.building.now r.0 r.1 r.2, c.args.building.now.open.ok.0, some)) r.2 (subst (IsPieceOf (length bytes) (front_of bytes)) c.in-Closing.is F.tells)
    c.in_ok-ends-in-Closing.ensures.stands r.3

pub returns-in_ok-leaf-in-Word-clause-ok : goal.returns-in_ok-leaf-in-Word-clause-ok
returns-in_ok-leaf-in-Word-clause-ok c = λ all r.
    let F = c.requires.found in
    let bytes = c.args.rest.now in (
      _,
      _,
      rw c.in-Word.is at (c.in_ok-leaf-in-Word.ensures.stands r.0 r.1 r.2),
      r.3 ∙ leafs bytes (place_of c.args.place) c.args.found.size c.requires.some F.size F.some r.0 r.1 (leaf_of c.in-Word.leaf) (subst (IsPieceOf (length bytes) (front_of bytes)) c.in-Word.is F.tells),
    )

pub returns-in-BadByte-clause-err : goal.returns-in-BadByte-clause-err
returns-in-BadByte-clause-err c = λ all r.
    let F = c.requires.found in
    let bytes = c.args.rest.now in
    let told = subst (IsPieceOf (length bytes) (front_of bytes)) c.in-BadByte.is F.tells in
    rw c.at-in-BadByte.ensures (ap text_fault (r.3 ∙ stops bytes (place_of c.args.place) c.args.found.size c.requires.some F.size F.some r.0 r.1 c.in-BadByte.distance bad_byte told.1 refl ∙
    ap (λ p. faulty p bad_byte) (sym (c.after.ensures.value ∙ ap (place_after (place_of c.args.place)) c.split_at.ensures.front))))

pub returns-in-TooWide-clause-err : goal.returns-in-TooWide-clause-err
returns-in-TooWide-clause-err c = λ all r.
    let F = c.requires.found in
    let bytes = c.args.rest.now in
    rw c.at-in-TooWide.ensures (ap text_fault (r.3 ∙ wide bytes (place_of c.args.place) c.args.found.size c.requires.some F.size F.some r.0 r.1 (subst (IsPieceOf (length bytes) (front_of bytes)) c.in-TooWide.is F.tells)))

pub returns-in-Unended-clause-err : goal.returns-in-Unended-clause-err
returns-in-Unended-clause-err c = λ all r.
    let F = c.requires.found in
    let bytes = c.args.rest.now in
    let told = subst (IsPieceOf (length bytes) (front_of bytes)) c.in-Unended.is F.tells in
    rw c.at-in-Unended.ensures (ap text_fault (r.3 ∙ unended bytes (place_of c.args.place) c.args.found.size c.requires.some F.size F.some r.0 r.1 told.0 (F.size ∙ told.1)))
