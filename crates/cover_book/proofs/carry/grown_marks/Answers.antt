use Rattle.std.proofs.Common.{◌≡◌, ℕ, suc, ◌+◌, ◌-◌, List, ◌++◌, ap, ◌∙◌, replicate, take, slice_set, arith}
use Rattle.poly_graph.specs.Marks.{Mark, unmarked, mark_at}
use Rattle.cover_book.proofs.Carries.{next_mark}
use Rattle.cover_book.proofs.carry.grown_marks.Goals as goal

pub loop-j-preserved : goal.loop-j-preserved
loop-j-preserved c =
    let j : ℕ = c.loop-j.j in let marks : List Mark = c.args.marks.now in let one : suc j ≡ j + 1 = omega arith in
    c.set.ensures ∙ ap (slice_set c.loop-j.grown j) c.mark.ensures ∙ ap (λ (ms : List Mark). slice_set ms j (mark_at marks j)) c.loop-j.invariant
    ∙ next_mark marks j c.args.atoms (omega (arith, c.loop-j-test.true, c.len-j-end.ensures)) c.requires.atoms ∙ ap (λ i. take i marks ++ replicate (c.args.atoms - i) unmarked) one
