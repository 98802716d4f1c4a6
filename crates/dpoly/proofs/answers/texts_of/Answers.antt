use Rattle.std.proofs.Common.{◌≡◌, ◌+◌, ◌∷◌, ◌++◌, ◌∙◌, ℕ, suc, List, drop, ap, ap₂, sym, subst, arith}
use Rattle.std.proofs.Math.Seq.{drop-cons}
use Rattle.cover_book.specs.Model.{BookModel}
use Rattle.dpoly.proofs.SessionAnswers.{TextsSoFar, one_text}
use Rattle.dpoly.proofs.answers.texts_of.Goals as goal

pub loop-book-preserved : goal.loop-book-preserved
loop-book-preserved c =
    let bs : List BookModel = c.args.books.now in
    let k : ℕ = c.loop-book.book-index in
    let x : BookModel = c.book-item.result in
    let next : suc k ≡ k + 1 = omega arith in
    let split : drop k bs ≡ x ∷ drop (k + 1) bs = drop-cons bs k x (omega (arith, c.loop-book-test.true)) ∙ ap₂ (λ (y : BookModel) (ys : List BookModel). y ∷ ys) (sym c.book-item.is) (ap (λ (n : ℕ). drop n bs) next) in
    let so_far = subst (λ (left : List BookModel). TextsSoFar c.args.options.now bs left c.loop-book.text.items) split c.loop-book.invariant in
    one_text c.args.options.now bs x (drop (k + 1) bs) c.loop-book.text.items c.in_ok-one.one.items c.extend_from_slice.new.self.items so_far c.in_ok-one.ensures
    (c.in_ok-extend_from_slice.ensures.items ∙ ap (λ (t : List ℕ). c.loop-book.text.items ++ t) c.deref.ensures.value)
