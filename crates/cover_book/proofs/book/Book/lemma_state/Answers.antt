-- A number is that of a lemma that the book opened with, of one that was learned, or of none.
use Rattle.std.proofs.Common.{◌≡◌, ℕ, ◌-◌, ◌≤◌, List, length, get_or, ap, sym, ◌∙◌, subst, arith}
use Rattle.std.specs.Prelude.{slice_get}
use Rattle.cover_model.specs.State.{State}
use Rattle.cover_book.specs.declared.node.Learned.{Learned}
use Rattle.cover_book.specs.Model.{BookModel, lemma_states_in}
use Rattle.cover_book.proofs.Lookups.{states, learned_state, no_state}
use Rattle.cover_book.proofs.book.Book.lemma_state.Goals as goal

pub returns-in-Some : goal.returns-in-Some
returns-in-Some c =
    let kept : List State = c.self.inside.kept.items in let xs : List Learned = c.deref.result.now in let x : Learned = c.in-Some.lemma.now in
    let h = c.in-Some.ensures.lookup in
    let place : c.args.id - c.len-2.result ≡ c.args.id - length kept = let e : c.len-2.result ≡ length kept = omega (arith, c.len-2.ensures) in ap (λ n. c.args.id - n) e in
    let past : length kept ≤ c.args.id = omega (arith, c.if-id-len.false, c.len.ensures) in
    ap (λ (b : BookModel). slice_get (lemma_states_in b) c.args.id) (sym c.self.view_is) ∙ ap (λ (ys : List Learned). slice_get (states kept ys) c.args.id) (sym c.deref.ensures.value)
    ∙ learned_state kept xs c.args.id x past (omega (arith, h.3.0, place)) (subst (λ (n : ℕ). x ≡ get_or xs n x) place (h.3.1 x))

pub returns-in-None : goal.returns-in-None
returns-in-None c =
    let kept : List State = c.self.inside.kept.items in let xs : List Learned = c.deref.result.now in
    let h = c.in-None.ensures.lookup in
    let place : c.args.id - c.len-2.result ≡ c.args.id - length kept = let e : c.len-2.result ≡ length kept = omega (arith, c.len-2.ensures) in ap (λ n. c.args.id - n) e in
    let past : length kept ≤ c.args.id = omega (arith, c.if-id-len.false, c.len.ensures) in
    ap (λ (b : BookModel). slice_get (lemma_states_in b) c.args.id) (sym c.self.view_is) ∙ ap (λ (ys : List Learned). slice_get (states kept ys) c.args.id) (sym c.deref.ensures.value)
    ∙ no_state kept xs c.args.id past (omega (arith, h.3, place))
