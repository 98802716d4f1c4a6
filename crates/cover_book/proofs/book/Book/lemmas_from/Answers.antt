-- The copies so far, with those to come, are the lemmas from a place on.
use Rattle.std.proofs.Common.{◌≡◌, ℕ, ◌+◌, ◌≤◌, List, [], ◌∷◌, ◌++◌, drop, length, min, refl, ap, sym, ◌∙◌, append_assoc, append-nil, arith}
use Rattle.cover_data.specs.Models.{LemmaModel}
use Rattle.std.proofs.Math.ListN.{drop_of_length-le}
use Rattle.cover_model.specs.State.{State}
use Rattle.cover_book.specs.Model.{lemma_states_in, numbered_from}
use Rattle.cover_book.proofs.Copies.{copies_from, next_copy}
use Rattle.cover_book.proofs.Lookups.{states_count, no_gap}
use Rattle.cover_book.proofs.book.Book.lemmas_from.Goals as goal

pub loop-id-init : goal.loop-id-init
loop-id-init c =
    let xs : List State = lemma_states_in c.args.self.now in
    let e : c.min-first.result ≡ min c.args.from (length xs) = omega (arith, c.min-first.ensures, c.lemma_count-count.ensures.count, states_count c.args.self.now) in
    ap (λ ys. ys ++ numbered_from c.min-first.result (drop c.min-first.result xs)) c.new-copies.ensures.items ∙ ap (λ k. numbered_from k (drop k xs)) e ∙ copies_from c.args.from xs

pub unreachable-requires : goal.unreachable-requires
unreachable-requires c = no_gap c.args.self.now c.loop-id.id (omega (arith, c.loop-id-test.true, c.lemma_count-count.ensures.count)) c.in_default.ensures

pub loop-id-preserved : goal.loop-id-preserved
loop-id-preserved c =
    let id : ℕ = c.loop-id.id in let xs : List State = lemma_states_in c.args.self.now in
    let rest : List LemmaModel = numbered_from (id + 1) (drop (id + 1) xs) in
    let q : c.new.result ≡ record { id = id; state = c.in-Some.lemma.now } = c.new.ensures ∙ ap (λ (S : State). record { id = id; state = S }) c.in_ok-state.ensures in
    ap (λ ys. ys ++ rest) c.in_ok-push.ensures.items ∙ append_assoc c.loop-id.copies.items (c.new.result ∷ []) rest ∙ ap (λ (x : LemmaModel). c.loop-id.copies.items ++ (x ∷ rest)) q
    ∙ ap (λ ys. c.loop-id.copies.items ++ ys) (sym (next_copy id xs c.in-Some.lemma.now c.in-Some.ensures)) ∙ c.loop-id.invariant

pub returns : goal.returns
returns c =
    let xs : List State = lemma_states_in c.args.self.now in
    let past : length xs ≤ c.loop-id.id = omega (arith, c.loop-id-test.false, c.lemma_count-count.ensures.count, states_count c.args.self.now) in
    (sym (append-nil c.loop-id.copies.items) ∙ ap (λ ys. c.loop-id.copies.items ++ numbered_from c.loop-id.id ys) (sym (drop_of_length-le xs past)) ∙ c.loop-id.invariant, refl)
