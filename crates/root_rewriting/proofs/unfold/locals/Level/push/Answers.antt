use Rattle.std.proofs.Common.{◌∙◌, ap, sym, subst, Some, List, ℕ}
use Rattle.std.specs.Prelude.{is_some}
use Rattle.std.specs.Borrow.{Bor}
use Rattle.std.specs.HashMap.{UpdatesBy, get_by}
use Rattle.std.specs.Str.{bytes_eq}
use Rattle.root_rewriting.proofs.Nearest.{indexed_again, indexed_more}
use Rattle.root_rewriting.proofs.unfold.locals.Level.push.Goals as goal

pub invariant_of-self-then-contains_key : goal.invariant_of-self-then-contains_key
invariant_of-self-then-contains_key c =
    let known = ap (λ x. is_some (get_by (λ k. bytes_eq x k.now) c.self.inside.first)) (sym c.as_slice.ensures) ∙ sym c.contains_key.ensures ∙ c.if-contains_key.true in
    rw (c.push_reserved.ensures.items) (rw (c.reserve.ensures.items) (indexed_again c.self.inside.names.items c.args.local c.self.inside.first c.self.invariant known))

pub invariant_of-self-2 : goal.invariant_of-self-2
invariant_of-self-2 c =
    let new = ap (λ x. is_some (get_by (λ k. bytes_eq x k.now) c.self.inside.first)) (sym c.as_slice.ensures) ∙ sym c.contains_key.ensures ∙ c.if-contains_key.false in
    let updates = subst (λ (x : List ℕ). UpdatesBy (λ (a b : Bor (List ℕ)). bytes_eq a.now b.now) (λ k. bytes_eq x k.now) c.self.inside.first c.insert.new.self (Some c.args.local.node)) c.as_slice-2.ensures c.in_ok-insert.ensures.updates in
    rw (c.push_reserved-2.ensures.items) (rw (c.reserve.ensures.items) (indexed_more c.self.inside.names.items c.args.local c.self.inside.first c.insert.new.self c.self.invariant new updates))
