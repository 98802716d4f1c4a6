use Rattle.std.proofs.Common.{◌≡◌, arith, ap, subst, ◌∙◌, Some, List, ℕ, length}
use Rattle.std.specs.Borrow.{Bor}
use Rattle.std.specs.HashMap.{UpdatesBy, get_by}
use Rattle.std.specs.Str.{bytes_eq}
use Rattle.root_rewriting.proofs.NameTables.{table_more}
use Rattle.root_rewriting.proofs.unfold.top.TopTable.push.Goals as goal

pub invariant_of-self-2 : goal.invariant_of-self-2
invariant_of-self-2 c =
    let t = c.args.top in let entries = c.self.inside.entries.items in
    let counted : c.len.result ≡ length entries = omega (arith, c.len.ensures, c.reserve.new.self.ok.0, ap length c.reserve.ensures.items) in
    let updates = subst (λ n. UpdatesBy (λ (a b : Bor (List ℕ)). bytes_eq a.now b.now) (λ k. bytes_eq t.name.now k.now) c.self.inside.last c.insert.new.self (Some n)) counted
    (subst (λ x. UpdatesBy (λ (a b : Bor (List ℕ)). bytes_eq a.now b.now) (λ k. bytes_eq x k.now) c.self.inside.last c.insert.new.self (Some c.len.result)) c.as_slice.ensures c.in_ok-earlier.ensures.updates) in
    let before = c.in_ok-earlier.ensures.old ∙ ap (λ x. get_by (λ k. bytes_eq x k.now) c.self.inside.last) c.as_slice.ensures in
    rw (c.push_reserved.ensures.items) (rw (c.reserve.ensures.items) (table_more entries t c.in_ok-earlier.earlier c.self.inside.last c.insert.new.self c.self.invariant before updates))
