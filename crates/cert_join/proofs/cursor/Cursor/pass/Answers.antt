use Rattle.std.proofs.Common.{◌≡◌, ◌+◌, ℕ, List, Option, ◌∷◌, None, IfSome, drop, min, ap, sym, ◌∙◌, subst, arith}
use Rattle.cert_join.specs.Spot.{IsBefore, IsLineSize}
use Rattle.cert_join.specs.Held.{spot_of}
use Rattle.cert_join.proofs.Spots.{before_next, rest_behind}
use Rattle.cert_join.proofs.cursor.Cursor.pass.Goals as goal

pub returns-in-Some : goal.returns-in-Some
returns-in-Some c = λ cert l ls b e.
    let s = spot_of c.self.inside in
    let n = c.in-Some.size in
    let size = subst (λ (o : Option ℕ). IfSome o (IsLineSize s.unread s.ended)) c.in-Some.is c.self.invariant.size in
    let left : drop c.saturating_add-self-inside.result c.self.inside.bytes.items ≡ drop (n + 1) s.unread =
    rest_behind c.self.inside.bytes.items c.self.inside.at n c.saturating_add-self-inside.result 18446744073709551615 (omega (arith, c.self.inside.bytes.ok.0)) (c.saturating_add-self-inside.ensures ∙ ap (λ (j : ℕ). min (j + 1) 18446744073709551615) c.saturating_add.ensures) in
    subst (λ (u : List ℕ). IsBefore cert ls (record { unread = u; behind = s.behind; ended = s.ended; size = None })) (sym left)
    (before_next cert l ls s n (subst (IsBefore cert (l ∷ ls)) (sym c.self.view_is) b) size)
