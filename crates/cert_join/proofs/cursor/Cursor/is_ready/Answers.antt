use Rattle.std.proofs.Common.{◌≡◌, ◌⊎◌, ◌<◌, ℕ, List, Option, IsTrue, IfSome, MatchOption, length, sym, subst}
use Rattle.cert_join.specs.Spot.{Spot, IsReady, IsLineSize, HasNoLine}
use Rattle.cert_join.specs.Held.{spot_of}
use Rattle.cert_join.proofs.Spots.{ready_line, ready_none}
use Rattle.cert_join.proofs.cursor.Cursor.is_ready.Goals as goal

pub returns-in-Some-clause-ready : goal.returns-in-Some-clause-ready
returns-in-Some-clause-ready c = λ t.
    let s = spot_of c.self.inside in
    subst (λ (x : Spot). IsReady x) c.self.view_is
    (ready_line s c.in-Some.field-0 c.in-Some.is (subst (λ (o : Option ℕ). IfSome o (IsLineSize s.unread s.ended)) c.in-Some.is c.self.invariant.size))

pub returns-in-Some-size-clause-ready : goal.returns-in-Some-size-clause-ready
returns-in-Some-size-clause-ready c = λ t.
    let s : Spot = record (spot_of c.self.inside) { size = c.size_of_next-self-inside.result } in
    let told = subst (λ (x : Spot). MatchOption c.size_of_next-self-inside.result (HasNoLine x.unread x.ended) (IsLineSize x.unread x.ended)) (sym c.self.view_is) c.size_of_next-self-inside.ensures in
    ready_line s c.in-Some-size.field-0 c.in-Some-size.is (subst (λ (o : Option ℕ). MatchOption o (HasNoLine s.unread s.ended) (IsLineSize s.unread s.ended)) c.in-Some-size.is told)

pub returns-in-None-clause-ready : goal.returns-in-None-clause-ready
returns-in-None-clause-ready c = λ t.
    let s : Spot = record (spot_of c.self.inside) { size = c.size_of_next-self-inside.result } in
    let told = subst (λ (x : Spot). MatchOption c.size_of_next-self-inside.result (HasNoLine x.unread x.ended) (IsLineSize x.unread x.ended)) (sym c.self.view_is) c.size_of_next-self-inside.ensures in
    let rest : c.rest.result.now ≡ s.unread = c.rest.ensures in
    ready_none s c.in-None.is (subst (λ (o : Option ℕ). MatchOption o (HasNoLine s.unread s.ended) (IsLineSize s.unread s.ended)) c.in-None.is told)
    (subst (λ (u : List ℕ). IsTrue s.ended ⊎ (524288 < length u)) rest (c.is_over.ensures t))
