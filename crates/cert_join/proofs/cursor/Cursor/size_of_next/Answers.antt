use Rattle.std.proofs.Common.{◌≡◌, ◌≢◌, ◌+◌, ◌<◌, ℕ, IsTrue, MatchOption, length, drop, get_or, ap, ◌∙◌, subst, arith}
use Rattle.cert_join.specs.Spot.{Spot, IsLineSize, HasNoLine}
use Rattle.cert_join.specs.Held.{spot_of}
use Rattle.cert_join.proofs.Spots.{found_size, found_none, last_size, rest_at}
use Rattle.cert_join.proofs.cursor.Cursor.size_of_next.Goals as goal

pub returns-in-Some : goal.returns-in-Some
returns-in-Some c =
    let s = spot_of c.self.inside in
    let size : c.len.result ≡ length c.self.inside.bytes.items = omega (arith, c.len.ensures, c.self.inside.bytes.ok.0) in
    let rest : c.split_at.result.1.now ≡ s.unread =
    c.split_at.ensures.back ∙ ap (drop c.min-at.result) c.deref.ensures.value ∙ rest_at c.self.inside.bytes.items c.self.inside.at c.min-at.result c.len.result size c.min-at.ensures in
    let from : c.min-from.result ≡ c.self.inside.searched = omega (arith, c.self.invariant.within, ap length rest, c.min-from.ensures) in
    let new : c.split_at-2.result.1.now ≡ drop c.min-from.result s.unread = c.split_at-2.ensures.back ∙ ap (drop c.min-from.result) rest in
    subst (λ (x : Spot). IsLineSize x.unread x.ended (c.min-from.result + c.in-Some.place)) c.self.view_is
    (found_size s.unread c.split_at-2.result.1.now s.ended c.min-from.result c.in-Some.place new (omega (arith, from, c.self.invariant.within)) (λ k o. c.self.invariant.searched k (omega (arith, o, from))) c.in-Some.ensures.0 c.in-Some.ensures.1)

pub returns-in-None : goal.returns-in-None
returns-in-None c =
    let s = spot_of c.self.inside in
    let size : c.len.result ≡ length c.self.inside.bytes.items = omega (arith, c.len.ensures, c.self.inside.bytes.ok.0) in
    let rest : c.split_at.result.1.now ≡ s.unread =
    c.split_at.ensures.back ∙ ap (drop c.min-at.result) c.deref.ensures.value ∙ rest_at c.self.inside.bytes.items c.self.inside.at c.min-at.result c.len.result size c.min-at.ensures in
    let from : c.min-from.result ≡ c.self.inside.searched = omega (arith, c.self.invariant.within, ap length rest, c.min-from.ensures) in
    let new : c.split_at-2.result.1.now ≡ drop c.min-from.result s.unread = c.split_at-2.ensures.back ∙ ap (drop c.min-from.result) rest in
    let none : (k : ℕ) → k < length s.unread → get_or s.unread k 0 ≢ 10 =
    found_none s.unread c.split_at-2.result.1.now c.min-from.result new (omega (arith, from, c.self.invariant.within)) (λ k o. c.self.invariant.searched k (omega (arith, o, from))) c.in-None.ensures in
    subst (λ (x : Spot). MatchOption c.last_size.result (HasNoLine x.unread x.ended) (IsLineSize x.unread x.ended)) c.self.view_is
    (last_size s c.last_size.result none (subst (λ (n : ℕ). MatchOption c.last_size.result (IsTrue s.ended → n ≡ 0) (λ m. (m ≡ n) × IsTrue s.ended × (0 < m))) (ap length rest) c.last_size.ensures))
