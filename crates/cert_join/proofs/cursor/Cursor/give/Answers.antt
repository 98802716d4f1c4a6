use Rattle.std.proofs.Common.{◌≡◌, ◌+◌, ℕ, List, ◌++◌, None, length, drop, ap, sym, ◌∙◌, subst, arith}
use Rattle.std.proofs.lemmas.List.{length-drop}
use Rattle.cert_join.specs.Spot.{Spot, IsBefore, IsPieceAt}
use Rattle.cert_join.specs.Held.{spot_of}
use Rattle.cert_join.proofs.Spots.{before_more, rest_at, empty_by_test}
use Rattle.cert_join.proofs.cursor.Cursor.give.Goals as goal

pub returns : goal.returns
returns c = λ cert ls b p o.
    let s = spot_of c.self.inside in
    let piece = c.args.piece.now in
    let size : c.len.result ≡ length c.self.inside.bytes.items = omega (arith, c.len.ensures, c.self.inside.bytes.ok.0) in
    let b' : IsBefore cert ls s = subst (IsBefore cert ls) (sym c.self.view_is) b in
    let p' : IsPieceAt (drop s.behind cert) piece = subst (λ (x : Spot). IsPieceAt (drop x.behind cert) piece) (sym c.self.view_is) p in
    let left : c.drop-drain.new.self.0.items ≡ s.unread =
    c.drop-drain.ensures.items ∙ c.drain.ensures.kept ∙ rest_at c.self.inside.bytes.items c.self.inside.at c.min-passed.result c.len.result size c.min-passed.ensures in
    let all : c.extend_from_slice.new.self.items ≡ s.unread ++ piece = c.in-Ok.ensures.items ∙ ap (λ (w : List ℕ). w ++ piece) left in
    let behind : c.saturating_add-self-inside.result ≡ s.behind + length piece = omega (arith, c.saturating_add-self-inside.ensures, p'.within, length-drop s.behind cert, b'.reached, b'.few) in
    subst (λ (u : List ℕ). IsBefore cert ls (record { unread = u; behind = c.saturating_add-self-inside.result; ended = c.is_empty-self-inside.result; size = None })) (sym all)
    (subst (λ (n : ℕ). IsBefore cert ls (record { unread = s.unread ++ piece; behind = n; ended = c.is_empty-self-inside.result; size = None })) (sym behind)
    (before_more cert ls s piece c.is_empty-self-inside.result b' p' (empty_by_test piece c.is_empty-self-inside.result c.is_empty-self-inside.ensures)))
