use Rattle.std.proofs.Common.{◌≡◌, ◌<◌, ◌∷◌, ◌∙◌, List, ℕ, length, arith, sym, subst}
use Rattle.std.proofs.lemmas.Bool.{eqb-false, eqb-true}
use Rattle.std.specs.Vec.{vec_len}
use Rattle.cert_join.specs.Gathered.{AreDistinct, ArePassed}
use Rattle.cert_join.proofs.Comparing.{going_here, here_due, leaving_here}
use Rattle.cert_join.proofs.trees.Trees.compare.Goals as goal

more-than-none : (n : ℕ) → (n ≡ 0 → ⊥) → 0 < n
more-than-none n h = omega arith

pub returns-then-is_empty : goal.returns-then-is_empty
returns-then-is_empty c k same ready d =
    let h = here_due k _ _ _ _ d ready in
    let s = c.in_ok-sorted.ensures (h.first ∷ h.others) h.here h.there.0 h.next in
    let e : length c.in_ok-sorted.sorted.grown.items ≡ 0 = sym c.in_ok-sorted.sorted.grown.ok.0 ∙ eqb-true _ _ (sym c.is_empty.ensures ∙ c.if-is_empty.true) in
    c.in_ok-leave.ensures k _ same h (leaving_here k _ _ _ _ c.args.cursors.now h _ s.0 e)

pub returns : goal.returns
returns c k same ready d =
    let h = here_due k _ _ _ _ d ready in
    let s = c.in_ok-sorted.ensures (h.first ∷ h.others) h.here h.there.0 h.next in
    let ne : vec_len c.in_ok-sorted.sorted.grown ≡ 0 → ⊥ = eqb-false _ _ (sym c.is_empty.ensures ∙ c.if-is_empty.false) in
    let l : c.in_ok-sorted.sorted.grown.len ≡ length c.in_ok-sorted.sorted.grown.items = c.in_ok-sorted.sorted.grown.ok.0 in
    let some : 0 < length c.in_ok-sorted.sorted.grown.items = more-than-none _ (λ q. ne (l ∙ q)) in
    let P : List ℕ → Type 0 = λ z. AreDistinct z → ArePassed z c.args.cursors.now c.pass_all.new.cursors in
    let n = going_here k _ _ _ _ c.pass_all.new.cursors h _ _ s.0 s.1 some (subst P c.deref.ensures.value c.pass_all.ensures) in
    c.in_ok-task.ensures k same n.0 n.1
