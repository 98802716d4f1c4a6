use Rattle.std.proofs.Common.{◌≡◌, ◌∙◌, ◌∷◌, ◌-◌, ℕ, List, arith, drop, get_or, length, subst, sym, take, ap}
use Rattle.std.proofs.lemmas.Bool.{MatchBool-at_false, MatchBool-at_true}
use Rattle.std.proofs.lemmas.List.{take_all}
use Rattle.cert_join.specs.Gathered.{AllThere, AreAlike}
use Rattle.cert_join.proofs.Comparing.{one_here}
use Rattle.cert_join.proofs.Differing.{weighed_state}
use Rattle.cert_join.proofs.trees.Trees.go_on.Goals as goal

first-read : (now rest : List ℕ) (r p : ℕ) → p ∷ rest ≡ now → r ≡ get_or now 0 r → r ≡ p
first-read now rest r p e f = f ∙ ap (λ z. get_or z 0 r) (sym e)

rest-read : (now d rest : List ℕ) (p : ℕ) → p ∷ rest ≡ now → d ≡ now → rest ≡ take (length d - 1) (drop 1 d)
rest-read now d rest p e f = sym (ap (λ z. take (length z - 1) (drop 1 z)) (f ∙ sym e) ∙ take_all (length (p ∷ rest) - 1) rest (omega arith))

pub returns-then-len-eq1 : goal.returns-then-len-eq1
returns-then-len-eq1 c k same h go =
    one_here k _ _ _ _ _ h (first-read _ _ _ _ h.here c.index-part.ensures) go (sym c.args.parts.ok.0 ∙ sym c.len.ensures ∙ c.if-len-eq1.true)

pub returns-then-branch : goal.returns-then-branch
returns-then-branch c k same h go =
    let b = first-read _ _ _ _ h.here c.index-part.ensures in
    let m = c.in_ok-are_alike.ensures h.first h.others (sym b) (rest-read _ _ _ _ h.here c.deref.ensures.value) (subst (λ z. AllThere z c.args.cursors.now) (sym h.here) h.there.0) h.next in
    c.in_ok-share.ensures k same h b go (subst (λ z. AreAlike z h.first h.others) (sym same) (MatchBool-at_true _ _ c.if-branch.true m))

pub returns : goal.returns
returns c k same h go =
    let b = first-read _ _ _ _ h.here c.index-part.ensures in
    let m = c.in_ok-are_alike.ensures h.first h.others (sym b) (rest-read _ _ _ _ h.here c.deref.ensures.value) (subst (λ z. AllThere z c.args.cursors.now) (sym h.here) h.there.0) h.next in
    weighed_state k _ _ _ _ _ h go (subst (λ z. AreAlike z h.first h.others → ⊥) (sym same) (MatchBool-at_false _ _ c.if-branch.false m)) c.new.ensures
