use Rattle.std.proofs.Common.{◌≡◌, ◌∙◌, ◌∷◌, List, ℕ, ap, length, subst, sym}
use Rattle.cert_join.specs.declared.trees.Task.{Task}
use Rattle.cert_join.specs.Gathered.{AllReady}
use Rattle.cert_join.specs.Due.{IsDue, IsNextDue, stacked}
use Rattle.cert_join.proofs.Stepping.{due_over, due_resized, stacked_push, stacked_none}
use Rattle.cert_join.proofs.trees.Trees.step_to_place.Goals as goal

pub returns-in_default : goal.returns-in_default
returns-in_default c k same is d =
    let e : length c.args.self.now.places.items ≡ 0 = sym c.args.self.now.places.ok.0 ∙ c.in_default.ensures.cases.0 in
    due_over k _ _ _ (stacked_none _ e) d

pub returns-in-Some-unread_of : goal.returns-in-Some-unread_of
returns-in-Some-unread_of c k same is d =
    let P : Task → Type 0 = λ z. IsNextDue k z (stacked c.push.new.self.items) c.args.text.now.items c.unread_of.new.cursors in
    let Q : List (List ℕ) → Type 0 = λ z. IsDue k z c.args.text.now.items c.unread_of.new.cursors in
    let e : stacked c.args.self.now.places.items ≡ stacked c.push.new.self.items = ap stacked (c.in-Some.ensures.items ∙ sym c.in_ok-push.ensures.items) in
    subst P (sym is) (subst Q e (due_resized k _ _ _ _ c.unread_of.ensures.same d))

pub returns : goal.returns
returns c k same is d =
    let P : List (List ℕ) → Type 0 = λ z. IsDue k z c.args.text.now.items c.unread_of.new.cursors in
    let e : stacked c.args.self.now.places.items ≡ c.in-Some.parts.items ∷ stacked c.pop.new.self.items = ap stacked c.in-Some.ensures.items ∙ stacked_push c.pop.new.self.items c.in-Some.parts in
    let Q : List ℕ → Type 0 = λ z. IsDue k (z ∷ stacked c.pop.new.self.items) c.args.text.now.items c.unread_of.new.cursors in
    let R : List ℕ → Type 0 = λ z. AllReady z c.unread_of.new.cursors in
    let f = subst P e (due_resized k _ _ _ _ c.unread_of.ensures.same d) in
    c.in_ok-self.ensures k same (subst R (c.deref.ensures.value ∙ sym c.deref-2.ensures.value) c.in_default-unread_of.ensures.ready) (subst Q (sym c.deref-2.ensures.value) f)
