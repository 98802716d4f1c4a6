use Rattle.std.proofs.Common.{◌≡◌, ◌<◌, ◌+◌, ℕ, suc, List, Some, Bool, length, map, ap, sym, ◌∙◌, subst, arith}
use Rattle.std.specs.Prelude.{slice_get}
use Rattle.std.proofs.lemmas.Option.{slice_get-get_or}
use Rattle.poly_graph.specs.ProblemViews.{Parts}
use Rattle.problem_session.specs.Changes.{IsChange, changed, no_parts}
use Rattle.problem_session.proofs.Changed.{change_of, made_same, next_change, stands_there, length_problems}
use Rattle.problem_session.proofs.session.Session.next.Goals as goal

pub overflow_add-k : goal.overflow_add-k
overflow_add-k c = let items = c.self.inside.checks.items in omega (arith, c.requires.within, ap length c.self.view_is, length_problems no_parts items, c.self.inside.checks.ok)

pub index-requires : goal.index-requires
index-requires c = let items = c.self.inside.checks.items in omega (arith, c.requires.within, ap length c.self.view_is, length_problems no_parts items, c.self.inside.checks.ok.0)

pub after-requires : goal.after-requires
after-requires c =
    let items = c.self.inside.checks.items in
    let q = c.args.before.now in
    let x = c.index.result.now in
    let k = c.args.k in
    let next : k + 1 ≡ suc k = omega arith in
    let below : k + 1 < length items = omega (arith, c.requires.within, ap length c.self.view_is, length_problems no_parts items) in
    let there = ap (slice_get items) (sym next) ∙ slice_get-get_or items (k + 1) x below ∙ ap Some (sym c.index.ensures) in
    let before = subst (λ (ps : List (Parts × Bool)). slice_get (map (λ q. q.0) ps) k ≡ Some q) (sym c.self.view_is) c.requires.before in
    subst (λ (p : Parts). IsChange p x.change) (made_same q c.graph.result.now _ c.forms.result.now c.graph.ensures.graph c.atoms.ensures.atoms c.forms.ensures.forms) (change_of q x.change (next_change no_parts items k q x c.self.invariant before there).0)

pub returns : goal.returns
returns c =
    let items = c.self.inside.checks.items in
    let q = c.args.before.now in
    let x = c.index.result.now in
    let k = c.args.k in
    let next : k + 1 ≡ suc k = omega arith in
    let below : k + 1 < length items = omega (arith, c.requires.within, ap length c.self.view_is, length_problems no_parts items) in
    let there = ap (slice_get items) (sym next) ∙ slice_get-get_or items (k + 1) x below ∙ ap Some (sym c.index.ensures) in
    let before = subst (λ (ps : List (Parts × Bool)). slice_get (map (λ q. q.0) ps) k ≡ Some q) (sym c.self.view_is) c.requires.before in
    let is = (next_change no_parts items k q x c.self.invariant before there).1 in
    let whole = subst (λ (ps : List (Parts × Bool)). slice_get (map (λ q. q.0) ps) (suc k) ≡ Some (changed q x.change)) c.self.view_is is in
    stands_there c.after.result q c.graph.result.now _ c.forms.result.now x.change _ c.graph.ensures.graph c.atoms.ensures.atoms c.forms.ensures.forms c.after.ensures (subst (λ (n : ℕ). slice_get (map (λ q. q.0) c.args.self.now) n ≡ Some (changed q x.change)) (sym next) whole)
