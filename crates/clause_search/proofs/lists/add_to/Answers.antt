use Rattle.std.proofs.Common.{◌∙◌, sym, refl, subst, Vec, Global, ℕ, List, length, ◌<◌, map, arith}
use Rattle.std.specs.Prelude.{Contains}
use Rattle.std.specs.Vec.{with_item}
use Rattle.std.proofs.lemmas.List.{length-map}
use Rattle.std.proofs.lemmas.List.Elements.{Contains-append_left, Contains-push}
use Rattle.clause_search.proofs.Listed.{keeps_lists, list_is, list_read}
use Rattle.clause_search.proofs.lists.add_to.Goals as goal

pub returns-in_err-push-clause-keeps : goal.returns-in_err-push-clause-keeps
returns-in_err-push-clause-keeps c = keeps_lists c.args.lists.now _ c.args.k c.push.new.self refl refl
    (λ j h. subst (λ (xs : List ℕ). Contains xs j) (list_read c.args.lists.now c.args.k c.index_mut-list.result.now c.requires c.index_mut-list.ensures.value ∙ sym c.in_err-push.ensures.items) h)

pub returns-clause-keeps : goal.returns-clause-keeps
returns-clause-keeps c = keeps_lists c.args.lists.now _ c.args.k c.push.new.self refl refl
    (λ j h. subst (λ (xs : List ℕ). Contains xs j) (sym c.in_ok-push.ensures.items) (Contains-append_left c.index_mut-list.result.now.items _ j (subst (λ (xs : List ℕ). Contains xs j) (list_read c.args.lists.now c.args.k c.index_mut-list.result.now c.requires c.index_mut-list.ensures.value) h)))

pub returns-clause-there : goal.returns-clause-there
returns-clause-there c =
    let within : c.args.k < length (map (λ (v : Vec ℕ Global). v.items) c.args.lists.now.items) = omega (arith, length-map c.args.lists.now.items (λ (v : Vec ℕ Global). v.items), c.args.lists.now.ok.0) in
    let same = list_is c.args.lists.now (with_item c.args.lists.now c.args.k c.push.new.self) c.args.k c.push.new.self refl within in
    subst (λ (xs : List ℕ). Contains xs c.args.clause) (sym (same ∙ c.in_ok-push.ensures.items)) (Contains-push c.index_mut-list.result.now.items c.args.clause)
