use Rattle.std.proofs.Common.{All, List, [], ◌∷◌, ◌++◌, map, ap, sym, subst, ◌∙◌}
use Rattle.cover_model.specs.State.{State}
use Rattle.ival.specs.SpaceViews.{space_of}
use Rattle.cert_check.specs.States.{IsLike, lemma_of, lengthened_lemma}
use Rattle.cert_check.proofs.Carried.{none_there, one_lemma_more, some_there}
use Rattle.cert_check.proofs.lemmas.Lemmas.push.Goals as goal

pub push_first-requires : goal.push_first-requires
push_first-requires c = none_there c.args.self.now c.is_empty.result c.is_empty.ensures c.if-is_empty.true

pub returns : goal.returns
returns c =
    let t = c.self.inside in let f = lengthened_lemma (space_of t.beyond) t.atoms in let L = c.args.lemma in
    one_lemma_more (space_of t.beyond) t.atoms t.written.items c.push.new.self.items L
    (λ e. some_there c.args.self.now c.is_empty.result c.is_empty.ensures c.if-is_empty.false (sym c.self.view_is ∙ ap (map f) e))
    (subst (All (IsLike (lemma_of L))) (sym c.self.view_is) c.requires) c.in_ok-push.ensures.items
    ∙ ap (λ (Ss : List State). Ss ++ (lemma_of L ∷ [])) c.self.view_is
