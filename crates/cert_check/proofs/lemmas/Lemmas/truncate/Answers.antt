use Rattle.std.proofs.Common.{map, take, ap, sym, ◌∙◌}
use Rattle.std.proofs.lemmas.List.{take-map}
use Rattle.ival.specs.SpaceViews.{space_of}
use Rattle.cert_check.specs.States.{lengthened_lemma}
use Rattle.cert_check.proofs.lemmas.Lemmas.truncate.Goals as goal

pub returns : goal.returns
returns c =
    let t = c.self.inside in let f = lengthened_lemma (space_of t.beyond) t.atoms in
    ap (map f) c.truncate.ensures.items ∙ sym (take-map f c.args.count t.written.items) ∙ ap (take c.args.count) c.self.view_is
