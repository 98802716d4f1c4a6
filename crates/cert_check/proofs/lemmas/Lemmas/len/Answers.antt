use Rattle.std.proofs.Common.{length, ap, sym, ◌∙◌}
use Rattle.std.proofs.lemmas.List.{length-map}
use Rattle.ival.specs.SpaceViews.{space_of}
use Rattle.cert_check.specs.States.{lengthened_lemma}
use Rattle.cert_check.proofs.lemmas.Lemmas.len.Goals as goal

pub returns : goal.returns
returns c =
    let t = c.self.inside in
    c.len.ensures ∙ t.written.ok.0 ∙ sym (length-map t.written.items (lengthened_lemma (space_of t.beyond) t.atoms)) ∙ ap length c.self.view_is
