use Rattle.std.proofs.Common.{length, map, ap, sym, ◌∙◌, arith}
use Rattle.std.proofs.lemmas.List.{length-map}
use Rattle.ival.specs.SpaceViews.{domain_of, space_of}
use Rattle.cert_check.specs.States.{lengthened_lemma}
use Rattle.cert_check.proofs.Carried.{alone_pushed}
use Rattle.cert_check.proofs.lemmas.Lemmas.push_first.Goals as goal

pub returns : goal.returns
returns c =
    let t = c.self.inside in
    alone_pushed (space_of t.beyond) t.atoms t.written.items c.push.new.self.items c.args.lemma _ (ap (map domain_of) c.clear.ensures.items) (c.self.view_is ∙ c.requires) c.in_ok-push.ensures.items
