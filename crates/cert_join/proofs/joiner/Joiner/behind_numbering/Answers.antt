use Rattle.std.proofs.Common.{◌++◌, ℕ, Vec, Global, ap, sym, subst}
use Rattle.cert_join.specs.Gathered.{lists_of}
use Rattle.cert_join.specs.Joining.{AreAtLemmas}
use Rattle.cert_join.specs.declared.lemmas.Lemmas.{Lemmas}
use Rattle.cert_join.proofs.Stages.{lemmas_begun}
use Rattle.cert_join.proofs.joiner.Joiner.behind_numbering.Goals as goal

pub returns-clause-stage : goal.returns-clause-stage
returns-clause-stage c certs first covers done texts none a d =
    let P : Lemmas → Type 0 = λ s. AreAtLemmas certs first covers (done ++ c.append_kind.new.text.items) (lists_of c.replace.new.dest.items) s c.args.self.now.cursors.items in
    subst P (sym c.new.ensures)
    (lemmas_begun certs first covers done c.args.text.now.items c.append_kind.new.text.items c.args.heads.now c.args.numbering (lists_of c.replace.new.dest.items) c.args.self.now.cursors.items
    texts none c.in-Ok.ensures.text a d (ap (λ (v : Vec (Vec ℕ Global) Global). lists_of v.items) c.replace.ensures.after) c.append_kind.ensures.few)
