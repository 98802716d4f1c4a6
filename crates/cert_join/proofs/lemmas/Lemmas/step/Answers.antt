use Rattle.std.proofs.Common.{[], ◌∙◌, arith}
use Rattle.std.proofs.lemmas.List.{length-map}
use Rattle.cert_join.proofs.LemmasAll.{steps_all, over_all, mapped_at, past_one}
use Rattle.cert_join.proofs.lemmas.Lemmas.step.Goals as goal

pub returns-then-part-cursors : goal.returns-then-part-cursors
returns-then-part-cursors c certs f h =
    over_all certs _ f _ _ _ h (λ l m. past_one c.args.self.now.part _ _ c.then-part-cursors.either l (omega (arith, m, length-map c.args.numbers.now (λ v. v.items))))

pub returns : goal.returns
returns c certs f h =
    steps_all certs _ f _ _ c.index-cursors-part.result _ _ _ _ _ _ h c.if-part-cursors.false
    (c.as_slice.ensures.value ∙ mapped_at (λ v. v.items) c.args.numbers.now _ _ [] c.if-part-numbers.false c.index-numbers-part.is)
    c.step_within.ensures
