use Rattle.std.proofs.Common.{◌≡◌, ◌∷◌, [], length, refl, ap, sym, subst, ◌∙◌, ◌+◌, arith, length-append}
use Rattle.value_build.specs.Making.{Making}
use Rattle.value_build.specs.Marks.{counts_in}
use Rattle.problem_build.specs.Changes.{Starts}
use Rattle.problem_build.specs.declared.progress.Progress.{Progress}
use Rattle.problem_build.proofs.Changed.{starts_back}
use Rattle.problem_build.proofs.Past as past
use Rattle.problem_build.proofs.progress.Progress.back_to.Goals as goal

pub loop-self-init : goal.loop-self-init
loop-self-init c = (λ script h. (past.back_not script c.args.self.now h, λ few. omega (arith, few, past.built_length script c.args.self.now h)), λ p s. s)

pub undo-requires : goal.undo-requires
undo-requires c =
    let p = c.loop-self.self in
    let i = (c.loop-self.invariant.0 c.requires.0 c.requires.1).0 in
    past.back_made c.requires.0 i.0 i.1 i.2 p.before.items c.pop.new.self.items c.in-Some.before c.in-Some.ensures.items p.maker p.claims.items i.3

pub loop-self-preserved : goal.loop-self-preserved
loop-self-preserved c =
    let p = c.loop-self.self in
    let now : Progress = record { maker = c.undo.new.self; claims = c.truncate.new.self; before = c.pop.new.self } in
    let one : length p.before.items ≡ length (c.in-Some.before ∷ []) + length c.pop.new.self.items = ap length c.in-Some.ensures.items ∙ omega (arith, length-append c.pop.new.self.items (c.in-Some.before ∷ [])) in (
      λ script h. (
        let i = (c.loop-self.invariant.0 script h).0 in
            past.back_one script i.0 i.1 i.2 p.before.items c.pop.new.self.items c.in-Some.before c.in-Some.ensures.items p.maker p.claims.items i.3 now c.undo.ensures c.truncate.ensures.items refl,
        λ few. omega (arith, one, c.loop-self-test.true, c.len.ensures ∙ p.before.ok.0),
      ),
      λ q s. subst (λ (x : Making). Starts q x.made) (sym c.undo.ensures) (starts_back q (counts_in c.in-Some.before.mark) p.maker (c.loop-self.invariant.1 q s)),
    )

pub returns-clause-built : goal.returns-clause-built
returns-clause-built c = λ script h few.
    let p = c.loop-self.self in
    let j = c.loop-self.invariant.0 script h in
    past.back_to script c.args.count p j.0 (omega (arith, j.1 few, c.loop-self-test.false, c.len.ensures ∙ p.before.ok.0))
