use Rattle.std.proofs.Common.{◌≡◌, ◌<◌, ℕ, List, ◌++◌, length, set, take, map, append-nil, get_or-set_same, get_or-set_other, inl, inr, ap, sym, subst, ◌∙◌, arith}
use Rattle.std.proofs.lemmas.Bool.{cases_lt}
use Rattle.std.proofs.lemmas.List.{length-set, drop_all}
use Rattle.interval_model.specs.Interval.{is_nothing}
use Rattle.cover_model.specs.Combination.{tightened}
use Rattle.ival.specs.declared.ends.Ival.{Ival}
use Rattle.ival.specs.declared.ends.Ival.TheVariants.{Empty}
use Rattle.ival.specs.Views.{interval_of}
use Rattle.ival.specs.SpaceViews.{space_of}
use Rattle.combine.specs.declared.part.Part.{Part}
use Rattle.combine.specs.Parts.{part_of}
use Rattle.combine.specs.Lefts.{pairs, IsLeft}
use Rattle.combine.proofs.Tightening.{pairs_all, later_parts, done_more, done_none}
use Rattle.combine.proofs.tighten.tighten.Goals as goal

pub returns-then-is_empty-clause-none : goal.returns-then-is_empty-clause-none
returns-then-is_empty-clause-none c e s =
    done_none (space_of c.args.space.now) (space_of c.args.centre.now) (interval_of c.args.allowed) (interval_of c.args.rest) c.args.parts.now
    c.loop-k.lefts c.loop-k.k c.index-parts-k.result c.left_to-left.result (interval_of c.loop-k.before) c.loop-k-test.true c.index-parts-k.is c.loop-k.invariant.parts c.left_to-left.ensures
    (sym c.is_empty.ensures ∙ c.if-is_empty.true) c.loop-k.invariant.done s

pub loop-k-preserved : goal.loop-k-preserved
loop-k-preserved c =
    let space = space_of c.args.space.now in let centre = space_of c.args.centre.now in let allowed = interval_of c.args.allowed in let rest = interval_of c.args.rest in
    let ps = c.args.parts.now in let ls = c.loop-k.lefts in let k = c.loop-k.k in let part = c.index-parts-k.result in let left = c.left_to-left.result in
    let before = c.loop-k.invariant in let inside : k < length ls = omega (arith, c.loop-k-test.true, before.room) in
    record {
      room = omega (arith, length-set ls k left, before.room);
      same = length-set ls k left ∙ before.same;
      parts = later_parts space centre allowed rest ps k part c.loop-k-test.true c.index-parts-k.is before.parts;
      done = done_more space centre allowed rest ps ls k part left (interval_of c.loop-k.before) (interval_of c.add-before.result) c.loop-k-test.true before.room c.index-parts-k.is before.parts
          c.left_to-left.ensures c.add-before.ensures before.done;
      left = λ j h. elim (cases_lt j k) [
        | inl less ↦ ap (λ (i : Ival). is_nothing (interval_of i)) (get_or-set_other ls k j left Empty (λ e. omega arith)) ∙ before.left j less
        | inr not_less ↦ let same : k ≡ j = omega arith in
            subst (λ (x : ℕ). IsLeft (set ls k left) x) same
            (ap (λ (i : Ival). is_nothing (interval_of i)) (get_or-set_same ls k left Empty inside) ∙ sym c.is_empty.ensures ∙ c.if-is_empty.false)
      ];
    }

pub returns-clause-some : goal.returns-clause-some
returns-clause-some c e =
    let space = space_of c.args.space.now in let centre = space_of c.args.centre.now in let allowed = interval_of c.args.allowed in
    let ps = c.args.parts.now in let ls = c.loop-k.lefts in let k = c.loop-k.k in
    let all : k ≡ length ps = omega (arith, c.loop-k-test.false, c.loop-k.auto.k-end) in
    c.loop-k.invariant.done
    ∙ ap (λ (ys : List Part). pairs (take k ps) (take k ls) ++ tightened space centre allowed (interval_of c.loop-k.before) (map part_of ys)) (drop_all k ps c.loop-k-test.false)
    ∙ append-nil (pairs (take k ps) (take k ls))
    ∙ ap (λ (n : ℕ). pairs (take n ps) (take n ls)) all ∙ pairs_all ps ls c.loop-k.invariant.room
