use Rattle.std.proofs.Common.{◌≡◌, Some, None, inl, inr, ap, sym, ◌∙◌, arith}
use Rattle.std.proofs.lemmas.Bool.{cases_lt}
use Rattle.std.proofs.lemmas.List.{get_or_past}
use Rattle.interval_model.specs.Interval.{Interval, nothing, is_nothing}
use Rattle.ival.specs.Views.{interval_of}
use Rattle.ival.specs.Options.{option_at, options_of}
use Rattle.ival.proofs.Optional.{length_options, no_option, has_option}
use Rattle.plain_eval.proofs.Sweeping.{empty_at, none_empty, is_empty}
use Rattle.plain_eval.proofs.scratch.some_empty.Goals as goal

pub loop-n-init : goal.loop-n-init
loop-n-init c =
    let r = c.args.scratch.now in record {
      inside = omega (arith, c.len-place.ensures);
      full = λ k h e. let none : option_at r k ≡ None = get_or_past (options_of r) k None (omega (arith, h, c.len-place.ensures, length_options r)) in cc;
    }

pub loop-n-preserved : goal.loop-n-preserved
loop-n-preserved c =
    let r = c.args.scratch.now in let n = c.in-Some.n in let next = c.in-Some.ensures in
    let here : option_at r n ≡ Some (interval_of c.get.result) = has_option r n next.marked ∙ ap (λ (i : Interval). Some i) (sym c.get.ensures) in
    record {
      inside = omega (arith, c.loop-n.invariant.inside, next.below);
      full = λ k h e. elim (cases_lt n k) [
        | inl more ↦ elim (cases_lt k c.loop-n.place) [
          | inl low ↦ let none = no_option r k (next.between k more low) in cc
          | inr high ↦ c.loop-n.invariant.full k high e
        ]
        | inr not_more ↦ let same : k ≡ n = omega arith in
            let some : Some (interval_of c.get.result) ≡ Some nothing = sym here ∙ ap (option_at r) (sym same) ∙ e in
            let empty : interval_of c.get.result ≡ nothing = cc in let t = ap is_nothing empty in let f = c.if-is_empty.ensures in cc
      ];
    }

pub returns-then-is_empty : goal.returns-then-is_empty
returns-then-is_empty c =
    let r = c.args.scratch.now in let n = c.in-Some.n in let next = c.in-Some.ensures in
    sym (empty_at (options_of r) n (has_option r n next.marked ∙ ap (λ (i : Interval). Some i) (sym c.get.ensures ∙ is_empty (interval_of c.get.result) (sym c.if-is_empty.ensures))))

pub returns : goal.returns
returns c =
    let r = c.args.scratch.now in
    sym (none_empty (options_of r) (λ k e. elim (cases_lt k c.loop-n.place) [
      | inl low ↦ let none = no_option r k (c.in_default.ensures k low) in cc
      | inr high ↦ c.loop-n.invariant.full k high e
    ]))
