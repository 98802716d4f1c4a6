use Rattle.std.proofs.Common.{◌≡◌, ap, ◌∙◌, sym, arith, [], ◌∷◌, ◌++◌, append_assoc, map, length, ◌-◌, take, drop, cond}
use Rattle.std.specs.Prelude.{Some}
use Rattle.smt_sexp.specs.Views.{place_of}
use Rattle.smt_script.specs.Views.{parameter_of}
use Rattle.sort_check.specs.Sorts.{redeclared, taken_parameter}
use Rattle.sort_check.specs.Views.{names_back}
use Rattle.sort_check.proofs.Bindings.{back_after}
use Rattle.sort_check.proofs.Lists.{split_first}
use Rattle.sort_check.proofs.commands.are_new.Goals as goal

pub loop-rest-preserved : goal.loop-rest-preserved
loop-rest-preserved c =
    let p = c.first-item.result in
    let before = c.loop-rest.before in
    let back = names_back (map parameter_of before) [] in
    let rest = take (length c.loop-rest.rest.now - 1) (drop 1 c.loop-rest.rest.now) in
    let later = map parameter_of rest in
    let split : c.loop-rest.rest.now ≡ p ∷ rest = split_first c.loop-rest.rest.now c.first-item.result (omega (arith, c.in-len1-up.len_at_least)) (grind (arith, c.first-item.is, c.in-len1-up.len_at_least)) in
    record {
      fault = c.loop-rest.invariant.fault ∙ ap (taken_parameter back) (ap (map parameter_of) split) ∙
          ap (λ b. cond b (Some (place_of p.place, redeclared p.name.now)) (taken_parameter (p.name.now ∷ back) later)) (sym c.is_taken.ensures ∙ c.if-is_taken.false) ∙
          ap (λ names. taken_parameter names later) (sym (back_after before p) ∙ ap (λ bs. names_back (map parameter_of bs) []) (sym c.in_ok-push.ensures.added));
      names = c.loop-rest.invariant.names ∙ ap (λ xs. before ++ xs) split ∙ sym (append_assoc before (p ∷ []) rest) ∙ ap (λ xs. xs ++ rest) (sym c.in_ok-push.ensures.added);
    }
