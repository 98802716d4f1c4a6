use Rattle.std.proofs.Common.{◌∙◌, sym, arith}
use Rattle.smt_sexp.specs.Arena.{rest_of}
use Rattle.smt_sexp.specs.Views.{place_of}
use Rattle.sort_check.proofs.Bindings.{let_is}
use Rattle.sort_check.proofs.forms.let_form.Goals as goal

pub returns-then-are_bindings : goal.returns-then-are_bindings
returns-then-are_bindings c = record {
  sort_is = λ env p. let_is env p (place_of c.in-Group.field-0) _ (rest_of c.args.sexps.now c.in-Group.inside) (rest_of c.args.sexps.now c.in-Group.body) (rest_of c.args.sexps.now c.in_ok-end.end) _
      c.in-Group.ensures.0 c.in_ok-end.ensures.0 (grind (arith, c.if-not-ends.false, c.ends.ensures)) (sym c.ends-2.ensures ∙ c.if-ends.false) (sym c.are_bindings.ensures ∙ c.if-are_bindings.true);
  formed = sym c.are_bindings.ensures ∙ c.if-are_bindings.true;
  inside_later = c.in-Group.ensures.1;
  body_later = c.in-Group.ensures.2;
  within = c.in-Group.ensures.3;
}
