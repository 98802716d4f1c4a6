use Rattle.std.proofs.Common.{ℕ, List, length, map, ap, sym, ◌∙◌, subst}
use Rattle.std.specs.Prelude.{Ok, Err}
use Rattle.script_forms.specs.Walk.{walked, claim_places, last_place, nowhere}
use Rattle.smt_script.specs.Views.{command_of, commands_in}
use Rattle.smt_sexp.specs.Views.{place_of}
use Rattle.term_build.specs.Shapes.{AreNumbers}
use Rattle.problem_build.specs.Roots.{Roots}
use Rattle.problem_build.proofs.Finishing as finishing
use Rattle.problem_build.proofs.script.make_root.Goals as goal

pub root_form-requires : goal.root_form-requires
root_form-requires c = subst (λ (ks : List ℕ). AreNumbers (length c.args.maker.now.made.forms) ks) (sym c.in_ok-forms.ensures)
    (finishing.done_numbers (commands_in c.args.script.now) c.args.maker.now c.args.made.now c.requires.done)

pub returns-in-Ok : goal.returns-in-Ok
returns-in-Ok c = record {
  roots = subst (λ (ks : List ℕ). Roots c.args.maker.now.made c.root_form.new.maker.made ks (Ok c.in-Ok.root)) c.in_ok-forms.ensures c.in-Ok.ensures.does;
  is_made = c.mark.ensures.made;
  sorts = c.root_form.ensures.sorts;
  bounds = c.root_form.ensures.bounds;
  stand = c.in-Ok.ensures.stand;
}

pub returns-in-Err : goal.returns-in-Err
returns-in-Err c =
    let script = commands_in c.args.script.now in
    let s = c.args.script.now.sexps.now in
    let last = c.last_claim.ensures s ∙ ap (λ xs. last_place nowhere (claim_places (map (command_of s) xs))) c.as_slice.ensures.value in
    c.building_error.ensures (walked script) (finishing.root_stops script c.args.maker.now c.args.made.now c.requires.done c.root_form.new.maker.made c.in-Err.stop (place_of c.last_claim.result) last
    (subst (λ (ks : List ℕ). Roots c.args.maker.now.made c.root_form.new.maker.made ks (Err c.in-Err.stop)) c.in_ok-forms.ensures c.in-Err.ensures.does))
