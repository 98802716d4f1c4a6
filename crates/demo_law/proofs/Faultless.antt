-- The demo's script has no fault.
use Rattle.std.proofs.Common.{◌≡◌, ℕ, zero, suc, ◌+◌, ◌*◌, ◌≤◌, List, [], ◌∷◌, ◌++◌, map, Bool, true, cond, Option, None, Some, refl, ap, ap₂, sym, ◌∙◌, subst, arith, codes, length}
use Rattle.std.specs.Prelude.{decimal}
use Rattle.std.proofs.lemmas.List.{length-append}
use Rattle.std.proofs.lemmas.Bool.{le-leb}
use Rattle.std.proofs.lemmas.Fmt.{length-decimal-le}
use Rattle.dyadic.specs.Point.{real_sort}
use Rattle.script_model.specs.Sexp.{Place, Sexp, group}
use Rattle.script_model.specs.Script.{Command, claims, constants_of, sorts_of, Constant, ineffective, declare, claim}
use Rattle.script_model.specs.Reading.{Names, value, meaning}
use Rattle.script_model.specs.Declared.{Bounding, Bound, bounding, bounds_in, concat, constant_bounding, bound_fault, numbered, BoundFault, bound_fault_from, tightest_end, default_low, default_high, greatest, least, values_on, lower, upper}
use Rattle.poly_graph.specs.Term.{Atom}
use Rattle.poly_graph.specs.Form.{forms_map, form_map}
use Rattle.script_forms.specs.Terms.{Unfolded}
use Rattle.script_forms.specs.Unfolded.{as_tree, forms_of, truth_of}
use Rattle.script_forms.specs.Atoms.{atom_of, atoms_in_place, constant_tree, number_in}
use Rattle.script_forms.specs.Work.{Work, as_work, assertion_events, Event}
use Rattle.script_forms.specs.Walk.{Stand, Walked, after_events, after_assertions, after_root, claim_places, walked, fault_or, fault_of_bounds, building_fault, places, constant_work, nothing_made, works, last_place, nowhere, form_size}
use Rattle.smt_script.specs.Commands.{CommandsRead, Said, joined, says, one_step}
use Rattle.smt_script.specs.Levels.{command}
use Rattle.sort_check.proofs.Scopes.{plain_fault}
use Rattle.smt_sexp.specs.Lexicon.{read}
use Rattle.script_fault.specs.declared.fault.ScriptFault.{ScriptFault}
use Rattle.script_reading.specs.Faults.{in_text, in_commands, in_sorts, in_checks, in_building, most_bytes, rooted_script_fault, unless_plain}
use Rattle.gen_script.specs.Demo.{next_number, coefficient, atom_line, atom_lines, demo_script, head, tail}
use Rattle.dyadic.specs.Fraction.{negated, at_most}
use Rattle.smt_sexp.specs.TextAnswers.{too_many_bytes}
use Rattle.demo_law.specs.Laws.{DemoIsFaultless}
use Rattle.demo_law.proofs.Shape.{atom_commands, atom_written, demo_written, in_line, behind_line, equation, within, place, demo_with, two, three, named}
use Rattle.demo_law.proofs.Commands.{commands_are, sorts_fit, asked_are, open_script}
use Rattle.demo_law.proofs.Room.{Room, StandsIn, stand_after, then_in, formed_in, weight, asks, is_clear}
use Rattle.demo_law.proofs.Text.{coefficient_is_numeral, lines_read}
use Rattle.demo_law.proofs.Walked.{axes, line_is, line_events, line_weight, line_asks, line_clear, product}
use Rattle.dyadic.specs.Lowest.{reduced}

-- ---- the walk over the atoms

abbrev digits_of : ℕ → List ℕ
digits_of number = decimal (coefficient (next_number number))

line_stands : (number : ℕ) (p : Place) (s : Stand) (n k : ℕ) → Room s (40 + n) (1 + k)
    → StandsIn (after_events p s (assertion_events (meaning as_work axes (equation (in_line p (digits_of number)) (digits_of number))))) n k
line_stands number p s n k r =
    let at = in_line p (digits_of number) in let ds = digits_of number in let q = reduced (product ds) in
    subst (λ (w : Work). StandsIn (after_events p s (assertion_events w)) n k) (sym (line_is at ds (coefficient_is_numeral (next_number number)).narrow))
    (stand_after p (line_events at ds q) s n k (line_clear at ds q) (record {
      size = omega (arith, r.size, line_weight at ds q);
      trees = omega (arith, r.trees, line_weight at ds q);
      forms = omega (arith, r.forms, line_weight at ds q);
      atoms = omega (arith, r.atoms, line_asks at ds q);
    }))

works_stand : (number left : ℕ) (p : Place) (cs : List Work) (s : Stand) (n k : ℕ) → Room s (40 * left + n) (left + k)
    → StandsIn (after_assertions s (claim_places (atom_commands p number left)) (claims as_work axes cs (atom_commands p number left))) n k
unfolding atom_commands
works_stand number zero p cs s n k r = (s, refl, record { size = omega (arith, r.size); trees = omega (arith, r.trees); forms = omega (arith, r.forms); atoms = omega (arith, r.atoms) })
works_stand number (suc left) p cs s n k r =
    let p' = behind_line p (digits_of number) in
    then_in (λ s'. after_assertions s' (claim_places (atom_commands p' (next_number number) left)) (claims as_work axes cs (atom_commands p' (next_number number) left)))
    (after_events p s (assertion_events (meaning as_work axes (equation (in_line p (digits_of number)) (digits_of number))))) (40 * left + n) (left + k) n k
    (line_stands number p s (40 * left + n) (left + k) (record { size = omega (arith, r.size); trees = omega (arith, r.trees); forms = omega (arith, r.forms); atoms = omega (arith, r.atoms) }))
    (λ s' r'. works_stand (next_number number) left p' cs s' n k r')

-- ---- the form of all assertions

abbrev tree_axes : Names Unfolded
tree_axes = (codes "y", value (constant_tree 1 real_sort)) ∷ (codes "x", value (constant_tree 0 real_sort)) ∷ []

claims_counted : (g : Atom → ℕ) (number left : ℕ) (p : Place) (cs : List Unfolded)
    → places (forms_map g (forms_map atom_of (forms_of truth_of (claims as_tree tree_axes cs (atom_commands p number left))))) ≡ left
unfolding atom_commands
claims_counted g number zero p cs = refl
claims_counted g number (suc left) p cs = ap suc (claims_counted g (next_number number) left (behind_line p (digits_of number)) cs)

-- ---- bounds

abbrev bound_axes : Names Bounding
bound_axes = (codes "y", value (constant_bounding 1 real_sort)) ∷ (codes "x", value (constant_bounding 0 real_sort)) ∷ []

no_bounds : (number left : ℕ) (p : Place) (cs : List Bounding) → concat (map bounds_in (claims bounding bound_axes cs (atom_commands p number left))) ≡ []
unfolding atom_commands
no_bounds number zero p cs = refl
no_bounds number (suc left) p cs = no_bounds (next_number number) left (behind_line p (digits_of number)) cs

no_constants : (number left : ℕ) (p : Place) → constants_of (atom_commands p number left) ≡ []
unfolding atom_commands
no_constants number zero p = refl
no_constants number (suc left) p = no_constants (next_number number) left (behind_line p (digits_of number))

-- ---- the walk over all

abbrev bound_work : ℕ → List ℕ → Work
bound_work line name = meaning as_work axes (within line name)

record IsShort (es : List Event) : Type 0 where
  pub clear : is_clear es ≡ true
  pub weight : weight es ≤ 60
  pub asks : asks es ≤ 2

x_is_short : IsShort (assertion_events (bound_work 4 (codes "x")))
unfolding negated
x_is_short = record { clear = refl; weight = omega arith; asks = omega arith }

y_is_short : IsShort (assertion_events (bound_work 5 (codes "y")))
unfolding negated
y_is_short = record { clear = refl; weight = omega arith; asks = omega arith }

short_stands : (p : Place) (es : List Event) (s : Stand) (n k : ℕ) → IsShort es → Room s (60 + n) (2 + k) → StandsIn (after_events p s es) n k
short_stands p es s n k h r = stand_after p es s n k h.clear (record {
  size = omega (arith, r.size, h.weight);
  trees = omega (arith, r.trees, h.weight);
  forms = omega (arith, r.forms, h.weight);
  atoms = omega (arith, r.atoms, h.asks);
})

module _ (bound : Option ℕ) (seed size : ℕ) (small : size ≤ 10000) where
  abbrev later : List Command
  later = atom_commands (place 6 1) seed size

  abbrev later_works : List Work
  later_works = claims as_work axes (numbered constant_work 2 (sorts_of later)) later

  abbrev behind_y : Stand → Walked
  behind_y s = after_assertions s (claim_places later) later_works

  abbrev behind_x : Stand → Walked
  behind_x s = after_assertions s (place 5 1 ∷ claim_places later) (bound_work 5 (codes "y") ∷ later_works)

  assertions_stand : StandsIn (after_assertions nothing_made (place 4 1 ∷ place 5 1 ∷ claim_places later) (bound_work 4 (codes "x") ∷ bound_work 5 (codes "y") ∷ later_works)) 10003 0
  assertions_stand = then_in behind_x (after_events (place 4 1) nothing_made (assertion_events (bound_work 4 (codes "x")))) (60 + (40 * size + 10003)) (2 + (size + 0)) 10003 0
      (short_stands (place 4 1) (assertion_events (bound_work 4 (codes "x"))) nothing_made (60 + (40 * size + 10003)) (2 + (size + 0)) x_is_short
      (record { size = omega (arith, small); trees = omega (arith, small); forms = omega (arith, small); atoms = omega (arith, small) }))
      (λ s r. then_in behind_y (after_events (place 5 1) s (assertion_events (bound_work 5 (codes "y")))) (40 * size + 10003) (size + 0) 10003 0
      (short_stands (place 5 1) (assertion_events (bound_work 5 (codes "y"))) s (40 * size + 10003) (size + 0) y_is_short r)
      (λ s' r'. works_stand seed size (place 6 1) (numbered constant_work 2 (sorts_of later)) s' 10003 0 r'))

  root_room : (s : Stand) → Room s 10003 0 → Room s (form_size (form_map (number_in s.atoms) (atoms_in_place (demo_with later))) + 0) 0
  root_room s r = let n = claims_counted (number_in s.atoms) seed size (place 6 1) (numbered constant_tree 2 (sorts_of later)) in record {
    size = omega (arith, r.size, n, small);
    trees = omega (arith, r.trees, n, small);
    forms = omega (arith, r.forms, n, small);
    atoms = r.atoms;
  }

  walk_stands : StandsIn (walked (demo_with later)) 0 0
  walk_stands = then_in (after_root (demo_with later)) (after_assertions nothing_made (claim_places (demo_with later)) (works (demo_with later))) 10003 0 0 0
      assertions_stand (λ s r. formed_in (last_place nowhere (claim_places (demo_with later))) s (form_map (number_in s.atoms) (atoms_in_place (demo_with later))) 0 0 (root_room s r))

  -- ---- the bounds

  abbrev first_bounds : List Bound → List Bound
  first_bounds bs = bounds_in (meaning bounding bound_axes (within 4 (codes "x"))) ++ (bounds_in (meaning bounding bound_axes (within 5 (codes "y"))) ++ bs)

  -- the fault of the bounds, where these follow the first ones, and these constants the first ones
  abbrev faults_with : List Bound → List Constant → Option (Constant × BoundFault)
  faults_with bs cs = bound_fault_from (λ axis. record {
    low = tightest_end greatest (default_low bound) (values_on lower axis (first_bounds bs));
    high = tightest_end least (default_high bound) (values_on upper axis (first_bounds bs));
  }) 0 (record { at = place 2 1; name = codes "x"; sort = real_sort } ∷ record { at = place 3 1; name = codes "y"; sort = real_sort } ∷ cs)

  bounds_stand : bound_fault bound (demo_with later) ≡ None
  unfolding at_most
  bounds_stand = ap₂ faults_with (no_bounds seed size (place 6 1) (numbered constant_bounding 2 (sorts_of later))) (no_constants seed size (place 6 1))

  is_built : building_fault bound (demo_with later) ≡ None
  is_built = ap (λ (w : Walked). fault_or w (fault_of_bounds (bound_fault bound (demo_with later)))) walk_stands.1 ∙ ap fault_of_bounds bounds_stand

  -- ---- the text and the commands

  abbrev first_expressions : List Sexp
  first_expressions = group (place 5 1) (two (named (place 5 2) (codes "assert")) (within 5 (codes "y")))
      ∷ group (place 4 1) (two (named (place 4 2) (codes "assert")) (within 4 (codes "x")))
      ∷ group (place 3 1) (three (named (place 3 2) (codes "declare-const")) (named (place 3 16) (codes "y")) (named (place 3 18) (codes "Real")))
      ∷ group (place 2 1) (three (named (place 2 2) (codes "declare-const")) (named (place 2 16) (codes "x")) (named (place 2 18) (codes "Real")))
      ∷ group (place 1 1) (two (named (place 1 2) (codes "set-logic")) (named (place 1 12) (codes "QF_NRA"))) ∷ []

  abbrev says_one : Command → Said
  says_one c = says open_script (one_step (command c))

  abbrev first_joined : CommandsRead → CommandsRead
  first_joined cs = joined (place 1 1) (says_one (ineffective (place 1 1))) (joined (place 2 1) (says_one (declare (place 2 1) (codes "x") real_sort))
      (joined (place 3 1) (says_one (declare (place 3 1) (codes "y") real_sort)) (joined (place 4 1) (says_one (claim (place 4 1) (within 4 (codes "x"))))
      (joined (place 5 1) (says_one (claim (place 5 1) (within 5 (codes "y")))) cs))))

  abbrev written : List Command
  written = demo_written (atom_written (place 6 1) seed size)

  is_read : in_text bound (read (demo_script seed size)) ≡ None
  is_read = ap (in_text bound) (lines_read seed size (place 6 1) first_expressions)
      ∙ ap (λ (cs : CommandsRead). in_commands bound (first_joined cs)) (commands_are seed size (place 6 1))
      ∙ ap (in_sorts bound (map command written)) (plain_fault [] [] written (sorts_fit seed size (place 6 1)))
      ∙ ap (in_checks bound) (asked_are seed size (place 6 1) (demo_with []))
      ∙ ap in_building is_built

-- ---- the size

pieces_length : (a b c e ds : List ℕ) → length (a ++ ds ++ b ++ ds ++ c ++ ds ++ e) ≡ length a + length ds + length b + length ds + length c + length ds + length e
pieces_length a b c e ds = simp length-append

line_length : (number : ℕ) → length (atom_line (coefficient number)) ≤ 60
line_length number = omega (
  arith,
  length-decimal-le 4 (coefficient number) (omega arith) (omega arith) (omega arith),
  pieces_length (codes "(assert (= (- (* ") (codes " x y) (* ") (codes " y x)) (/ ") (codes " 8)))\n") (decimal (coefficient number)),
)

lines_length : (number left : ℕ) → length (atom_lines number left) ≤ 60 * left
unfolding atom_lines
lines_length number zero = omega arith
lines_length number (suc left) = omega (arith, length-append (atom_line (coefficient (next_number number))) (atom_lines (next_number number) left), line_length (next_number number), lines_length (next_number number) left)

script_length : (seed size : ℕ) → size ≤ 10000 → length (demo_script seed size) ≤ most_bytes
script_length seed size small = omega (arith, length-append (head ++ atom_lines seed size) tail, length-append head (atom_lines seed size), lines_length seed size, small)

pub demo_is_faultless : DemoIsFaultless
demo_is_faultless bound seed size small = ap (λ (x : Option ScriptFault). unless_plain x (rooted_script_fault bound (demo_script seed size)))
    (ap (λ (t : Bool). cond t (in_text bound (read (demo_script seed size))) (Some too_many_bytes)) (le-leb (length (demo_script seed size)) most_bytes (script_length seed size small))
    ∙ is_read bound seed size small)
