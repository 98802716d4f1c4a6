-- The end of a script's building.
use Rattle.std.proofs.Common.{◌≡◌, ℕ, ◌<◌, List, [], ◌∷◌, ◌++◌, map, length, true, Option, Some, None, refl, ap, ap₂, sym, ◌∙◌, subst, arith, nat_lt}
use Rattle.std.specs.Prelude.{IfOk, Result, Ok, Err, Vec}
use Rattle.std.specs.Global.{Global}
use Rattle.std.specs.List.{list_all}
use Rattle.dyadic.proofs.Equal.{both_pass}
use Rattle.std.proofs.lemmas.List.Elements.{All-cons, All-nil}
use Rattle.script_model.specs.Sexp.{Place}
use Rattle.script_model.specs.Script.{Command, Constant, constants_of, sort_of_constant}
use Rattle.script_model.specs.Declared.{Bound, Bounding, bounds_in, concat, BoundFault, no_bound, bound_too_wide, bound_fault, bound_fault_from, declared_interval, script_bounds}
use Rattle.std.specs.Borrow.{Bor}
use Rattle.smt_sexp.specs.declared.sexps.Sexps as arena
use Rattle.script_fault.specs.declared.place.Place as code_place
use Rattle.script_fault.specs.declared.name.Name as names
use Rattle.smt_sexp.specs.Views.{place_of}
use Rattle.smt_script.specs.Views.{command_of}
use Rattle.smt_script.specs.declared.command.Sort as code_sort
use Rattle.smt_script.specs.declared.command.Command as code_command
use Rattle.smt_script.specs.declared.command.Command.TheVariants as commands
use Rattle.script_model.proofs.Related.{Each}
use Rattle.poly_graph.specs.Term.{Atom, Node, graph_terms}
use Rattle.poly_graph.specs.Form.{Form, Forms, form_map, forms_map, all_form}
use Rattle.poly_graph.specs.FormGraph.{graph_forms}
use Rattle.poly_graph.specs.Problem.{Axis}
use Rattle.poly_graph.specs.ProblemViews.{axis_of, problem_of}
use Rattle.poly_graph.specs.declared.axis.Axis as axis
use Rattle.script_forms.specs.Terms.{Unfolded}
use Rattle.script_forms.specs.Unfolded.{truth_of, forms_of}
use Rattle.script_forms.specs.Atoms.{atom_of, trees, atoms_in_place, number_in}
use Rattle.script_forms.specs.ProblemOf.{AreAxes, IsProblemOf}
use Rattle.script_forms.specs.Work.{Work, outcome_of}
use Rattle.script_forms.specs.Walk.{Stand, Walked, stands, stops, BuildingFault, works, walked, after_root, goes_on, claim_places, last_place, nowhere, fault_or, fault_of_bounds, building_fault, make_form}
use Rattle.script_forms.proofs.Walks.{Tells, works_tell}
use Rattle.term_build.specs.Built.{BuilderModel, stand_of, IsMade}
use Rattle.term_build.specs.Does.{Does, StopsAs}
use Rattle.term_build.specs.Sketch.{IsFormOf}
use Rattle.term_build.specs.Shapes.{AreNumbers}
use Rattle.term_build.specs.declared.stop.Stop.{Stop}
use Rattle.term_build.proofs.Emits.{stops_so}
use Rattle.term_build.proofs.Forms.{length_forms}
use Rattle.term_build.proofs.Lists.{get_below}
use Rattle.declared_box.specs.Same.{SameBounds}
use Rattle.declared_box.specs.Table.{all_of, AreBefore}
use Rattle.declared_box.proofs.Same.{same_bounds_append}
use Rattle.value_build.specs.Making.{Making}
use Rattle.problem_build.specs.Goal.{places_seen}
use Rattle.problem_build.specs.Laws.{IsProblemMade, parts_made}
use Rattle.problem_build.specs.Roots.{AreFormsOf, Roots}
use Rattle.problem_build.specs.Standing.{AreClaims, boundings, IsDone}
use Rattle.problem_build.specs.Progress.{AreAxesOf, HasAxes, IsRooted, IsState}
use Rattle.problem_build.proofs.One.{ends_are_lowest}
use Rattle.problem_build.proofs.Whole.{whole}
use Rattle.problem_build.specs.BuildAnswers.{IsBuildingError, found_by}
use Rattle.script_fault.specs.declared.fault.ReadError.{ReadError}
use Rattle.script_fault.specs.declared.fault.ReadError.TheVariants as errors
use Rattle.declared_box.specs.Axes.{bounds_fault, constant_of, IsBoundsError}
use Rattle.declared_box.specs.Calls.{AnswersBy, AreDeclared, HaveSortsOf}
use Rattle.declared_box.specs.declared.axes.Constant as code_constant
use Rattle.script_reading.specs.Faults.{in_building}
use Rattle.script_reading.specs.Built.{IsInWalkOrder, trees_made}
use Rattle.problem_build.proofs.Parts.{parts_problem}
use Rattle.problem_build.proofs.Standing.{places_both}

-- ---- forms and lists

abbrev pub forms_in : List Unfolded → Forms Atom
forms_in us = forms_map atom_of (forms_of truth_of us)

pub forms_are : (m : Making) (us : List Unfolded) (bs : List Bounding) (cs : List (ℕ × ℕ)) → AreClaims m us bs cs → AreFormsOf m.made (forms_in us) (map (λ c. c.0) cs)
forms_are m [] [] [] h = tt
forms_are m (u ∷ us) (b ∷ bs) (c ∷ cs) h = (h.0.form, forms_are m us bs cs h.1)
forms_are m [] [] (c ∷ cs) h = elim h [ ]
forms_are m [] (b ∷ bs) cs h = elim h [ ]
forms_are m (u ∷ us) [] cs h = elim h [ ]
forms_are m (u ∷ us) (b ∷ bs) [] h = elim h [ ]

form-below : (m : BuilderModel) (f : Form Atom) (k : ℕ) → IsFormOf m f k → k < length m.forms
form-below m f k h = omega (arith, get_below (graph_forms m.forms) k (form_map (number_in (stand_of m).atoms) f) h, length_forms m.forms)

below-so : (a b : ℕ) → a < b → nat_lt a b ≡ true
below-so a b h = grind (arith, h)

pub numbers_are : (m : Making) (us : List Unfolded) (bs : List Bounding) (cs : List (ℕ × ℕ)) → AreClaims m us bs cs → AreNumbers (length m.made.forms) (map (λ c. c.0) cs)
numbers_are m [] [] [] h = refl
numbers_are m (u ∷ us) (b ∷ bs) (c ∷ cs) h = both_pass (nat_lt c.0 (length m.made.forms)) (list_all (λ j. nat_lt j (length m.made.forms)) (map (λ d. d.0) cs)) (below-so c.0 (length m.made.forms) (form-below m.made (form_map atom_of (truth_of u)) c.0 h.0.form)) (numbers_are m us bs cs h.1)
numbers_are m [] [] (c ∷ cs) h = elim h [ ]
numbers_are m [] (b ∷ bs) cs h = elim h [ ]
numbers_are m (u ∷ us) [] cs h = elim h [ ]
numbers_are m (u ∷ us) (b ∷ bs) [] h = elim h [ ]

pub before_are : (m : Making) (us : List Unfolded) (bs : List Bounding) (cs : List (ℕ × ℕ)) → AreClaims m us bs cs → AreBefore (length m.bounds) (map (λ c. c.1) cs)
before_are m [] [] [] h = All-nil (λ (k : ℕ). k < length m.bounds)
before_are m (u ∷ us) (b ∷ bs) (c ∷ cs) h = All-cons (λ (k : ℕ). k < length m.bounds) c.1 (map (λ d. d.1) cs) h.0.bounds.0 (before_are m us bs cs h.1)
before_are m [] [] (c ∷ cs) h = elim h [ ]
before_are m [] (b ∷ bs) cs h = elim h [ ]
before_are m (u ∷ us) [] cs h = elim h [ ]
before_are m (u ∷ us) (b ∷ bs) [] h = elim h [ ]

pub bounds_are : (m : Making) (us : List Unfolded) (bs : List Bounding) (cs : List (ℕ × ℕ)) → AreClaims m us bs cs → SameBounds (all_of m.bounds (map (λ c. c.1) cs)) (concat (map bounds_in bs))
bounds_are m [] [] [] h = tt
bounds_are m (u ∷ us) (b ∷ bs) (c ∷ cs) h = same_bounds_append _ _ _ _ h.0.bounds.1 (bounds_are m us bs cs h.1)
bounds_are m [] [] (c ∷ cs) h = elim h [ ]
bounds_are m [] (b ∷ bs) cs h = elim h [ ]
bounds_are m (u ∷ us) [] cs h = elim h [ ]
bounds_are m (u ∷ us) (b ∷ bs) [] h = elim h [ ]

-- ---- the trees of the works are those of the script

outcomes : (us : List Unfolded) (ws : List Work) → Each Tells us ws → map outcome_of ws ≡ us
outcomes [] [] h = refl
outcomes (u ∷ us) (w ∷ ws) h = ap₂ (λ x xs. x ∷ xs) h.0.outcome (outcomes us ws h.1)
outcomes [] (w ∷ ws) h = elim h [ ]
outcomes (u ∷ us) [] h = elim h [ ]

pub whole_forms : (script : List Command) → all_form (forms_in (map outcome_of (works script))) ≡ atoms_in_place script
whole_forms script = ap (λ us. all_form (forms_in us)) (outcomes (trees script) (works script) (works_tell script))

-- ---- faults

none-refused : (e : ReadError) (later : Option (Place × BuildingFault)) → IsBuildingError e None → IsBuildingError e later
none-refused (errors.Fault f) later h = cc
none-refused errors.Memory later h = tt

bounds-same : (found : Option (Constant × BoundFault)) → in_building (fault_of_bounds found) ≡ bounds_fault found
bounds-same None = refl
bounds-same (Some (c, no_bound)) = refl
bounds-same (Some (c, bound_too_wide)) = refl

bounds-error : (e : ReadError) (found : Option (Constant × BoundFault)) → IsBoundsError e found → IsBuildingError e (fault_of_bounds found)
bounds-error (errors.Fault f) found h = bounds-same found ∙ h
bounds-error errors.Memory found h = tt

pub found_first : (f : ReadError) (w : Walked) (later : Option (Place × BuildingFault)) → IsBuildingError f (found_by w) → IsBuildingError f (fault_or w later)
found_first f (stops at x) later h = h
found_first f (stands s) later h = none-refused f later h

pub found_before : (f : ReadError) (g : Stand → Walked) (w : Walked) (later : Option (Place × BuildingFault)) → IsBuildingError f (found_by w) → IsBuildingError f (fault_or (goes_on g w) later)
found_before f g (stops at x) later h = h
found_before f g (stands s) later h = none-refused f (fault_or (g s) later) h

-- ---- the root

module _ (script : List Command) (m : Making) (made : List (ℕ × ℕ)) (h : IsDone script m made) where
  pub done_forms : AreFormsOf m.made (forms_in (map outcome_of (works script))) (map (λ c. c.0) made)
  done_forms = forms_are m (map outcome_of (works script)) (boundings script) made h.claims

  pub done_numbers : AreNumbers (length m.made.forms) (map (λ c. c.0) made)
  done_numbers = numbers_are m (map outcome_of (works script)) (boundings script) made h.claims

  pub done_before : AreBefore (length m.bounds) (map (λ c. c.1) made)
  done_before = before_are m (map outcome_of (works script)) (boundings script) made h.claims

  pub done_bounds : SameBounds (all_of m.bounds (map (λ c. c.1) made)) (concat (map bounds_in (boundings script)))
  done_bounds = bounds_are m (map outcome_of (works script)) (boundings script) made h.claims

  pub walked_root : walked script ≡ after_root script (stand_of m.made)
  walked_root = ap (goes_on (after_root script)) h.walk

  pub root_stops : (m1 : BuilderModel) (e : Stop) (claim : Place) → claim ≡ last_place nowhere (claim_places script) → Roots m.made m1 (map (λ c. c.0) made) (Err e) → StopsAs claim (walked script) e
  root_stops m1 e claim at roots =
      let s = stand_of m.made in
      let there = roots (forms_in (map outcome_of (works script))) done_forms claim in
      stops_so claim (walked script) (make_form claim s (form_map (number_in s.atoms) (all_form (forms_in (map outcome_of (works script)))))) e
      (walked_root ∙ ap₂ (λ p f. make_form p s (form_map (number_in s.atoms) f)) (sym at) (sym (whole_forms script))) there

  module _ (m1 : BuilderModel) (root : ℕ) (roots : Roots m.made m1 (map (λ c. c.0) made) (Ok root)) where
    rooted : Does m.made m1 (λ claim s. make_form claim s (form_map (number_in s.atoms) (all_form (forms_in (map outcome_of (works script)))))) (Ok root) (IsFormOf m1 (all_form (forms_in (map outcome_of (works script)))))
    rooted = roots (forms_in (map outcome_of (works script))) done_forms

    pub root_below : root < length m1.forms
    root_below = form-below m1 (all_form (forms_in (map outcome_of (works script)))) root rooted.1

    pub builds_so : (bound : Option ℕ) (axes : List Axis) → IsMade m1 → bound_fault bound script ≡ None → AreAxes (declared_interval bound script) 0 (constants_of script) axes →
        (building_fault bound script ≡ None) × IsProblemOf bound script (problem_of (parts_made m1 axes root))
    builds_so bound axes is bounded declared =
        let s = stand_of m.made in
        let p = parts_problem bound script m.made m1 axes root is h.walk
        (ap (λ f. make_form (last_place nowhere (claim_places script)) s (form_map (number_in s.atoms) f)) (sym (whole_forms script)) ∙ rooted.0 (last_place nowhere (claim_places script)))
        (subst (λ (f : Form Atom). IsFormOf m1 f root) (whole_forms script) rooted.1) bounded declared in
        (p.1, p.0)

    pub walked_all : walked script ≡ stands (stand_of m1)
    walked_all = walked_root ∙ ap (λ f. make_form (last_place nowhere (claim_places script)) (stand_of m.made) (form_map (number_in (stand_of m.made).atoms) f)) (sym (whole_forms script)) ∙ rooted.0 (last_place nowhere (claim_places script))

    -- the walk makes the trees of the builder's nodes
    pub ordered_so : (nodes : List Node) → nodes ≡ m1.nodes → IsInWalkOrder script nodes
    ordered_so nodes same = ap graph_terms same ∙ sym (ap trees_made walked_all)

    pub bounds_refuse : (bound : Option ℕ) (f : ReadError) → IsBoundsError f (bound_fault bound script) → IsBuildingError f (building_fault bound script)
    bounds_refuse bound f r = subst (λ (x : Option (Place × BuildingFault)). IsBuildingError f x)
        (sym (ap (λ w. fault_or w (fault_of_bounds (bound_fault bound script))) walked_all)) (bounds-error f (bound_fault bound script) r)

-- ---- the axes

pub axes_answer : (bound : Option ℕ) (script : List Command) (lists : List (List Bound)) (ks : List ℕ) (constants : List code_constant.Constant) (r : Result (Vec axis.Axis Global) ReadError) → map constant_of constants ≡ constants_of script →
    AnswersBy lists ks bound constants r → IfOk r AreDeclared → IfOk r (HaveSortsOf constants) → AreAxesOf bound script lists ks r
axes_answer bound script lists ks constants (Ok axes) e answers declared sorts = record {
  answers = λ same. subst (λ (cs : List Constant). (bound_fault_from (declared_interval bound script) 0 cs ≡ None) × AreAxes (declared_interval bound script) 0 cs (map axis_of axes.items)) e (answers (script_bounds script) same);
  bounds = declared;
  sorts = sorts ∙ ap (map sort_of_constant) e;
  ends = ends_are_lowest axes.items;
}
axes_answer bound script lists ks constants (Err f) e answers declared sorts = λ same. subst (λ (cs : List Constant). IsBoundsError f (bound_fault_from (declared_interval bound script) 0 cs)) e (answers (script_bounds script) same)

-- ---- the end

module _ (script : List Command) (m m1 : Making) (made : List (ℕ × ℕ)) (root : ℕ) (h : IsState script m made) (r : IsRooted script m m1 made root) where
  pub ended_before : AreBefore (length m1.bounds) (map (λ c. c.1) made)
  ended_before = subst (λ (lists : List (List Bound)). AreBefore (length lists) (map (λ c. c.1) made)) (sym r.bounds) (done_before script m made h.done)

  ended-bounds : SameBounds (all_of m1.bounds (map (λ c. c.1) made)) (script_bounds script)
  ended-bounds = subst (λ (lists : List (List Bound)). SameBounds (all_of lists (map (λ c. c.1) made)) (script_bounds script)) (sym r.bounds) (done_bounds script m made h.done)

  pub ended_refused : (bound : Option ℕ) (e : ReadError) → AreAxesOf bound script m1.bounds (map (λ c. c.1) made) (Err e) → IsBuildingError e (building_fault bound script)
  ended_refused bound e a = bounds_refuse script m made h.done m1.made root r.roots bound e (a ended-bounds)

  pub ended : (bound : Option ℕ) (axes : List Axis) → HasAxes bound script m1.bounds (map (λ c. c.1) made) axes → IsProblemMade bound script m1.made axes root
  ended bound axes a =
      let answers = a.answers ended-bounds in
      let builds = builds_so script m made h.done m1.made root r.roots bound axes r.is_made answers.0 answers.1 in
      record {
        clean = builds.0;
        problem = builds.1;
        whole = whole m1.made axes root r.is_made a.bounds (a.sorts ∙ sym (r.sorts ∙ h.done.sorts)) (root_below script m made h.done m1.made root r.roots);
        lean = record { nodes = r.is_made.graph; atoms = r.is_made.table.few };
        order = ordered_so script m made h.done m1.made root r.roots m1.made.nodes refl;
        ends = a.ends;
      }

-- ---- lists that are gathered

pub moved : {A B : Type 0} (f : A → B) (xs : List A) (x : A) (rest : List B) → map f xs ++ (f x ∷ rest) ≡ map f (xs ++ (x ∷ [])) ++ rest
moved f [] x rest = refl
moved f (y ∷ xs) x rest = ap (λ z. f y ∷ z) (moved f xs x rest)

module _ (s : arena.Sexps) (x : code_command.Command) (rest : List Command) where
  pub not_declared : ((at : code_place.Place) (name : Bor names.Name) (sort : code_sort.Sort) → x ≡ commands.Declare at name sort → ⊥) → constants_of (command_of s x ∷ rest) ≡ constants_of rest
  not_declared h = go x h
    where
      go : (y : code_command.Command) → ((at : code_place.Place) (name : Bor names.Name) (sort : code_sort.Sort) → y ≡ commands.Declare at name sort → ⊥) → constants_of (command_of s y ∷ rest) ≡ constants_of rest
      go (commands.Declare at name sort) h = absurd (h at name sort refl)
      go (commands.Define at name params sort body) h = refl
      go (commands.Assert at body) h = refl
      go (commands.Minimize at body) h = refl
      go (commands.Check at) h = refl
      go (commands.Ineffective at) h = refl

  -- the place of the command, where it asserts or has a goal
  pub claimed_here : (place : code_place.Place) → places_seen (Some place) ≡ claim_places (command_of s x ∷ []) → (last : Place) →
      last_place last (claim_places (command_of s x ∷ rest)) ≡ last_place (place_of place) (claim_places rest)
  claimed_here place e last = ap (last_place last) (places_both (command_of s x ∷ []) rest ∙ ap (λ ps. ps ++ claim_places rest) (sym e))

  pub claimed_nowhere : places_seen None ≡ claim_places (command_of s x ∷ []) → (last : Place) → last_place last (claim_places (command_of s x ∷ rest)) ≡ last_place last (claim_places rest)
  claimed_nowhere e last = ap (last_place last) (places_both (command_of s x ∷ []) rest ∙ ap (λ ps. ps ++ claim_places rest) (sym e))
