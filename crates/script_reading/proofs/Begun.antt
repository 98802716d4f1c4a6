-- A problem goes on from that of the first of its commands.
use Rattle.std.proofs.Common.{◌≡◌, ℕ, suc, ◌+◌, ◌<◌, ◌≤◌, List, [], ◌∷◌, ◌++◌, drop, length, Bool, true, false, cond, Option, None, refl, ap, ap₂, sym, ◌∙◌, arith, append_assoc, append-nil, length-append, slice_index_or, take-append-drop}
use Rattle.dyadic.specs.Fraction.{zero_fraction}
use Rattle.dyadic.specs.Point.{Sort}
use Rattle.poly_graph.specs.Term.{Term, constant, Kind, Atom, graph_terms}
use Rattle.poly_graph.specs.Form.{Form, Forms, no_forms, more_forms, all_form, form_atoms, forms_atoms, form_map, forms_map}
use Rattle.poly_graph.specs.Problem.{Problem, IsProblem, atom_at, full_atom, no_atom, no_place}
use Rattle.poly_graph.specs.Shared.{IsGraph}
use Rattle.poly_graph.proofs.Graphs.{length_terms}
use Rattle.poly_graph.proofs.Same.{one_number}
use Rattle.cover_model.specs.Carried.{GoesOnFrom, forms_then}
use Rattle.script_model.specs.Script.{Command, check, sorts_of}
use Rattle.script_model.specs.Sexp.{Place}
use Rattle.smt_script.specs.Levels.{Asked}
use Rattle.script_forms.specs.Terms.{Comparison, Unfolded}
use Rattle.script_forms.specs.Unfolded.{as_tree, forms_of, truth_of}
use Rattle.script_forms.specs.Atoms.{already, atom_of, constant_tree, firsts, number_in, script_atoms, script_form, trees}
use Rattle.script_forms.specs.Work.{Work, as_work}
use Rattle.script_forms.specs.Walk.{after_assertions, after_root, building_fault, claim_places, constant_work, goes_on, nothing_made, walked, works}
use Rattle.script_forms.proofs.Box.{problem_sorts}
use Rattle.script_forms.proofs.Numbered.{already_end, already_later}
use Rattle.script_forms.proofs.Walks.{faultless_walked, firsts_both}
use Rattle.script_reading.specs.Built.{IsBuiltOf, trees_made}
use Rattle.script_reading.specs.Session.{BeginsNext}
use Rattle.term_build.specs.Settled.{AtomsIn}
use Rattle.term_build.proofs.Lists.{index_before}
use Rattle.term_build.proofs.Marks.{nodes_begin, no_fewer}
use Rattle.term_build.proofs.Settled.{same_numbers_of}
use Rattle.script_reading.proofs.Commands.{sorts_both, sorts_check, places_both, places_check, values_first, values_check, claims_long}
use Rattle.script_reading.proofs.Walks.{assertions_both, reaches_assertions, trees_begin}

-- ---- lists that begin others

-- two lists that agree as far as the first one goes
begins-by : {X : Type 0} (xs ys : List X) (d : X) → length xs ≤ length ys → ((k : ℕ) → k < length xs → slice_index_or xs k d ≡ slice_index_or ys k d) → (more : List X) × (ys ≡ xs ++ more)
begins-by [] ys d few same = (ys, refl)
begins-by (x ∷ xs) [] d few same = absurd (omega (arith, few))
begins-by (x ∷ xs) (y ∷ ys) d few same =
    let rest = begins-by xs ys d (omega (arith, few)) (λ k l. same (suc k) (omega (arith, l))) in
    (rest.0, ap₂ (λ z zs. z ∷ zs) (sym (same 0 (omega arith))) rest.1)

-- ---- forms and their atoms

-- the first forms, and behind them the others
abbrev both : {A : Type 0} → Forms A → Forms A → Forms A
both no_forms gs = gs
both (more_forms f fs) gs = more_forms f (both fs gs)

both-then : (fs gs : Forms ℕ) → both fs gs ≡ forms_then fs gs
both-then no_forms gs = refl
both-then (more_forms f fs) gs = ap (more_forms f) (both-then fs gs)

forms-of-both : (f : Unfolded → Form Comparison) (us vs : List Unfolded) → forms_of f (us ++ vs) ≡ both (forms_of f us) (forms_of f vs)
forms-of-both f [] vs = refl
forms-of-both f (u ∷ us) vs = ap (more_forms (f u)) (forms-of-both f us vs)

map-both : {A B : Type 0} (f : A → B) (fs gs : Forms A) → forms_map f (both fs gs) ≡ both (forms_map f fs) (forms_map f gs)
map-both f no_forms gs = refl
map-both f (more_forms g fs) gs = ap (more_forms (form_map f g)) (map-both f fs gs)

atoms-both : {A : Type 0} (fs gs : Forms A) → forms_atoms (both fs gs) ≡ forms_atoms fs ++ forms_atoms gs
atoms-both no_forms gs = refl
atoms-both (more_forms f fs) gs = ap (λ xs. form_atoms f ++ xs) (atoms-both fs gs) ∙ sym (append_assoc (form_atoms f) (forms_atoms fs) (forms_atoms gs))

more-behind : (x : Atom) (seen xs : List Atom) → ((s : List Atom) → (more : List Atom) × (firsts s xs ≡ s ++ more)) → (b : Bool) → (more : List Atom) × (firsts (cond b seen (seen ++ (x ∷ []))) xs ≡ seen ++ more)
more-behind x seen xs f true = f seen
more-behind x seen xs f false = let rest = f (seen ++ (x ∷ [])) in (x ∷ rest.0, rest.1 ∙ append_assoc seen (x ∷ []) rest.0)

firsts-more : (seen xs : List Atom) → (more : List Atom) × (firsts seen xs ≡ seen ++ more)
firsts-more seen [] = ([], sym (append-nil seen))
firsts-more seen (x ∷ xs) = more-behind x seen xs (λ s. firsts-more s xs) (already x seen)

stays-in : (a : Atom) (seen xs : List Atom) → already a seen ≡ true → already a (firsts seen xs) ≡ true
stays-in a seen xs h = let more = firsts-more seen xs in ap (already a) more.1 ∙ already_later a seen more.0 h

found-first : (x : Atom) (seen : List Atom) (b : Bool) → already x seen ≡ b → already x (cond b seen (seen ++ (x ∷ []))) ≡ true
found-first x seen true e = e
found-first x seen false e = already_end x seen

all-found : (seen xs : List Atom) → AtomsIn (firsts seen xs) xs
all-found seen [] = tt
all-found seen (x ∷ xs) = let next : List Atom = cond (already x seen) seen (seen ++ (x ∷ [])) in
    (stays-in x next xs (found-first x seen (already x seen) refl), all-found next xs)

-- ---- of two scripts, one of which begins the other

-- the forms of a script's assertions, with its atoms in place
abbrev parts_of : List Command → Forms Atom
parts_of script = forms_map atom_of (forms_of truth_of (trees script))

module _ (p q : List Command) (us : List Unfolded) (e : trees q ≡ trees p ++ us) where
  abbrev behind_parts : Forms Atom
  behind_parts = forms_map atom_of (forms_of truth_of us)

  parts-then : parts_of q ≡ both (parts_of p) behind_parts
  parts-then = ap (λ ts. forms_map atom_of (forms_of truth_of ts)) e ∙ ap (forms_map atom_of) (forms-of-both truth_of (trees p) us) ∙ map-both atom_of (forms_of truth_of (trees p)) (forms_of truth_of us)

  pub atoms_more : (more : List Atom) × (script_atoms q ≡ script_atoms p ++ more)
  atoms_more =
      let more = firsts-more (script_atoms p) (forms_atoms behind_parts) in
      (more.0, ap (λ fs. firsts [] (forms_atoms fs)) parts-then ∙ ap (firsts []) (atoms-both (parts_of p) behind_parts) ∙ firsts_both [] (forms_atoms (parts_of p)) (forms_atoms behind_parts) ∙ more.1)

  -- the numbers of the first atoms stay
  pub form_more : script_form q ≡ all_form (forms_then (forms_map (number_in (script_atoms p)) (parts_of p)) (forms_map (number_in (script_atoms q)) behind_parts))
  form_more =
      let all = number_in (script_atoms q) in
      let same : forms_map all (parts_of p) ≡ forms_map (number_in (script_atoms p)) (parts_of p) =
      ap (λ xs. forms_map (number_in xs) (parts_of p)) atoms_more.1 ∙ same_numbers_of (script_atoms p) atoms_more.0 (parts_of p) (all-found [] (forms_atoms (parts_of p))) in
      ap (λ fs. all_form (forms_map all fs)) parts-then ∙ ap all_form (map-both all (parts_of p) behind_parts ∙ ap (λ fs. both fs (forms_map all behind_parts)) same ∙ both-then (forms_map (number_in (script_atoms p)) (parts_of p)) (forms_map all behind_parts))

-- ---- of their problems

module _ (p q : Problem) (whole : IsProblem p) (whole' : IsProblem q) (g : IsGraph p.nodes) (h : IsGraph q.nodes) (ts : List Term) (e : graph_terms q.nodes ≡ graph_terms p.nodes ++ ts) where
  pub nodes_more : q.nodes ≡ p.nodes ++ drop (length p.nodes) q.nodes
  nodes_more = sym (take-append-drop (length p.nodes) q.nodes) ∙ ap (λ ns. ns ++ drop (length p.nodes) q.nodes) (nodes_begin p.nodes q.nodes g h ts e)

  few : length p.nodes ≤ length q.nodes
  few = no_fewer p.nodes q.nodes g h ts e

  -- an atom of one term and one kind in both is one
  atom-same : (j : ℕ) → j < length p.atoms → j < length q.atoms → full_atom p j ≡ full_atom q j → atom_at p j ≡ atom_at q j
  atom-same j l m same =
      let a : ℕ × Kind = atom_at p j in
      let b : ℕ × Kind = atom_at q j in
      let none : Term = constant zero_fraction in
      let first : a.0 < length p.nodes = whole.atoms j no_place l in
      let second : b.0 < length q.nodes = whole'.atoms j no_place m in
      let there : slice_index_or (graph_terms q.nodes) a.0 none ≡ slice_index_or (graph_terms p.nodes) a.0 none =
      ap (λ xs. slice_index_or xs a.0 none) e ∙ index_before (graph_terms p.nodes) ts a.0 none (omega (arith, first, length_terms p.nodes)) in
      ap₂ (λ (k : ℕ) (kind : Kind). (k, kind)) (one_number q.nodes h a.0 b.0 (omega (arith, first, few)) second (there ∙ ap (λ (x : Atom). x.0) same)) (ap (λ (x : Atom). x.1) same)

  pub atoms_more_in : length p.atoms ≤ length q.atoms → ((j : ℕ) → j < length p.atoms → full_atom p j ≡ full_atom q j) → (more : List (ℕ × Kind)) × (q.atoms ≡ p.atoms ++ more)
  atoms_more_in many same = begins-by p.atoms q.atoms no_place many (λ j l. atom-same j l (omega (arith, l, many)) (same j l))

-- ---- together

module _ (bound : Option ℕ) (here behind : List Command) (p q : Problem) (b : IsBuiltOf bound here p) (c : IsBuiltOf bound behind q) (clean : building_fault bound behind ≡ None)
    (cs later : List Command) (at at' : Place) (is-here : here ≡ cs ++ check at ∷ []) (is-behind : behind ≡ (cs ++ later) ++ check at' ∷ []) where
  sorts-more : (more : List Sort) × (sorts_of behind ≡ sorts_of here ++ more)
  sorts-more = (sorts_of later, ap sorts_of is-behind ∙ sorts_check (cs ++ later) at' ∙ sorts_both cs later ∙ ap (λ ss. ss ++ sorts_of later) (sym (ap sorts_of is-here ∙ sorts_check cs at)))

  trees-more : (more : List Unfolded) × (trees behind ≡ trees here ++ more)
  trees-more =
      let rest = values_first as_tree constant_tree cs later in
      (rest.0, ap trees is-behind ∙ values_check as_tree constant_tree (cs ++ later) at' ∙ rest.1 ∙ ap (λ us. us ++ rest.0) (sym (ap trees is-here ∙ values_check as_tree constant_tree cs at)))

  works-more : (more : List Work) × (works behind ≡ works here ++ more)
  works-more =
      let rest = values_first as_work constant_work cs later in
      (rest.0, ap works is-behind ∙ values_check as_work constant_work (cs ++ later) at' ∙ rest.1 ∙ ap (λ us. us ++ rest.0) (sym (ap works is-here ∙ values_check as_work constant_work cs at)))

  places-more : (more : List Place) × (claim_places behind ≡ claim_places here ++ more)
  places-more = (claim_places later, ap claim_places is-behind ∙ places_check (cs ++ later) at' ∙ places_both cs later ∙ ap (λ ps. ps ++ claim_places later) (sym (ap claim_places is-here ∙ places_check cs at)))

  walk-more : walked behind ≡
      goes_on (after_root behind) (goes_on (λ s. after_assertions s places-more.0 works-more.0) (after_assertions nothing_made (claim_places here) (works here)))
  walk-more = ap (goes_on (after_root behind))
      (ap₂ (after_assertions nothing_made) places-more.1 works-more.1
      ∙ assertions_both nothing_made (claim_places here) places-more.0 (works here) works-more.0 (claims_long as_work [] _ here))

  terms-more : (more : List Term) × (graph_terms q.nodes ≡ graph_terms p.nodes ++ more)
  terms-more =
      let s = (faultless_walked (walked behind) _ clean).0 in
      let rest = trees_begin here behind (after_assertions nothing_made (claim_places here) (works here)) (λ s. after_assertions s places-more.0 works-more.0) s.0
      (λ s. reaches_assertions s places-more.0 works-more.0) (sym walk-more ∙ s.1) in
      (rest.0, c.order ∙ ap trees_made s.1 ∙ rest.1 ∙ ap (λ xs. xs ++ rest.0) (sym b.order))

  atoms-of : (more : List Atom) × (script_atoms behind ≡ script_atoms here ++ more)
  atoms-of = atoms_more here behind trees-more.0 trees-more.1

  many : length p.atoms ≤ length q.atoms
  many =
      let all : length (script_atoms behind) ≡ length (script_atoms here) + length atoms-of.0 = ap length atoms-of.1 ∙ length-append (script_atoms here) atoms-of.0 in
      omega (arith, all, b.problem.count, c.problem.count)

  full-same : (j : ℕ) → j < length p.atoms → full_atom p j ≡ full_atom q j
  full-same j l =
      b.problem.atoms j l
      ∙ sym (c.problem.atoms j (omega (arith, l, many)) ∙ ap (λ xs. slice_index_or xs j no_atom) atoms-of.1 ∙ index_before (script_atoms here) atoms-of.0 j no_atom (omega (arith, l, b.problem.count)))

  pub goes_on_from : GoesOnFrom p q
  goes_on_from =
      let atoms = atoms_more_in p q b.whole c.whole b.nodes c.nodes terms-more.0 terms-more.1 many full-same in
      record {
        new_sorts = sorts-more.0;
        sorts = problem_sorts bound behind q c.problem ∙ sorts-more.1 ∙ ap (λ ss. ss ++ sorts-more.0) (sym (problem_sorts bound here p b.problem));
        new_nodes = drop (length p.nodes) q.nodes;
        nodes = nodes_more p q b.whole c.whole b.nodes c.nodes terms-more.0 terms-more.1;
        new_atoms = atoms.0;
        atoms = atoms.1;
        parts = forms_map (number_in (script_atoms here)) (parts_of here);
        new_parts = forms_map (number_in (script_atoms behind)) (behind_parts here behind trees-more.0 trees-more.1);
        form = b.problem.form;
        later_form = c.problem.form ∙ form_more here behind trees-more.0 trees-more.1;
      }

pub begun_goes_on : (bound : Option ℕ) (a next : Asked) (p q : Problem) → BeginsNext a next → building_fault bound next.script ≡ None →
    IsBuiltOf bound a.script p → IsBuiltOf bound next.script q → GoesOnFrom p q
begun_goes_on bound a next p q h clean b c = goes_on_from bound a.script next.script p q b c clean h.commands h.later a.at next.at h.here h.behind
