-- Forms that are made one after the other.
use Rattle.std.proofs.Common.{◌≡◌, ℕ, ◌<◌, ◌≤◌, List, [], ◌∷◌, ◌++◌, length, true, Some, refl, ap, ap₂, sym, ◌∙◌, subst, arith, slice_index_or, append_assoc, append-nil, nat_lt, ltb→lt, length-append}
use Rattle.std.specs.Prelude.{slice_get, Result, Ok, Err}
use Rattle.std.specs.Bool.{passes}
use Rattle.std.specs.List.{list_all}
use Rattle.dyadic.proofs.Equal.{both_true, both_pass}
use Rattle.dyadic.specs.Fraction.{zero_fraction}
use Rattle.script_model.specs.Sexp.{Place}
use Rattle.poly_graph.specs.Term.{Term, constant, eq, Atom}
use Rattle.poly_graph.specs.Form.{Form, no_form, more_forms, atom_is, any_form, form_atoms, form_map, forms_map}
use Rattle.poly_graph.specs.FormGraph.{picked}
use Rattle.poly_graph.proofs.Graphs.{length_terms}
use Rattle.script_forms.specs.Terms.{Comparison}
use Rattle.script_forms.specs.Atoms.{atom_of, number_in}
use Rattle.script_forms.specs.Work.{Event, formed, form_events, forms_events}
use Rattle.script_forms.specs.Walk.{Stand, after_events, goes_on, make_form}
use Rattle.term_build.specs.Built.{BuilderModel, stand_of}
use Rattle.term_build.specs.Does.{Does, StopsAs, IsForm}
use Rattle.term_build.specs.Gathers.{IsFormMade, AreFormsMade, Gathered, Gathering}
use Rattle.term_build.specs.Settled.{Extends}
use Rattle.term_build.specs.Shapes.{AreNumbers}
use Rattle.term_build.specs.Sketch.{comparison_of, equal_pairs, equal_with, forms_in, some_equal, IsAtomForm, IsFormOf}
use Rattle.term_build.specs.Steps.{Emits}
use Rattle.term_build.specs.declared.stop.Stop.{Stop}
use Rattle.term_build.proofs.Compares.{emits_form}
use Rattle.term_build.proofs.Emits.{events_both, stops_so, stopped_on}
use Rattle.term_build.proofs.Forms.{length_forms}
use Rattle.term_build.proofs.Lists.{get_index, get_below, get_before, index_before}
use Rattle.term_build.proofs.Settled.{extends_to, form_done, forms_done, numbers_stay, atoms_stay, stay}

here : Place
here = record { line = 0; column = 0 }

-- ---- numbers below a bound

lt-true : (a b : ℕ) → a < b → nat_lt a b ≡ true
lt-true a b h = grind (arith, h)

pub numbers_within : (n n' : ℕ) (ks : List ℕ) → n ≤ n' → AreNumbers n ks → AreNumbers n' ks
numbers_within n n' [] h k = refl
numbers_within n n' (j ∷ js) h k = let o = both_true (nat_lt j n) (list_all (λ i. nat_lt i n) js) k in let p : j < n' = omega (arith, ltb→lt j n (passes _ o.0), h) in
    both_pass (nat_lt j n') (list_all (λ i. nat_lt i n') js) (lt-true j n' p) (numbers_within n n' js h o.1)

pub first_below : (n k : ℕ) (ks all : List ℕ) → all ≡ k ∷ ks → AreNumbers n all → k < n
first_below n k ks all e h = ltb→lt k n (passes _ (both_true (nat_lt k n) (list_all (λ i. nat_lt i n) ks) (subst (λ (xs : List ℕ). AreNumbers n xs) e h)).0)

pub rest_below : (n k : ℕ) (ks all : List ℕ) → all ≡ k ∷ ks → AreNumbers n all → AreNumbers n ks
rest_below n k ks all e h = (both_true (nat_lt k n) (list_all (λ i. nat_lt i n) ks) (subst (λ (xs : List ℕ). AreNumbers n xs) e h)).1

-- ---- the same trees later

abbrev LaterTrees : List Term → List Term → Type 0
LaterTrees ts us = (vs : List Term) × (us ≡ ts ++ vs)

tree-later : (ts us : List Term) → LaterTrees ts us → (k : ℕ) → k < length ts → slice_index_or us k (constant zero_fraction) ≡ slice_index_or ts k (constant zero_fraction)
tree-later ts us e k h = ap (λ l. slice_index_or l k (constant zero_fraction)) e.1 ∙ index_before ts e.0 k (constant zero_fraction) h

pub equal_with_later : (ts us : List Term) → LaterTrees ts us → (at : Place) (k : ℕ) (ls : List ℕ) → k < length ts → AreNumbers (length ts) ls → equal_with us at k ls ≡ equal_with ts at k ls
equal_with_later ts us e at k [] h o = refl
equal_with_later ts us e at k (l ∷ ls) h o = let b = both_true (nat_lt l (length ts)) (list_all (λ i. nat_lt i (length ts)) ls) o in
    ap₂ (λ (f : Form Comparison) (fs : List (Form Comparison)). f ∷ fs)
    (ap₂ (λ (t u : Term). atom_is (record { at = at; left = t; right = u; kind = eq })) (tree-later ts us e k h) (tree-later ts us e l (ltb→lt l (length ts) (passes _ b.0))))
    (equal_with_later ts us e at k ls h b.1)

equal-pairs-later : (ts us : List Term) → LaterTrees ts us → (at : Place) (ks : List ℕ) → AreNumbers (length ts) ks → equal_pairs us at ks ≡ equal_pairs ts at ks
equal-pairs-later ts us e at [] o = refl
equal-pairs-later ts us e at (k ∷ ks) o = let b = both_true (nat_lt k (length ts)) (list_all (λ i. nat_lt i (length ts)) ks) o in
    ap₂ (λ (xs ys : List (Form Comparison)). xs ++ ys) (equal_with_later ts us e at k ks (ltb→lt k (length ts) (passes _ b.0)) b.1) (equal-pairs-later ts us e at ks b.1)

pub some_equal_later : (ts us : List Term) → LaterTrees ts us → (at : Place) (ks : List ℕ) → AreNumbers (length ts) ks → some_equal us at ks ≡ some_equal ts at ks
some_equal_later ts us e at ks o = ap (λ fs. any_form (forms_in fs)) (equal-pairs-later ts us e at ks o)

-- ---- what is made stays

made-stays : (s s' : Stand) (f : Form Comparison) (j : ℕ) → Extends s s' → IsFormMade s f j → IsFormMade s' f j
made-stays s s' f j x h = let g = form_map atom_of f in (
  (stay s s' (form_events f) x h.0.0, atoms_stay s s' (form_atoms g) x h.0.1),
  ap (λ (l : List (Form ℕ)). slice_get l j) x.forms.1 ∙ get_before s.forms x.forms.0 j (form_map (number_in s.atoms) g) h.1 ∙ ap (λ (y : Form ℕ). Some y) (sym (numbers_stay s s' g x h.0.1)),
)

all-stay : (s s' : Stand) (fs : List (Form Comparison)) (js : List ℕ) → Extends s s' → AreFormsMade s fs js → AreFormsMade s' fs js
all-stay s s' [] [] x h = tt
all-stay s s' (f ∷ fs) (j ∷ js) x h = (made-stays s s' f j x h.0, all-stay s s' fs js x h.1)
all-stay s s' [] (j ∷ js) x h = elim h [ ]
all-stay s s' (f ∷ fs) [] x h = elim h [ ]

all-both : (s : Stand) (fs gs : List (Form Comparison)) (js ks : List ℕ) → AreFormsMade s fs js → AreFormsMade s gs ks → AreFormsMade s (fs ++ gs) (js ++ ks)
all-both s [] gs [] ks h k = k
all-both s (f ∷ fs) gs (j ∷ js) ks h k = (h.0, all-both s fs gs js ks h.1 k)
all-both s [] gs (j ∷ js) ks h k = elim h [ ]
all-both s (f ∷ fs) gs [] ks h k = elim h [ ]

-- ---- one after the other

pub events_in : (fs gs : List (Form Comparison)) → forms_events (forms_in (fs ++ gs)) ≡ forms_events (forms_in fs) ++ forms_events (forms_in gs)
events_in [] gs = refl
events_in (f ∷ fs) gs = ap (λ (es : List Event). form_events f ++ es) (events_in fs gs) ∙ sym (append_assoc (form_events f) (forms_events (forms_in fs)) (forms_events (forms_in gs)))

pub gathered_none : (m : BuilderModel) (js js' : List ℕ) → js' ≡ js → Gathered m m [] js js'
gathered_none m js js' e = record { walk = λ claim. refl; more = []; is = e ∙ sym (append-nil js); made = tt }

pub gathered_then : (a b c : BuilderModel) (fs gs : List (Form Comparison)) (is js ks : List ℕ) → Gathered a b fs is js → Gathered b c gs js ks → Gathered a c (fs ++ gs) is ks
gathered_then a b c fs gs is js ks h k = record {
  walk = λ claim. ap (after_events claim (stand_of a)) (events_in fs gs) ∙ events_both claim (stand_of a) (forms_events (forms_in fs)) (forms_events (forms_in gs))
      ∙ ap (goes_on (λ s. after_events claim s (forms_events (forms_in gs)))) (h.walk claim) ∙ k.walk claim;
  more = h.more ++ k.more;
  is = k.is ∙ ap (λ (l : List ℕ). l ++ k.more) h.is ∙ append_assoc is h.more k.more;
  made = all-both (stand_of c) fs gs h.more k.more (all-stay (stand_of b) (stand_of c) fs h.more (extends_to here (stand_of b) (stand_of c) (forms_events (forms_in gs)) (k.walk here)) h.made) k.made;
}

-- what stops behind them stops it all
pub stopped_then : (a b : BuilderModel) (fs gs : List (Form Comparison)) (es : List Event) (is js : List ℕ) (e : Stop) → Gathered a b fs is js → ((claim : Place) → StopsAs claim (after_events claim (stand_of b) (forms_events (forms_in gs))) e) →
    (claim : Place) → StopsAs claim (after_events claim (stand_of a) (forms_events (forms_in (fs ++ gs)) ++ es)) e
stopped_then a b fs gs es is js e h k claim =
    stops_so claim _ _ e (events_both claim (stand_of a) (forms_events (forms_in (fs ++ gs))) es)
    (stopped_on claim (after_events claim (stand_of a) (forms_events (forms_in (fs ++ gs)))) (λ s. after_events claim s es) e
    (stops_so claim _ _ e (ap (after_events claim (stand_of a)) (events_in fs gs) ∙ events_both claim (stand_of a) (forms_events (forms_in fs)) (forms_events (forms_in gs))
    ∙ ap (goes_on (λ s. after_events claim s (forms_events (forms_in gs)))) (h.walk claim)) (k claim)))

one-form : (f : Form Comparison) → forms_events (forms_in (f ∷ [])) ≡ form_events f
one-form f = append-nil (form_events f)

pub gathered_one : (a b : BuilderModel) (f : Form Comparison) (is js : List ℕ) (j : ℕ) → Emits a b (form_events f) (Ok j) (IsFormOf b (form_map atom_of f)) → js ≡ is ++ (j ∷ []) → Gathered a b (f ∷ []) is js
gathered_one a b f is js j h e = record {
  walk = λ claim. ap (after_events claim (stand_of a)) (one-form f) ∙ h.0 claim;
  more = j ∷ [];
  is = e;
  made = ((form_done here (stand_of a) (stand_of b) f (h.0 here), h.1), tt);
}

one-stopped : (a : BuilderModel) (f : Form Comparison) (e : Stop) → ((claim : Place) → StopsAs claim (after_events claim (stand_of a) (form_events f)) e) → (gs : List (Form Comparison)) →
    (claim : Place) → StopsAs claim (after_events claim (stand_of a) (forms_events (forms_in (f ∷ gs)))) e
one-stopped a f e h gs claim = stops_so claim _ _ e (events_both claim (stand_of a) (form_events f) (forms_events (forms_in gs)))
    (stopped_on claim (after_events claim (stand_of a) (form_events f)) (λ s. after_events claim s (forms_events (forms_in gs))) e (h claim))

-- ---- some are left

pub gathering_none : (m : BuilderModel) (all : List (Form Comparison)) (js js' : List ℕ) → js' ≡ js → Gathering m m all all js js'
gathering_none m all js js' e = record { sorts = refl; done = []; is = refl; gathered = gathered_none m js js' e }

pub gathering_then : (a b c : BuilderModel) (all gs rest : List (Form Comparison)) (is js ks : List ℕ) → c.sorts ≡ b.sorts → Gathering a b all (gs ++ rest) is js → Gathered b c gs js ks → Gathering a c all rest is ks
gathering_then a b c all gs rest is js ks sorts g k = record {
  sorts = sorts ∙ g.sorts;
  done = g.done ++ gs;
  is = g.is ∙ sym (append_assoc g.done gs rest);
  gathered = gathered_then a b c g.done gs is js ks g.gathered k;
}

pub gathering_stopped : (a b : BuilderModel) (all gs rest : List (Form Comparison)) (is js : List ℕ) (e : Stop) → Gathering a b all (gs ++ rest) is js → ((claim : Place) → StopsAs claim (after_events claim (stand_of b) (forms_events (forms_in gs))) e) →
    (claim : Place) → StopsAs claim (after_events claim (stand_of a) (forms_events (forms_in all))) e
gathering_stopped a b all gs rest is js e g k claim =
    stops_so claim _ _ e (ap (λ (fs : List (Form Comparison)). after_events claim (stand_of a) (forms_events (forms_in fs))) (g.is ∙ sym (append_assoc g.done gs rest)) ∙ ap (after_events claim (stand_of a)) (events_in (g.done ++ gs) rest))
    (stopped_then a b g.done gs (forms_events (forms_in rest)) is js e g.gathered k claim)

pub gathering_done : (a b : BuilderModel) (all : List (Form Comparison)) (is js : List ℕ) → Gathering a b all [] is js → Gathered a b all is js
gathering_done a b all is js g = subst (λ (fs : List (Form Comparison)). Gathered a b fs is js) (sym (g.is ∙ append-nil g.done)) g.gathered

pub extends_gathered : (a b : BuilderModel) (fs : List (Form Comparison)) (is js : List ℕ) → Gathered a b fs is js → Extends (stand_of a) (stand_of b)
extends_gathered a b fs is js h = extends_to here (stand_of a) (stand_of b) (forms_events (forms_in fs)) (h.walk here)

-- ---- one form over them

pub made_below : (m : BuilderModel) (fs : List (Form Comparison)) (js : List ℕ) → AreFormsMade (stand_of m) fs js → AreNumbers (length m.forms) js
made_below m [] [] h = refl
made_below m (f ∷ fs) (j ∷ js) h = let p : j < length m.forms = omega (arith, get_below (stand_of m).forms j _ h.0.1, length_forms m.forms) in
    both_pass (nat_lt j (length m.forms)) (list_all (λ i. nat_lt i (length m.forms)) js) (lt-true j (length m.forms) p) (made_below m fs js h.1)
made_below m [] (j ∷ js) h = elim h [ ]
made_below m (f ∷ fs) [] h = elim h [ ]

picked-made : (s : Stand) (fs : List (Form Comparison)) (js : List ℕ) → AreFormsMade s fs js → picked s.forms js ≡ forms_map (number_in s.atoms) (forms_map atom_of (forms_in fs))
picked-made s [] [] h = refl
picked-made s (f ∷ fs) (j ∷ js) h = ap₂ more_forms (get_index s.forms j (form_map (number_in s.atoms) (form_map atom_of f)) no_form h.0.1) (picked-made s fs js h.1)
picked-made s [] (j ∷ js) h = elim h [ ]
picked-made s (f ∷ fs) [] h = elim h [ ]

pub any_done : (a b c : BuilderModel) (fs : List (Form Comparison)) (js : List ℕ) (r : Result ℕ Stop) → Gathered a b fs [] js → Does b c (λ claim s. make_form claim s (any_form (picked (stand_of b).forms js))) r (IsForm c (any_form (picked (stand_of b).forms js))) →
    Emits a c (form_events (any_form (forms_in fs))) r (IsFormOf c (form_map atom_of (any_form (forms_in fs))))
any_done a b c fs js r g h = go r (emits_form b c f (any_form (picked (stand_of b).forms js)) r same h) h
  where
    f : Form Atom
    f = form_map atom_of (any_form (forms_in fs))

    made : AreFormsMade (stand_of b) fs js
    made = subst (λ (ks : List ℕ). AreFormsMade (stand_of b) fs ks) (sym g.is) g.made

    same : any_form (picked (stand_of b).forms js) ≡ form_map (number_in (stand_of b).atoms) f
    same = ap any_form (picked-made (stand_of b) fs js made)

    go : (r : Result ℕ Stop) → Emits b c (formed f ∷ []) r (IsForm c (any_form (picked (stand_of b).forms js))) → Does b c (λ claim s. make_form claim s (any_form (picked (stand_of b).forms js))) r (IsForm c (any_form (picked (stand_of b).forms js))) →
        Emits a c (form_events (any_form (forms_in fs))) r (IsFormOf c f)
    go (Ok j) one d = (
      (λ claim. events_both claim (stand_of a) (forms_events (forms_in fs)) (formed f ∷ []) ∙ ap (goes_on (λ s. after_events claim s (formed f ∷ []))) (g.walk claim) ∙ one.0 claim),
      d.1 ∙ ap (λ (y : Form ℕ). Some y) (same ∙ sym (numbers_stay (stand_of b) (stand_of c) f (extends_to here (stand_of b) (stand_of c) (formed f ∷ []) (one.0 here))
          (forms_done here (stand_of a) (stand_of b) (forms_in fs) (g.walk here)).1)),
    )
    go (Err e) one d = λ claim. stops_so claim _ _ e (events_both claim (stand_of a) (forms_events (forms_in fs)) (formed f ∷ []) ∙ ap (goes_on (λ s. after_events claim s (formed f ∷ []))) (g.walk claim)) (one claim)

pub any_stopped : (a : BuilderModel) (fs : List (Form Comparison)) (e : Stop) → ((claim : Place) → StopsAs claim (after_events claim (stand_of a) (forms_events (forms_in fs))) e) →
    (claim : Place) → StopsAs claim (after_events claim (stand_of a) (form_events (any_form (forms_in fs)))) e
any_stopped a fs e h claim = stops_so claim _ _ e (events_both claim (stand_of a) (forms_events (forms_in fs)) (formed (form_map atom_of (any_form (forms_in fs))) ∷ []))
    (stopped_on claim (after_events claim (stand_of a) (forms_events (forms_in fs))) (λ s. after_events claim s (formed (form_map atom_of (any_form (forms_in fs))) ∷ [])) e (h claim))

-- ---- equalities

pub nodes_more : (a b : BuilderModel) (all left : List (Form Comparison)) (is js : List ℕ) → Gathering a b all left is js → length a.nodes ≤ length b.nodes
nodes_more a b all left is js g = let x = extends_gathered a b g.done is js g.gathered in
    omega (arith, ap (λ (l : List Term). length l) x.trees.1, length-append (stand_of a).trees x.trees.0, length_terms a.nodes, length_terms b.nodes)

trees-later : (a b : BuilderModel) (all left : List (Form Comparison)) (is js : List ℕ) → Gathering a b all left is js → LaterTrees (stand_of a).trees (stand_of b).trees
trees-later a b all left is js g = (extends_gathered a b g.done is js g.gathered).trees

in-trees : (m : BuilderModel) (ks : List ℕ) → AreNumbers (length m.nodes) ks → AreNumbers (length (stand_of m).trees) ks
in-trees m ks h = numbers_within (length m.nodes) (length (stand_of m).trees) ks (omega (arith, length_terms m.nodes)) h

below-trees : (m : BuilderModel) (k : ℕ) → k < length m.nodes → k < length (stand_of m).trees
below-trees m k h = omega (arith, h, length_terms m.nodes)

module _ (a b : BuilderModel) (at : Place) (all : List (Form Comparison)) (is js : List ℕ) where
  abbrev ts : List Term
  ts = (stand_of a).trees

  abbrev us : List Term
  us = (stand_of b).trees

  one-later : (k l : ℕ) (ls left : List ℕ) → k < length a.nodes → AreNumbers (length a.nodes) left → left ≡ l ∷ ls → (rest : List (Form Comparison)) → Gathering a b all rest is js →
      comparison_of us at k l eq ≡ comparison_of ts at k l eq
  one-later k l ls left h o e rest g = let x = trees-later a b all rest is js g in
      ap₂ (λ (t u : Term). record { at = at; left = t; right = u; kind = eq }) (tree-later ts us x k (below-trees a k h)) (tree-later ts us x l (below-trees a l (first_below (length a.nodes) l ls left e o)))

  pub equal_stopped : (k l : ℕ) (ls left : List ℕ) (e : Stop) → k < length a.nodes → AreNumbers (length a.nodes) left → left ≡ l ∷ ls → Gathering a b all (equal_with ts at k left) is js →
      ((claim : Place) → StopsAs claim (after_events claim (stand_of b) (form_events (atom_is (comparison_of us at k l eq)))) e) → (claim : Place) → StopsAs claim (after_events claim (stand_of a) (forms_events (forms_in all))) e
  equal_stopped k l ls left e h o left-is g stops =
      let f : Form Comparison = atom_is (comparison_of ts at k l eq) in
      let g' : Gathering a b all ((f ∷ []) ++ equal_with ts at k ls) is js = subst (λ (xs : List ℕ). Gathering a b all (equal_with ts at k xs) is js) left-is g in
      gathering_stopped a b all (f ∷ []) (equal_with ts at k ls) is js e g'
      (one-stopped b f e (subst (λ (c : Comparison). (claim : Place) → StopsAs claim (after_events claim (stand_of b) (form_events (atom_is c))) e) (one-later k l ls left h o left-is (equal_with ts at k left) g) stops) [])

  pub equal_step : (c : BuilderModel) (k l : ℕ) (ls left : List ℕ) (j : ℕ) (ks : List ℕ) → k < length a.nodes → AreNumbers (length a.nodes) left → left ≡ l ∷ ls → Gathering a b all (equal_with ts at k left) is js →
      Emits b c (form_events (atom_is (comparison_of us at k l eq))) (Ok j) (IsAtomForm c (atom_of (comparison_of us at k l eq))) → c.sorts ≡ b.sorts → ks ≡ js ++ (j ∷ []) → Gathering a c all (equal_with ts at k ls) is ks
  equal_step c k l ls left j ks h o left-is g emits sorts items =
      let f : Form Comparison = atom_is (comparison_of ts at k l eq) in
      let g' : Gathering a b all ((f ∷ []) ++ equal_with ts at k ls) is js = subst (λ (xs : List ℕ). Gathering a b all (equal_with ts at k xs) is js) left-is g in
      gathering_then a b c all (f ∷ []) (equal_with ts at k ls) is js ks sorts g'
      (gathered_one b c f js ks j (subst (λ (x : Comparison). Emits b c (form_events (atom_is x)) (Ok j) (IsAtomForm c (atom_of x))) (one-later k l ls left h o left-is (equal_with ts at k left) g) emits) items)

  pub equal_done : (k : ℕ) (left : List ℕ) → left ≡ [] → Gathering a b all (equal_with ts at k left) is js → Gathered a b all is js
  equal_done k left e g = gathering_done a b all is js (subst (λ (xs : List ℕ). Gathering a b all (equal_with ts at k xs) is js) e g)

  row-later : (k : ℕ) (ks left : List ℕ) → AreNumbers (length a.nodes) left → left ≡ k ∷ ks → (rest : List (Form Comparison)) → Gathering a b all rest is js → equal_with us at k ks ≡ equal_with ts at k ks
  row-later k ks left o e rest g = equal_with_later ts us (trees-later a b all rest is js g) at k ks (below-trees a k (first_below (length a.nodes) k ks left e o)) (in-trees a ks (rest_below (length a.nodes) k ks left e o))

  pub pairs_stopped : (k : ℕ) (ks left : List ℕ) (e : Stop) → AreNumbers (length a.nodes) left → left ≡ k ∷ ks → Gathering a b all (equal_pairs ts at left) is js →
      ((claim : Place) → StopsAs claim (after_events claim (stand_of b) (forms_events (forms_in (equal_with us at k ks)))) e) → (claim : Place) → StopsAs claim (after_events claim (stand_of a) (forms_events (forms_in all))) e
  pairs_stopped k ks left e o left-is g stops =
      gathering_stopped a b all (equal_with ts at k ks) (equal_pairs ts at ks) is js e (subst (λ (xs : List ℕ). Gathering a b all (equal_pairs ts at xs) is js) left-is g)
      (subst (λ (fs : List (Form Comparison)). (claim : Place) → StopsAs claim (after_events claim (stand_of b) (forms_events (forms_in fs))) e) (row-later k ks left o left-is (equal_pairs ts at left) g) stops)

  pub pairs_step : (c : BuilderModel) (k : ℕ) (ks left : List ℕ) (js' : List ℕ) → AreNumbers (length a.nodes) left → left ≡ k ∷ ks → Gathering a b all (equal_pairs ts at left) is js → Gathered b c (equal_with us at k ks) js js' → c.sorts ≡ b.sorts →
      Gathering a c all (equal_pairs ts at ks) is js'
  pairs_step c k ks left js' o left-is g row sorts =
      gathering_then a b c all (equal_with ts at k ks) (equal_pairs ts at ks) is js js' sorts (subst (λ (xs : List ℕ). Gathering a b all (equal_pairs ts at xs) is js) left-is g)
      (subst (λ (fs : List (Form Comparison)). Gathered b c fs js js') (row-later k ks left o left-is (equal_pairs ts at left) g) row)

  pub pairs_done : (left : List ℕ) → left ≡ [] → Gathering a b all (equal_pairs ts at left) is js → Gathered a b all is js
  pairs_done left e g = gathering_done a b all is js (subst (λ (xs : List ℕ). Gathering a b all (equal_pairs ts at xs) is js) e g)

  pub numbers_below : (rest : List (Form Comparison)) → is ≡ [] → Gathering a b all rest is js → AreNumbers (length b.forms) js
  numbers_below rest e g = subst (λ (ks : List ℕ). AreNumbers (length b.forms) ks) (sym (g.gathered.is ∙ ap (λ (l : List ℕ). l ++ g.gathered.more) e)) (made_below b g.done g.gathered.more g.gathered.made)
