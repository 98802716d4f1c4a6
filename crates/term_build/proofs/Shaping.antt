-- The steps of making a form from its sketch.
use Rattle.std.proofs.Common.{◌≡◌, ℕ, suc, zero, ◌+◌, ◌<◌, ◌≤◌, List, [], ◌∷◌, ◌++◌, map, length, true, Some, None, Option, refl, ap, ap₂, sym, ◌∙◌, subst, arith, slice_index_or, append_assoc, append-nil, drop, take, replicate, length-append, ◌⊎◌, inl, inr, IsTrue, nat_lt, ltb→lt}
use Rattle.std.specs.Bool.{passes}
use Rattle.std.specs.List.{list_all}
use Rattle.dyadic.proofs.Equal.{both_true, both_pass}
use Rattle.std.specs.Prelude.{slice_get, slice_set, Result, Ok, Err}
use Rattle.script_model.specs.Sexp.{Place}
use Rattle.poly_graph.specs.Term.{Term, constant}
use Rattle.poly_graph.specs.Form.{Form, Forms, yes_form, no_form, atom_is, bool_is, all_form, any_form, more_forms, form_atoms, forms_atoms, form_map, forms_map}
use Rattle.poly_graph.specs.FormGraph.{picked}
use Rattle.script_forms.specs.Terms.{Comparison}
use Rattle.script_forms.specs.Atoms.{atom_of, number_in}
use Rattle.script_forms.specs.Work.{Event, formed, form_events, forms_events}
use Rattle.script_forms.specs.Walk.{Stand, Walked, stands, after_events, make_form, goes_on}
use Rattle.term_build.specs.Built.{BuilderModel, stand_of}
use Rattle.term_build.specs.Does.{Does, StopsAs, IsForm}
use Rattle.term_build.specs.Settled.{Extends, FormSettled, FormsSettled, AreSettled, AtomsIn}
use Rattle.term_build.specs.Sketch.{SketchNode, yes_sketch, no_sketch, comparison_sketch, bool_sketch, all_sketch, any_sketch, choice_sketch, equal_sketch, crowd_sketch, least_crowd, some_equal, sketch_row, sketch_after, sketch_in_order, sketch_at, sketch_children, sketch_form, comparison_of, IsDrawing, IsDrawn, IsSketch, IsFormOf, IsAtomForm}
use Rattle.term_build.specs.Shapes.{crowd_left, AreFrames, AreNumbers, IsFrame, IsMemo, StaysSafe, IfDone, Completes, Finishes, Frame, frame_of, children, left_of, left_in, left_on, node_at, IsShaped, AreShaped, FramesShaped, IsWalkLeft}
use Rattle.dyadic.specs.Fraction.{zero_fraction}
use Rattle.poly_graph.proofs.Graphs.{length_terms}
use Rattle.term_build.specs.Steps.{Emits}
use Rattle.term_build.specs.declared.stop.Stop.{Stop}
use Rattle.term_build.specs.declared.shape.Frame as code_frame
use Rattle.term_build.proofs.Compares.{emits_form}
use Rattle.term_build.proofs.Crowds.{crowd_events, crowd_stops, length_row, row_is}
use Rattle.term_build.proofs.Gathering.{numbers_within, some_equal_later}
use Rattle.term_build.proofs.Lists.{get_index, get_below, index_get, index_before, map_end, stood}
use Rattle.std.proofs.lemmas.List.{length-map}
use Rattle.term_build.proofs.Emits.{events_both, stops_so, stopped_on}
use Rattle.term_build.proofs.Settled.{again, settled_events, settled_both, in_both, stay, atoms_stay, numbers_stay, extends_on, extends_self, extends_to, one_formed, form_done, Reaches, form_reaches}
use Rattle.term_build.proofs.Forms.{length_forms}
use Rattle.dyadic.specs.Point.{Sort, bool_sort}
use Rattle.poly_graph.specs.Problem.{HasSort}

-- ---- what is left

left-snoc : (fs : List (Form Comparison)) (ds : List SketchNode) (xs : List Frame) (f : Frame) → left_on fs ds (xs ++ (f ∷ [])) ≡ left_in fs ds f ++ left_on fs ds xs
left-snoc fs ds [] f = sym (append-nil (left_in fs ds f))
left-snoc fs ds (x ∷ xs) f = ap (λ es. es ++ left_in fs ds x) (left-snoc fs ds xs f) ∙ append_assoc (left_in fs ds f) (left_on fs ds xs) (left_in fs ds x)

drop-one : (ks : List ℕ) (i c : ℕ) → slice_get ks i ≡ Some c → drop i ks ≡ c ∷ drop (suc i) ks
drop-one [] i c h = cc
drop-one (k ∷ ks) zero c h = let e : k ≡ c = cc in ap (λ x. x ∷ ks) e
drop-one (k ∷ ks) (suc i) c h = drop-one ks i c h

drop-all : (ks : List ℕ) (i : ℕ) → slice_get ks i ≡ None → drop i ks ≡ []
drop-all [] zero h = refl
drop-all [] (suc i) h = refl
drop-all (k ∷ ks) zero h = cc
drop-all (k ∷ ks) (suc i) h = drop-all ks i h

-- the child that is next comes first
left-next : (fs : List (Form Comparison)) (f : Form Comparison) (d : SketchNode) (i c : ℕ) → slice_get (children d) i ≡ Some c → left_of fs f d i ≡ form_events (sketch_at fs c) ++ left_of fs f d (suc i)
left-next fs f (all_sketch ks) i c h = ap (λ xs. forms_events (sketch_children fs xs) ++ (formed (all_form (forms_map atom_of (sketch_children fs ks))) ∷ [])) (drop-one ks i c h)
    ∙ append_assoc (form_events (sketch_at fs c)) (forms_events (sketch_children fs (drop (suc i) ks))) (formed (all_form (forms_map atom_of (sketch_children fs ks))) ∷ [])
left-next fs f (any_sketch ks) i c h = ap (λ xs. forms_events (sketch_children fs xs) ++ (formed (any_form (forms_map atom_of (sketch_children fs ks))) ∷ [])) (drop-one ks i c h)
    ∙ append_assoc (form_events (sketch_at fs c)) (forms_events (sketch_children fs (drop (suc i) ks))) (formed (any_form (forms_map atom_of (sketch_children fs ks))) ∷ [])
left-next fs f yes_sketch i c h = cc
left-next fs f no_sketch i c h = cc
left-next fs f (comparison_sketch at l r kind) i c h = cc
left-next fs f (bool_sketch axis v) i c h = cc
left-next fs f (choice_sketch p x y) i c h = cc
left-next fs f (equal_sketch at ks) i c h = cc
left-next fs f (crowd_sketch v ks) i c h = let last = crowd_left v (sketch_row fs ks) in ap (λ xs. forms_events (sketch_children fs xs) ++ last) (drop-one ks i c h)
    ∙ append_assoc (form_events (sketch_at fs c)) (forms_events (sketch_children fs (drop (suc i) ks))) last

-- all is left of a node that is begun
left-begun : (ts : List Term) (fs : List (Form Comparison)) (f : Form Comparison) (d : SketchNode) → f ≡ sketch_form ts fs d → left_of fs f d 0 ≡ form_events f
left-begun ts fs f (all_sketch ks) e = sym (ap form_events e)
left-begun ts fs f (any_sketch ks) e = sym (ap form_events e)
left-begun ts fs f yes_sketch e = refl
left-begun ts fs f no_sketch e = refl
left-begun ts fs f (comparison_sketch at l r kind) e = refl
left-begun ts fs f (bool_sketch axis v) e = refl
left-begun ts fs f (choice_sketch p x y) e = refl
left-begun ts fs f (equal_sketch at ks) e = refl
left-begun ts fs f (crowd_sketch v ks) e = ap (λ cs. forms_events cs ++ crowd_left v (sketch_row fs ks)) (row_is fs ks) ∙ sym (ap form_events e ∙ crowd_events v (sketch_row fs ks))

-- ---- frames

frames-front : (s : Stand) (fs : List (Form Comparison)) (ds : List SketchNode) (xs : List Frame) (f : Frame) → FramesShaped s fs ds (xs ++ (f ∷ [])) → FramesShaped s fs ds xs
frames-front s fs ds [] f h = tt
frames-front s fs ds (x ∷ xs) f h = (h.0, frames-front s fs ds xs f h.1)

frames-last : (s : Stand) (fs : List (Form Comparison)) (ds : List SketchNode) (xs : List Frame) (f : Frame) → FramesShaped s fs ds (xs ++ (f ∷ [])) → AreShaped s fs (children (node_at ds f.node)) f.numbers
frames-last s fs ds [] f h = h.0
frames-last s fs ds (x ∷ xs) f h = frames-last s fs ds xs f h.1

frames-end : (s : Stand) (fs : List (Form Comparison)) (ds : List SketchNode) (xs : List Frame) (f : Frame) → FramesShaped s fs ds xs → AreShaped s fs (children (node_at ds f.node)) f.numbers → FramesShaped s fs ds (xs ++ (f ∷ []))
frames-end s fs ds [] f h k = (k, tt)
frames-end s fs ds (x ∷ xs) f h k = (h.0, frames-end s fs ds xs f h.1 k)

shaped-end : (s : Stand) (fs : List (Form Comparison)) (ks js : List ℕ) (c j : ℕ) → AreShaped s fs ks js → slice_get ks (length js) ≡ Some c → IsShaped s fs c j → AreShaped s fs ks (js ++ (j ∷ []))
shaped-end s fs [] [] c j h e k = cc
shaped-end s fs (x ∷ ks) [] c j h e k = let p : c ≡ x = cc in (subst (λ (n : ℕ). IsShaped s fs n j) p k, tt)
shaped-end s fs (x ∷ ks) (y ∷ js) c j h e k = (h.0, shaped-end s fs ks js c j h.1 e k)
shaped-end s fs [] (y ∷ js) c j h e k = elim h [ ]

-- ---- the three steps

-- the next child is made already
pub advanced : (s0 : Stand) (es : List Event) (fs : List (Form Comparison)) (ds : List SketchNode) (m : BuilderModel) (memo : List (Option ℕ)) (xs : List Frame) (f : Frame) (c j : ℕ) →
    IsWalkLeft s0 es fs ds m memo (xs ++ (f ∷ [])) → slice_get (children (node_at ds f.node)) (length f.numbers) ≡ Some c → slice_get memo c ≡ Some (Some j) →
    IsWalkLeft s0 es fs ds m memo (xs ++ (record { node = f.node; numbers = f.numbers ++ (j ∷ []) } ∷ []))
advanced s0 es fs ds m memo xs f c j g h e =
    let s = stand_of m in
    let d = node_at ds f.node in
    let one = g.made c j e in
    let next : Frame = record { node = f.node; numbers = f.numbers ++ (j ∷ []) } in
    let size : suc (length f.numbers) ≡ length (f.numbers ++ (j ∷ [])) = omega (arith, length-append f.numbers (j ∷ [])) in record {
      walk = λ claim. g.walk claim ∙ ap (after_events claim s) (left-snoc fs ds xs f ∙ ap (λ l. l ++ left_on fs ds xs) (left-next fs (sketch_at fs f.node) d (length f.numbers) c h)
          ∙ append_assoc (form_events (sketch_at fs c)) (left_of fs (sketch_at fs f.node) d (suc (length f.numbers))) (left_on fs ds xs))
          ∙ events_both claim s (form_events (sketch_at fs c)) (left_of fs (sketch_at fs f.node) d (suc (length f.numbers)) ++ left_on fs ds xs)
          ∙ ap (goes_on (λ z. after_events claim z (left_of fs (sketch_at fs f.node) d (suc (length f.numbers)) ++ left_on fs ds xs))) (settled_events claim s (form_events (sketch_at fs c)) one.0.0)
          ∙ ap (λ n. after_events claim s (left_of fs (sketch_at fs f.node) d n ++ left_on fs ds xs)) size
          ∙ ap (after_events claim s) (sym (left-snoc fs ds xs next));
      extends = g.extends;
      made = g.made;
      frames = frames-end s fs ds xs next (frames-front s fs ds xs f g.frames) (shaped-end s fs (children d) f.numbers c j (frames-last s fs ds xs f g.frames) h one);
    }

-- the next child is begun
pub descended : (s0 : Stand) (es : List Event) (fs : List (Form Comparison)) (ds : List SketchNode) (m : BuilderModel) (memo : List (Option ℕ)) (xs : List Frame) (f : Frame) (c : ℕ) (d : SketchNode) → IsDrawing s0.trees ds fs →
    IsWalkLeft s0 es fs ds m memo (xs ++ (f ∷ [])) → slice_get (children (node_at ds f.node)) (length f.numbers) ≡ Some c → slice_get ds c ≡ Some d →
    IsWalkLeft s0 es fs ds m memo ((xs ++ (f ∷ [])) ++ (record { node = c; numbers = [] } ∷ []))
descended s0 es fs ds m memo xs f c d drawing g h e =
    let s = stand_of m in
    let next : Frame = record { node = c; numbers = [] } in
    let begun : left_in fs ds next ≡ form_events (sketch_at fs c) = ap (λ x. left_of fs (sketch_at fs c) x 0) (get_index ds c d yes_sketch e) ∙ left-begun s0.trees fs (sketch_at fs c) d (drawing.forms c d e) in
    let rest = left_of fs (sketch_at fs f.node) (node_at ds f.node) (suc (length f.numbers)) ++ left_on fs ds xs in
    let now : left_on fs ds (xs ++ (f ∷ [])) ≡ form_events (sketch_at fs c) ++ rest = left-snoc fs ds xs f ∙ ap (λ l. l ++ left_on fs ds xs) (left-next fs (sketch_at fs f.node) (node_at ds f.node) (length f.numbers) c h)
    ∙ append_assoc (form_events (sketch_at fs c)) (left_of fs (sketch_at fs f.node) (node_at ds f.node) (suc (length f.numbers))) (left_on fs ds xs) in record {
      walk = λ claim. g.walk claim ∙ ap (after_events claim s) now ∙ sym (again claim s (sketch_at fs c) rest)
          ∙ ap (after_events claim s) (sym (left-snoc fs ds (xs ++ (f ∷ [])) next ∙ ap₂ (λ a b. a ++ b) begun now));
      extends = g.extends;
      made = g.made;
      frames = frames-end s fs ds (xs ++ (f ∷ [])) next g.frames tt;
    }

-- ---- all stays

shaped-stays : (s s' : Stand) (fs : List (Form Comparison)) (k j : ℕ) → Extends s s' → IsShaped s fs k j → IsShaped s' fs k j
shaped-stays s s' fs k j x h = let f = form_map atom_of (sketch_at fs k) in (
  (stay s s' (form_events (sketch_at fs k)) x h.0.0, atoms_stay s s' (form_atoms f) x h.0.1),
  form-stays s.forms s'.forms x.forms j (form_map (number_in s.atoms) f) h.1 ∙ ap (λ g. Some g) (sym (numbers_stay s s' f x h.0.1)),
)
  where
    before : (xs ys : List (Form ℕ)) (j : ℕ) (g : Form ℕ) → slice_get xs j ≡ Some g → slice_get (xs ++ ys) j ≡ Some g
    before [] ys j g h = cc
    before (x ∷ xs) ys zero g h = h
    before (x ∷ xs) ys (suc j) g h = before xs ys j g h

    form-stays : (xs ys : List (Form ℕ)) → ((zs : List (Form ℕ)) × (ys ≡ xs ++ zs)) → (j : ℕ) (g : Form ℕ) → slice_get xs j ≡ Some g → slice_get ys j ≡ Some g
    form-stays xs ys e j g h = ap (λ l. slice_get l j) e.1 ∙ before xs e.0 j g h

are-stay : (s s' : Stand) (fs : List (Form Comparison)) (ks js : List ℕ) → Extends s s' → AreShaped s fs ks js → AreShaped s' fs ks js
are-stay s s' fs ks [] x h = tt
are-stay s s' fs (k ∷ ks) (j ∷ js) x h = (shaped-stays s s' fs k j x h.0, are-stay s s' fs ks js x h.1)
are-stay s s' fs [] (j ∷ js) x h = elim h [ ]

frames-stay : (s s' : Stand) (fs : List (Form Comparison)) (ds : List SketchNode) (xs : List Frame) → Extends s s' → FramesShaped s fs ds xs → FramesShaped s' fs ds xs
frames-stay s s' fs ds [] x h = tt
frames-stay s s' fs ds (f ∷ xs) x h = (are-stay s s' fs (children (node_at ds f.node)) f.numbers x h.0, frames-stay s s' fs ds xs x h.1)

-- ---- a node whose children are made

children-settled : (s : Stand) (fs : List (Form Comparison)) (ks js : List ℕ) → AreShaped s fs ks js → slice_get ks (length js) ≡ None → FormsSettled s (sketch_children fs ks)
children-settled s fs [] [] h e = (tt, tt)
children-settled s fs (k ∷ ks) [] h e = cc
children-settled s fs (k ∷ ks) (j ∷ js) h e = let r = children-settled s fs ks js h.1 e in (
  settled_both s (form_events (sketch_at fs k)) (forms_events (sketch_children fs ks)) h.0.0.0 r.0,
  in_both s.atoms (form_atoms (form_map atom_of (sketch_at fs k))) (forms_atoms (forms_map atom_of (sketch_children fs ks))) h.0.0.1 r.1,
)
children-settled s fs [] (j ∷ js) h e = elim h [ ]

children-are : (s : Stand) (fs : List (Form Comparison)) (ks js : List ℕ) → AreShaped s fs ks js → slice_get ks (length js) ≡ None → picked s.forms js ≡ forms_map (number_in s.atoms) (forms_map atom_of (sketch_children fs ks))
children-are s fs [] [] h e = refl
children-are s fs (k ∷ ks) [] h e = cc
children-are s fs (k ∷ ks) (j ∷ js) h e = ap₂ more_forms (get_index s.forms j (form_map (number_in s.atoms) (form_map atom_of (sketch_at fs k))) no_form h.0.1) (children-are s fs ks js h.1 e)
children-are s fs [] (j ∷ js) h e = elim h [ ]

-- what is left of a node is done, and the node is shaped
abbrev pub Finished : List (Form Comparison) → BuilderModel → BuilderModel → ℕ → List Event → Result ℕ Stop → Type 0
Finished fs m m1 k es (Ok j) = ((claim : Place) → after_events claim (stand_of m) es ≡ stands (stand_of m1)) × IsShaped (stand_of m1) fs k j
Finished fs m m1 k es (Err e) = (claim : Place) → StopsAs claim (after_events claim (stand_of m) es) e

here : Place
here = record { line = 0; column = 0 }

-- one node of the form is left
joined-done : (fs : List (Form Comparison)) (m m1 : BuilderModel) (k : ℕ) (f : Form Comparison) (parts : List Event) (g : Form ℕ) (r : Result ℕ Stop) → sketch_at fs k ≡ f → g ≡ form_map (number_in (stand_of m).atoms) (form_map atom_of f) →
    form_events f ≡ parts ++ (formed (form_map atom_of f) ∷ []) → AreSettled (stand_of m) parts → AtomsIn (stand_of m).atoms (form_atoms (form_map atom_of f)) → Does m m1 (λ claim s. make_form claim s g) r (IsForm m1 g) →
    Finished fs m m1 k (formed (form_map atom_of f) ∷ []) r
joined-done fs m m1 k f parts g (Err e) is same events settled atoms h = emits_form m m1 (form_map atom_of f) g (Err e) same h
joined-done fs m m1 k f parts g (Ok j) is same events settled atoms h =
    let one = emits_form m m1 (form_map atom_of f) g (Ok j) same h in
    let s = stand_of m in
    let s1 = stand_of m1 in
    let x = extends_to here s s1 (formed (form_map atom_of f) ∷ []) (one.0 here) in (
      one.0,
      subst (λ (p : Form Comparison). FormSettled s1 p × (slice_get s1.forms j ≡ Some (form_map (number_in s1.atoms) (form_map atom_of p)))) (sym is) (
        (
          subst (λ (es : List Event). AreSettled s1 es) (sym events) (settled_both s1 parts (formed (form_map atom_of f) ∷ []) (stay s s1 parts x settled) (one_formed here s s1 (form_map atom_of f) atoms (one.0 here), tt)),
          atoms_stay s s1 (form_atoms (form_map atom_of f)) x atoms,
        ),
        h.1 ∙ ap (λ y. Some y) (same ∙ sym (numbers_stay s s1 (form_map atom_of f) x atoms)),
      ),
    )

-- a comparison is left, or several
compared-done : (fs : List (Form Comparison)) (m m1 : BuilderModel) (k : ℕ) (f : Form Comparison) (r : Result ℕ Stop) → sketch_at fs k ≡ f → Emits m m1 (form_events f) r (IsFormOf m1 (form_map atom_of f)) → Finished fs m m1 k (form_events f) r
compared-done fs m m1 k f (Err e) is h = h
compared-done fs m m1 k f (Ok j) is h = (
  h.0,
  subst (λ (p : Form Comparison). FormSettled (stand_of m1) p × (slice_get (stand_of m1).forms j ≡ Some (form_map (number_in (stand_of m1).atoms) (form_map atom_of p)))) (sym is)
      (form_done here (stand_of m) (stand_of m1) f (h.0 here), h.1),
)

tree-before : (ts us : List Term) → ((vs : List Term) × (us ≡ ts ++ vs)) → (k : ℕ) → k < length ts → slice_index_or us k (constant zero_fraction) ≡ slice_index_or ts k (constant zero_fraction)
tree-before ts us e k h = ap (λ l. slice_index_or l k (constant zero_fraction)) e.1 ∙ index_before ts e.0 k (constant zero_fraction) h

finished-by : (m0 m m1 : BuilderModel) (fs : List (Form Comparison)) (k : ℕ) (d : SketchNode) (js : List ℕ) (r : Result ℕ Stop) → Extends (stand_of m0) (stand_of m) → sketch_at fs k ≡ sketch_form (stand_of m0).trees fs d → IsDrawn m0 d →
    AreShaped (stand_of m) fs (children d) js → slice_get (children d) (length js) ≡ None → Finishes m m1 d js r → Finished fs m m1 k (left_of fs (sketch_at fs k) d (length js)) r
finished-by m0 m m1 fs k yes_sketch js r x is o h e done = subst (λ (es : List Event). Finished fs m m1 k es r) (sym (ap form_events is)) (joined-done fs m m1 k yes_form [] yes_form r is refl refl tt tt done)
finished-by m0 m m1 fs k no_sketch js r x is o h e done = subst (λ (es : List Event). Finished fs m m1 k es r) (sym (ap form_events is)) (joined-done fs m m1 k no_form [] no_form r is refl refl tt tt done)
finished-by m0 m m1 fs k (choice_sketch p x' y') js r x is o h e done = subst (λ (es : List Event). Finished fs m m1 k es r) (sym (ap form_events is)) (joined-done fs m m1 k no_form [] no_form r is refl refl tt tt done)
finished-by m0 m m1 fs k (bool_sketch axis v) js r x is o h e done =
    subst (λ (es : List Event). Finished fs m m1 k es r) (sym (ap form_events is)) (joined-done fs m m1 k (bool_is axis v) [] (bool_is axis v) r is refl refl tt tt done)
finished-by m0 m m1 fs k (comparison_sketch at l r' kind) js r x is o h e done =
    let ts = (stand_of m0).trees in
    let us = (stand_of m).trees in
    let same : comparison_of us at l r' kind ≡ comparison_of ts at l r' kind = ap₂ (λ (t u : Term). record { at = at; left = t; right = u; kind = kind })
    (tree-before ts us x.trees l (omega (arith, o.0, length_terms m0.nodes))) (tree-before ts us x.trees r' (omega (arith, o.1, length_terms m0.nodes))) in
    subst (λ (es : List Event). Finished fs m m1 k es r) (sym (ap form_events is))
    (compared-done fs m m1 k (atom_is (comparison_of ts at l r' kind)) r is (subst (λ (c : Comparison). Emits m m1 (form_events (atom_is c)) r (IsAtomForm m1 (atom_of c))) same done))
finished-by m0 m m1 fs k (equal_sketch at ks) js r x is o h e done =
    let ts = (stand_of m0).trees in
    let us = (stand_of m).trees in
    let same : some_equal us at ks ≡ some_equal ts at ks = some_equal_later ts us x.trees at ks (numbers_within (length m0.nodes) (length ts) ks (omega (arith, length_terms m0.nodes)) o) in
    subst (λ (es : List Event). Finished fs m m1 k es r) (sym (ap form_events is))
    (compared-done fs m m1 k (some_equal ts at ks) r is (subst (λ (f : Form Comparison). Emits m m1 (form_events f) r (IsFormOf m1 (form_map atom_of f))) same done))
finished-by m0 m m1 fs k (crowd_sketch v ks) js r x is o h e done =
    let c = children-settled (stand_of m) fs ks js h e in
    let last = crowd_left v (sketch_row fs ks) in
    let long : least_crowd ≤ length (sketch_row fs ks) = omega (arith, o, length_row fs ks) in
    subst (λ (l : List ℕ). Finished fs m m1 k (forms_events (sketch_children fs l) ++ last) r) (sym (drop-all ks (length js) e))
    (subst (λ (q : Result ℕ Stop). Finished fs m m1 k last q) (sym done.0)
    (crowd_stops m v (sketch_row fs ks) (subst (λ (cs : Forms Comparison). AreSettled (stand_of m) (forms_events cs)) (row_is fs ks) c.0) done.1 long))
finished-by m0 m m1 fs k (all_sketch ks) js r x is o h e done =
    let c = children-settled (stand_of m) fs ks js h e in
    let f : Form Comparison = all_form (sketch_children fs ks) in
    subst (λ (l : List ℕ). Finished fs m m1 k (forms_events (sketch_children fs l) ++ (formed (form_map atom_of f) ∷ [])) r) (sym (drop-all ks (length js) e))
    (joined-done fs m m1 k f (forms_events (sketch_children fs ks)) (all_form (picked (stand_of m).forms js)) r is (ap all_form (children-are (stand_of m) fs ks js h e)) refl c.0 c.1 done)
finished-by m0 m m1 fs k (any_sketch ks) js r x is o h e done =
    let c = children-settled (stand_of m) fs ks js h e in
    let f : Form Comparison = any_form (sketch_children fs ks) in
    subst (λ (l : List ℕ). Finished fs m m1 k (forms_events (sketch_children fs l) ++ (formed (form_map atom_of f) ∷ [])) r) (sym (drop-all ks (length js) e))
    (joined-done fs m m1 k f (forms_events (sketch_children fs ks)) (any_form (picked (stand_of m).forms js)) r is (ap any_form (children-are (stand_of m) fs ks js h e)) refl c.0 c.1 done)

-- ---- a node is made

memo-set : (memo : List (Option ℕ)) (k i : ℕ) (x : Option ℕ) (y : ℕ) → slice_get (slice_set memo k x) i ≡ Some (Some y) → ((i ≡ k) × (x ≡ Some y)) ⊎ (slice_get memo i ≡ Some (Some y))
memo-set [] k i x y h = inr h
memo-set (z ∷ memo) zero zero x y h = inl (refl, cc)
memo-set (z ∷ memo) zero (suc i) x y h = inr h
memo-set (z ∷ memo) (suc k) zero x y h = inr h
memo-set (z ∷ memo) (suc k) (suc i) x y h = elim (memo-set memo k i x y h) [
  | inl e ↦ inl (ap suc e.0, e.1)
  | inr e ↦ inr e
]

pub completed : (es : List Event) (fs : List (Form Comparison)) (ds : List SketchNode) (m0 m m1 : BuilderModel) (memo : List (Option ℕ)) (xs : List Frame) (f : Frame) (r : Result ℕ Stop) (d : SketchNode) → IsDrawing (stand_of m0).trees ds fs → IsSketch m0 ds →
    IsWalkLeft (stand_of m0) es fs ds m memo (xs ++ (f ∷ [])) → slice_get ds f.node ≡ Some d → slice_get (children d) (length f.numbers) ≡ None → Finishes m m1 d f.numbers r → Completes (stand_of m0) es fs ds m1 memo f.node xs r
completed es fs ds m0 m m1 memo xs f r d drawing sketch g e none done = go r (finished-by m0 m m1 fs f.node d f.numbers r g.extends (drawing.forms f.node d e) (sketch.drawn f.node d e)
    (subst (λ (x : SketchNode). AreShaped (stand_of m) fs (children x) f.numbers) at (frames-last (stand_of m) fs ds xs f g.frames)) none done)
  where
    at : node_at ds f.node ≡ d
    at = get_index ds f.node d yes_sketch e

    left : left_on fs ds (xs ++ (f ∷ [])) ≡ left_of fs (sketch_at fs f.node) d (length f.numbers) ++ left_on fs ds xs
    left = left-snoc fs ds xs f ∙ ap (λ x. left_of fs (sketch_at fs f.node) x (length f.numbers) ++ left_on fs ds xs) at

    go : (r : Result ℕ Stop) → Finished fs m m1 f.node (left_of fs (sketch_at fs f.node) d (length f.numbers)) r → Completes (stand_of m0) es fs ds m1 memo f.node xs r
    go (Err x) h = λ claim. stops_so claim _ (after_events claim (stand_of m) (left_of fs (sketch_at fs f.node) d (length f.numbers) ++ left_on fs ds xs)) x (g.walk claim ∙ ap (after_events claim (stand_of m)) left)
        (stops_so claim _ _ x (events_both claim (stand_of m) (left_of fs (sketch_at fs f.node) d (length f.numbers)) (left_on fs ds xs))
        (stopped_on claim (after_events claim (stand_of m) (left_of fs (sketch_at fs f.node) d (length f.numbers))) (λ z. after_events claim z (left_on fs ds xs)) x (h claim)))
    go (Ok j) h = let x = extends_to here (stand_of m) (stand_of m1) (left_of fs (sketch_at fs f.node) d (length f.numbers)) (h.0 here) in record {
      walk = λ claim. g.walk claim ∙ ap (after_events claim (stand_of m)) left ∙ events_both claim (stand_of m) (left_of fs (sketch_at fs f.node) d (length f.numbers)) (left_on fs ds xs)
          ∙ ap (goes_on (λ z. after_events claim z (left_on fs ds xs))) (h.0 claim);
      extends = extends_on (stand_of m0) (stand_of m) (stand_of m1) g.extends x;
      made = λ i y p. elim (memo-set memo f.node i (Some j) y p) [
        | inl q ↦ subst (λ (n : ℕ). IsShaped (stand_of m1) fs n y) (sym q.0) (subst (λ (n : ℕ). IsShaped (stand_of m1) fs f.node n) (same-number j y q.1) h.1)
        | inr q ↦ shaped-stays (stand_of m) (stand_of m1) fs i y x (g.made i y q)
      ];
      frames = frames-stay (stand_of m) (stand_of m1) fs ds xs x (frames-front (stand_of m) fs ds xs f g.frames);
    }
      where
        same-number : (a b : ℕ) → Some a ≡ Some b → a ≡ b
        same-number a b e = cc

pub got_map : {X Y : Type 0} (f : X → Y) (xs : List X) (k : ℕ) (x : X) → slice_get xs k ≡ Some x → slice_get (map f xs) k ≡ Some (f x)
got_map f [] k x h = cc
got_map f (y ∷ xs) zero x h = cc
got_map f (y ∷ xs) (suc k) x h = got_map f xs k x h

pub seen_at : {X Y : Type 0} (f : X → Y) (xs : List X) (k : ℕ) (x : X) → k < length (map f xs) → x ≡ slice_index_or xs k x → slice_get (map f xs) k ≡ Some (f x)
seen_at f xs k x h e = got_map f xs k x (index_get xs k x (omega (arith, h, length-map xs f)) ∙ ap (λ y. Some y) (sym e))

pub completed_at : (es : List Event) (fs : List (Form Comparison)) (ds : List SketchNode) (m0 m m1 : BuilderModel) (memo : List (Option ℕ)) (xs : List Frame) (f : Frame) (r : Result ℕ Stop) (d : SketchNode) → IsDrawing (stand_of m0).trees ds fs → IsSketch m0 ds →
    IsWalkLeft (stand_of m0) es fs ds m memo (xs ++ (f ∷ [])) → slice_get ds f.node ≡ Some d → slice_get (children (node_at ds f.node)) (length f.numbers) ≡ None → Finishes m m1 d f.numbers r → Completes (stand_of m0) es fs ds m1 memo f.node xs r
completed_at es fs ds m0 m m1 memo xs f r d drawing sketch g e none done =
    completed es fs ds m0 m m1 memo xs f r d drawing sketch g e (subst (λ (x : SketchNode). slice_get (children x) (length f.numbers) ≡ None) (get_index ds f.node d yes_sketch e) none) done

-- ---- children come before

drawn-order-at : (k : ℕ) (ds : List SketchNode) → IsTrue (sketch_in_order k ds) → (i : ℕ) (d : SketchNode) → slice_get ds i ≡ Some d → IsTrue (sketch_after (k + i) d)
drawn-order-at k [] h i d e = cc
drawn-order-at k (x ∷ ds) h zero d e = let o = both_true (sketch_after k x) (sketch_in_order (suc k) ds) h in let p : x ≡ d = cc in let q : k ≡ k + 0 = omega arith in
    subst (λ (j : ℕ). IsTrue (sketch_after j d)) q (subst (λ (y : SketchNode). IsTrue (sketch_after k y)) p o.0)
drawn-order-at k (x ∷ ds) h (suc i) d e = let o = both_true (sketch_after k x) (sketch_in_order (suc k) ds) h in let q : suc k + i ≡ k + suc i = omega arith in
    subst (λ (j : ℕ). IsTrue (sketch_after j d)) q (drawn-order-at (suc k) ds o.1 i d e)

number-below : (n : ℕ) (ks : List ℕ) (i c : ℕ) → IsTrue (list_all (λ k. nat_lt k n) ks) → slice_get ks i ≡ Some c → c < n
number-below n [] i c h e = cc
number-below n (k ∷ ks) zero c h e = let o = both_true (nat_lt k n) (list_all (λ j. nat_lt j n) ks) h in let p : k ≡ c = cc in subst (λ (j : ℕ). j < n) p (ltb→lt k n (passes _ o.0))
number-below n (k ∷ ks) (suc i) c h e = let o = both_true (nat_lt k n) (list_all (λ j. nat_lt j n) ks) h in number-below n ks i c o.1 e

child-below-of : (n : ℕ) (d : SketchNode) (i c : ℕ) → IsTrue (sketch_after n d) → slice_get (children d) i ≡ Some c → c < n
child-below-of n (all_sketch ks) i c h e = number-below n ks i c h e
child-below-of n (any_sketch ks) i c h e = number-below n ks i c h e
child-below-of n (crowd_sketch v ks) i c h e = number-below n ks i c h e
child-below-of n yes_sketch i c h e = cc
child-below-of n no_sketch i c h e = cc
child-below-of n (comparison_sketch at l r kind) i c h e = cc
child-below-of n (bool_sketch axis v) i c h e = cc
child-below-of n (choice_sketch p x y) i c h e = cc
child-below-of n (equal_sketch at ks) i c h e = cc

pub child_below : (ds : List SketchNode) (k : ℕ) (d : SketchNode) (i c : ℕ) → IsTrue (sketch_in_order 0 ds) → slice_get ds k ≡ Some d → slice_get (children d) i ≡ Some c → c < k
child_below ds k d i c o h e = let q : 0 + k ≡ k = omega arith in child-below-of k d i c (subst (λ (j : ℕ). IsTrue (sketch_after j d)) q (drawn-order-at 0 ds o k d h)) e

-- the two steps that go on with a frame, as the stack's items
pub advanced_items : (s0 : Stand) (es : List Event) (fs : List (Form Comparison)) (ds : List SketchNode) (m : BuilderModel) (memo : List (Option ℕ)) (stack stack' : List code_frame.Frame) (f f' : code_frame.Frame) (d : SketchNode) (n c j : ℕ) →
    IsWalkLeft s0 es fs ds m memo (map frame_of stack ++ (frame_of f ∷ [])) → slice_get ds f.node ≡ Some d → n ≡ length f.numbers.items → Some c ≡ slice_get (children d) n → c < length memo → slice_index_or memo c None ≡ Some j →
    stack' ≡ stack ++ (f' ∷ []) → f'.node ≡ f.node → f'.numbers.items ≡ f.numbers.items ++ (j ∷ []) → IsWalkLeft s0 es fs ds m memo (map frame_of stack')
advanced_items s0 es fs ds m memo stack stack' f f' d n c j g e size h below k items node numbers =
    let at : node_at ds f.node ≡ d = get_index ds f.node d yes_sketch e in
    let next : frame_of f' ≡ record { node = f.node; numbers = f.numbers.items ++ (j ∷ []) } = ap₂ (λ (a : ℕ) (b : List ℕ). record { node = a; numbers = b }) node numbers in
    subst (λ (xs : List Frame). IsWalkLeft s0 es fs ds m memo xs) (sym (ap (map frame_of) items ∙ map_end frame_of stack f' ∙ ap (λ x. map frame_of stack ++ (x ∷ [])) next))
    (advanced s0 es fs ds m memo (map frame_of stack) (frame_of f) c j g
    (ap (λ x. slice_get (children x) (length f.numbers.items)) at ∙ ap (slice_get (children d)) (sym size) ∙ sym h) (index_get memo c None below ∙ ap (λ x. Some x) k))

pub descended_items : (m0 : BuilderModel) (es : List Event) (fs : List (Form Comparison)) (ds : List SketchNode) (m : BuilderModel) (memo : List (Option ℕ)) (stack stack' stack'' : List code_frame.Frame) (f f' g' : code_frame.Frame) (d : SketchNode) (n c : ℕ) → IsDrawing (stand_of m0).trees ds fs →
    IsWalkLeft (stand_of m0) es fs ds m memo (map frame_of stack ++ (frame_of f ∷ [])) → slice_get ds f.node ≡ Some d → n ≡ length f.numbers.items → Some c ≡ slice_get (children d) n → c < length ds →
    stack' ≡ stack ++ (f' ∷ []) → frame_of f' ≡ frame_of f → stack'' ≡ stack' ++ (g' ∷ []) → g'.node ≡ c → g'.numbers.items ≡ [] → IsWalkLeft (stand_of m0) es fs ds m memo (map frame_of stack'')
descended_items m0 es fs ds m memo stack stack' stack'' f f' g' d n c drawing g e size h below items same items' node numbers =
    let at : node_at ds f.node ≡ d = get_index ds f.node d yes_sketch e in
    let child = stood ds c below in
    let next : frame_of g' ≡ record { node = c; numbers = [] } = ap₂ (λ (a : ℕ) (b : List ℕ). record { node = a; numbers = b }) node numbers in
    let first : map frame_of stack' ≡ map frame_of stack ++ (frame_of f ∷ []) = ap (map frame_of) items ∙ map_end frame_of stack f' ∙ ap (λ x. map frame_of stack ++ (x ∷ [])) same in
    subst (λ (xs : List Frame). IsWalkLeft (stand_of m0) es fs ds m memo xs) (sym (ap (map frame_of) items' ∙ map_end frame_of stack' g' ∙ ap₂ (λ xs x. xs ++ (x ∷ [])) first next))
    (descended (stand_of m0) es fs ds m memo (map frame_of stack) (frame_of f) c child.0 drawing g
    (ap (λ x. slice_get (children x) (length f.numbers.items)) at ∙ ap (slice_get (children d)) (sym size) ∙ sym h) child.1)

-- ---- what is asked of sketch, memo and frames

pub form_extends : (claim : Place) (s s' : Stand) (g : Form ℕ) → make_form claim s g ≡ stands s' → Extends s s'
form_extends claim s s' g e = reach (make_form claim s g) e (form_reaches claim s g)
  where
    reach : (w : Walked) → w ≡ stands s' → Reaches s w → Extends s s'
    reach w e h = subst (λ (v : Walked). Reaches s v) e h

pub finish_extends : (m m1 : BuilderModel) (d : SketchNode) (js : List ℕ) (j : ℕ) → Finishes m m1 d js (Ok j) → Extends (stand_of m) (stand_of m1)
finish_extends m m1 yes_sketch js j h = form_extends here (stand_of m) (stand_of m1) yes_form (h.0 here)
finish_extends m m1 no_sketch js j h = form_extends here (stand_of m) (stand_of m1) no_form (h.0 here)
finish_extends m m1 (choice_sketch p x y) js j h = form_extends here (stand_of m) (stand_of m1) no_form (h.0 here)
finish_extends m m1 (comparison_sketch at l r kind) js j h = extends_to here (stand_of m) (stand_of m1) (form_events (atom_is (comparison_of (stand_of m).trees at l r kind))) (h.0 here)
finish_extends m m1 (equal_sketch at ks) js j h = extends_to here (stand_of m) (stand_of m1) (form_events (some_equal (stand_of m).trees at ks)) (h.0 here)
finish_extends m m1 (crowd_sketch v ks) js j h = let e = h.0 in cc
finish_extends m m1 (bool_sketch axis v) js j h = form_extends here (stand_of m) (stand_of m1) (bool_is axis v) (h.0 here)
finish_extends m m1 (all_sketch ks) js j h = form_extends here (stand_of m) (stand_of m1) (all_form (picked (stand_of m).forms js)) (h.0 here)
finish_extends m m1 (any_sketch ks) js j h = form_extends here (stand_of m) (stand_of m1) (any_form (picked (stand_of m).forms js)) (h.0 here)

there : (m : BuilderModel) (j : ℕ) (g : Form ℕ) → slice_get (stand_of m).forms j ≡ Some g → j < length m.forms
there m j g h = omega (arith, get_below (stand_of m).forms j g h, length_forms m.forms)

pub finish_there : (m m1 : BuilderModel) (d : SketchNode) (js : List ℕ) (j : ℕ) → Finishes m m1 d js (Ok j) → j < length m1.forms
finish_there m m1 yes_sketch js j h = there m1 j _ h.1
finish_there m m1 no_sketch js j h = there m1 j _ h.1
finish_there m m1 (choice_sketch p x y) js j h = there m1 j _ h.1
finish_there m m1 (comparison_sketch at l r kind) js j h = there m1 j _ h.1
finish_there m m1 (bool_sketch axis v) js j h = there m1 j _ h.1
finish_there m m1 (equal_sketch at ks) js j h = there m1 j _ h.1
finish_there m m1 (crowd_sketch v ks) js j h = let e = h.0 in cc
finish_there m m1 (all_sketch ks) js j h = there m1 j _ h.1
finish_there m m1 (any_sketch ks) js j h = there m1 j _ h.1

more-of : {X : Type 0} (xs ys : List X) → ((zs : List X) × (ys ≡ xs ++ zs)) → length xs ≤ length ys
more-of xs ys e = omega (arith, ap (λ (l : List _). length l) e.1, length-append xs e.0)

drawn-stays : (m m1 : BuilderModel) (d : SketchNode) → m1.sorts ≡ m.sorts → length m.nodes ≤ length m1.nodes → IsDrawn m d → IsDrawn m1 d
drawn-stays m m1 yes_sketch e h k = tt
drawn-stays m m1 no_sketch e h k = tt
drawn-stays m m1 (choice_sketch p x y) e h k = tt
drawn-stays m m1 (comparison_sketch at l r kind) e h k = (omega (arith, h, k.0), omega (arith, h, k.1))
drawn-stays m m1 (bool_sketch axis v) e h k = subst (λ (s : List Sort). HasSort bool_sort s axis) (sym e) k
drawn-stays m m1 (equal_sketch at ks) e h k = numbers_within (length m.nodes) (length m1.nodes) ks h k
drawn-stays m m1 (crowd_sketch v ks) e h k = k
drawn-stays m m1 (all_sketch ks) e h k = tt
drawn-stays m m1 (any_sketch ks) e h k = tt

pub safe_by : (ds : List SketchNode) (m m1 : BuilderModel) (memo : List (Option ℕ)) (k : ℕ) (d : SketchNode) (js : List ℕ) (j : ℕ) → IsSketch m ds → IsMemo ds m memo → m1.sorts ≡ m.sorts → Finishes m m1 d js (Ok j) → StaysSafe ds m m1 (slice_set memo k (Some j))
safe_by ds m m1 memo k d js j sketch kept sorts done =
    let x = finish_extends m m1 d js j done in
    let forms : length m.forms ≤ length m1.forms = omega (arith, more-of (stand_of m).forms (stand_of m1).forms x.forms, length_forms m.forms, length_forms m1.forms) in
    let nodes : length m.nodes ≤ length m1.nodes = omega (arith, more-of (stand_of m).trees (stand_of m1).trees x.trees, length_terms m.nodes, length_terms m1.nodes) in record {
      sketched = record { ordered = sketch.ordered; drawn = λ i y e. drawn-stays m m1 y sorts nodes (sketch.drawn i y e) };
      kept = record {
        count = length-set memo k (Some j) ∙ kept.count;
        numbers = λ i y p. elim (memo-set memo k i (Some j) y p) [
          | inl q ↦ subst (λ (n : ℕ). n < length m1.forms) (same-number j y q.1) (finish_there m m1 d js j done)
          | inr q ↦ omega (arith, kept.numbers i y q, forms)
        ];
      };
      more = forms;
    }
  where
    same-number : (a b : ℕ) → Some a ≡ Some b → a ≡ b
    same-number a b e = cc

    length-set : (xs : List (Option ℕ)) (k : ℕ) (x : Option ℕ) → length (slice_set xs k x) ≡ length xs
    length-set [] k x = refl
    length-set (y ∷ xs) zero x = refl
    length-set (y ∷ xs) (suc k) x = ap suc (length-set xs k x)

-- nothing was made
pub safe_still : (ds : List SketchNode) (m : BuilderModel) (memo : List (Option ℕ)) → IsSketch m ds → IsMemo ds m memo → StaysSafe ds m m memo
safe_still ds m memo sketch kept = record { sketched = sketch; kept = kept; more = omega arith }

numbers-stay : (n n' : ℕ) (js : List ℕ) → n ≤ n' → AreNumbers n js → AreNumbers n' js
numbers-stay n n' [] h k = refl
numbers-stay n n' (j ∷ js) h k = let o = both_true (nat_lt j n) (list_all (λ i. nat_lt i n) js) k in let p : j < n' = omega (arith, ltb→lt j n (passes _ o.0), h) in
    both_pass (nat_lt j n') (list_all (λ i. nat_lt i n') js) (lt-true j n' p) (numbers-stay n n' js h o.1)
  where
    lt-true : (a b : ℕ) → a < b → nat_lt a b ≡ true
    lt-true a b h = grind (arith, h)

pub are_frames_stay : (ds : List SketchNode) (m m1 : BuilderModel) (xs : List Frame) → length m.forms ≤ length m1.forms → AreFrames ds m xs → AreFrames ds m1 xs
are_frames_stay ds m m1 [] h k = tt
are_frames_stay ds m m1 (f ∷ xs) h k = (record { node = k.0.node; numbers = numbers-stay (length m.forms) (length m1.forms) f.numbers h k.0.numbers }, are_frames_stay ds m m1 xs h k.1)

pub are_frames_end : (ds : List SketchNode) (m : BuilderModel) (xs : List Frame) (f : Frame) → AreFrames ds m xs → IsFrame ds m f → AreFrames ds m (xs ++ (f ∷ []))
are_frames_end ds m [] f h k = (k, tt)
are_frames_end ds m (x ∷ xs) f h k = (h.0, are_frames_end ds m xs f h.1 k)

numbers-end : (n : ℕ) (js : List ℕ) (j : ℕ) → AreNumbers n js → j < n → AreNumbers n (js ++ (j ∷ []))
numbers-end n [] j h k = both_pass (nat_lt j n) true (grind (arith, k)) refl
numbers-end n (i ∷ js) j h k = let o = both_true (nat_lt i n) (list_all (λ x. nat_lt x n) js) h in both_pass (nat_lt i n) (list_all (λ x. nat_lt x n) (js ++ (j ∷ []))) o.0 (numbers-end n js j o.1 k)

pub frames_advanced : (ds : List SketchNode) (m : BuilderModel) (stack stack' : List code_frame.Frame) (f f' : code_frame.Frame) (j : ℕ) → AreFrames ds m (map frame_of stack) → IsFrame ds m (frame_of f) → j < length m.forms →
    stack' ≡ stack ++ (f' ∷ []) → f'.node ≡ f.node → f'.numbers.items ≡ f.numbers.items ++ (j ∷ []) → AreFrames ds m (map frame_of stack')
frames_advanced ds m stack stack' f f' j h k below items node numbers =
    subst (λ (xs : List Frame). AreFrames ds m xs) (sym (ap (map frame_of) items ∙ map_end frame_of stack f'))
    (are_frames_end ds m (map frame_of stack) (frame_of f') h (record {
      node = subst (λ (n : ℕ). n < length ds) (sym node) k.node;
      numbers = subst (λ (js : List ℕ). AreNumbers (length m.forms) js) (sym numbers) (numbers-end (length m.forms) f.numbers.items j k.numbers below);
    }))

pub frames_descended : (ds : List SketchNode) (m : BuilderModel) (stack stack' stack'' : List code_frame.Frame) (f f' g' : code_frame.Frame) (c : ℕ) → AreFrames ds m (map frame_of stack) → IsFrame ds m (frame_of f) → c < length ds →
    stack' ≡ stack ++ (f' ∷ []) → frame_of f' ≡ frame_of f → stack'' ≡ stack' ++ (g' ∷ []) → g'.node ≡ c → g'.numbers.items ≡ [] → AreFrames ds m (map frame_of stack'')
frames_descended ds m stack stack' stack'' f f' g' c h k below items same items' node numbers =
    subst (λ (xs : List Frame). AreFrames ds m xs) (sym (ap (map frame_of) items' ∙ map_end frame_of stack' g'))
    (are_frames_end ds m (map frame_of stack') (frame_of g')
    (subst (λ (xs : List Frame). AreFrames ds m xs) (sym (ap (map frame_of) items ∙ map_end frame_of stack f')) (are_frames_end ds m (map frame_of stack) (frame_of f') h (subst (λ (x : Frame). IsFrame ds m x) (sym same) k)))
    (record { node = subst (λ (n : ℕ). n < length ds) (sym node) below; numbers = subst (λ (js : List ℕ). AreNumbers (length m.forms) js) (sym numbers) refl }))

pub if_frames : {X : Type 0} (ds : List SketchNode) (m m1 : BuilderModel) (memo : List (Option ℕ)) (xs : List Frame) (r : Result X Stop) → IfDone r (StaysSafe ds m m1 memo) → AreFrames ds m xs → IfDone r (AreFrames ds m1 xs)
if_frames ds m m1 memo xs (Ok x) s h = are_frames_stay ds m m1 xs s.more h
if_frames ds m m1 memo xs (Err e) s h = tt

-- ---- the whole walk

begun-with : (n : ℕ) (k j : ℕ) → slice_get (replicate n None) k ≡ Some (Some j) → ⊥
begun-with zero k j h = cc
begun-with (suc n) zero j h = cc
begun-with (suc n) (suc k) j h = begun-with n k j h

-- a stack of the root alone
pub begun : (m : BuilderModel) (fs : List (Form Comparison)) (ds : List SketchNode) (memo : List (Option ℕ)) (root : ℕ) → IsDrawing (stand_of m).trees ds fs → root < length ds → ((k j : ℕ) → slice_get memo k ≡ Some (Some j) → ⊥) →
    IsWalkLeft (stand_of m) (form_events (sketch_at fs root)) fs ds m memo (record { node = root; numbers = [] } ∷ [])
begun m fs ds memo root drawing below empty =
    let d = stood ds root below in record {
      walk = λ claim. ap (after_events claim (stand_of m)) (sym (ap (λ x. left_of fs (sketch_at fs root) x 0) (get_index ds root d.0 yes_sketch d.1) ∙ left-begun (stand_of m).trees fs (sketch_at fs root) d.0 (drawing.forms root d.0 d.1)));
      extends = extends_self (stand_of m);
      made = λ k j h. absurd (empty k j h);
      frames = (tt, tt);
    }

-- an empty stack
pub ended : (m m1 : BuilderModel) (fs : List (Form Comparison)) (ds : List SketchNode) (memo : List (Option ℕ)) (root j : ℕ) → IsWalkLeft (stand_of m) (form_events (sketch_at fs root)) fs ds m1 memo [] → slice_get memo root ≡ Some (Some j) →
    Emits m m1 (form_events (sketch_at fs root)) (Ok j) (IsFormOf m1 (form_map atom_of (sketch_at fs root)))
ended m m1 fs ds memo root j g h = (g.walk, (g.made root j h).1)

-- ---- the stack is drained

pub popped : (stack rest : List code_frame.Frame) (f : code_frame.Frame) → stack ≡ rest ++ (f ∷ []) → map frame_of stack ≡ map frame_of rest ++ (frame_of f ∷ [])
popped stack rest f e = ap (map frame_of) e ∙ map_end frame_of rest f

frames-split : (ds : List SketchNode) (m : BuilderModel) (xs : List Frame) (f : Frame) → AreFrames ds m (xs ++ (f ∷ [])) → AreFrames ds m xs × IsFrame ds m f
frames-split ds m [] f h = (tt, h.0)
frames-split ds m (x ∷ xs) f h = let r = frames-split ds m xs f h.1 in ((h.0, r.0), r.1)

pub popped_frames : (ds : List SketchNode) (m : BuilderModel) (stack rest : List code_frame.Frame) (f : code_frame.Frame) → stack ≡ rest ++ (f ∷ []) → AreFrames ds m (map frame_of stack) → AreFrames ds m (map frame_of rest) × IsFrame ds m (frame_of f)
popped_frames ds m stack rest f e h = frames-split ds m (map frame_of rest) (frame_of f) (subst (λ (xs : List Frame). AreFrames ds m xs) (popped stack rest f e) h)

none-left : {X : Type 0} (xs : List X) → length xs ≡ 0 → xs ≡ []
none-left [] e = refl
none-left (x ∷ xs) e = absurd (omega (arith, e))

pub nothing_left : (stack rest : List code_frame.Frame) → stack ≡ rest ++ [] → length rest ≡ 0 → map frame_of stack ≡ []
nothing_left stack rest e h = ap (map frame_of) (e ∙ append-nil rest ∙ none-left rest h)

-- ---- the walk as a whole

take-all : {X : Type 0} (xs zs : List X) → take (length xs) (xs ++ zs) ≡ xs
take-all [] [] = refl
take-all [] (z ∷ zs) = refl
take-all (x ∷ xs) zs = ap (λ l. x ∷ l) (take-all xs zs)

pub written_back : {X : Type 0} (all xs zs : List X) (n : ℕ) → all ≡ take n (xs ++ zs) → n ≡ length xs → all ≡ xs
written_back all xs zs n e h = e ∙ ap (λ k. take k (xs ++ zs)) h ∙ take-all xs zs

length-none : (n : ℕ) → length (replicate n (let x : Option ℕ = None in x)) ≡ n
length-none zero = refl
length-none (suc n) = ap suc (length-none n)

pub memo_begun : (ds : List SketchNode) (m : BuilderModel) (memo items : List (Option ℕ)) (n : ℕ) → memo ≡ items → items ≡ replicate n None → n ≡ length ds → IsMemo ds m memo
memo_begun ds m memo items n e f h = subst (λ (xs : List (Option ℕ)). IsMemo ds m xs) (sym (e ∙ f)) (record { count = length-none n ∙ h; numbers = λ k j p. absurd (begun-with n k j p) })

-- the root alone, as the stack's items
root-alone : (stack before : List code_frame.Frame) (f : code_frame.Frame) (root : ℕ) → stack ≡ before ++ (f ∷ []) → before ≡ [] → f.node ≡ root → f.numbers.items ≡ [] → map frame_of stack ≡ record { node = root; numbers = [] } ∷ []
root-alone stack before f root e h node numbers = popped stack before f e ∙ ap₂ (λ (xs : List code_frame.Frame) (x : Frame). map frame_of xs ++ (x ∷ [])) h (ap₂ (λ (a : ℕ) (b : List ℕ). record { node = a; numbers = b }) node numbers)

pub goes_first : (m : BuilderModel) (fs : List (Form Comparison)) (ds : List SketchNode) (memo items : List (Option ℕ)) (n root : ℕ) (stack before : List code_frame.Frame) (f : code_frame.Frame) → IsDrawing (stand_of m).trees ds fs → root < length ds → memo ≡ items → items ≡ replicate n None →
    stack ≡ before ++ (f ∷ []) → before ≡ [] → f.node ≡ root → f.numbers.items ≡ [] → IsWalkLeft (stand_of m) (form_events (sketch_at fs root)) fs ds m memo (map frame_of stack)
goes_first m fs ds memo items n root stack before f drawing below e h s b node numbers = subst (λ (xs : List Frame). IsWalkLeft (stand_of m) (form_events (sketch_at fs root)) fs ds m memo xs) (sym (root-alone stack before f root s b node numbers))
    (begun m fs ds memo root drawing below (λ k j p. begun-with n k j (sym (ap (λ xs. slice_get xs k) (e ∙ h)) ∙ p)))

pub goes_last : (m m1 : BuilderModel) (fs : List (Form Comparison)) (ds : List SketchNode) (memo all : List (Option ℕ)) (root j : ℕ) → IsWalkLeft (stand_of m) (form_events (sketch_at fs root)) fs ds m1 memo [] → all ≡ memo → slice_get all root ≡ Some (Some j) →
    Emits m m1 (form_events (sketch_at fs root)) (Ok j) (IsFormOf m1 (form_map atom_of (sketch_at fs root)))
goes_last m m1 fs ds memo all root j g e h = ended m m1 fs ds memo root j g (ap (λ xs. slice_get xs root) (sym e) ∙ h)
