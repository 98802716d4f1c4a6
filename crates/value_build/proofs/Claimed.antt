-- Forms of assertions: every sketch is drawn, and what it draws is made.
use Rattle.std.proofs.Common.{◌≡◌, ℕ, zero, suc, ◌+◌, ◌<◌, ◌≤◌, List, [], ◌∷◌, ◌++◌, length, Some, refl, ap, ap₂, sym, ◌∙◌, subst, arith, IsTrue, ◌⊎◌, inl, inr, append_assoc, append-nil, length-append, nat_lt, ltb→lt}
use Rattle.std.specs.Prelude.{slice_get, Result, Ok, Err}
use Rattle.std.specs.Bool.{passes}
use Rattle.std.specs.List.{list_all}
use Rattle.dyadic.proofs.Equal.{both_true}
use Rattle.script_model.specs.Sexp.{Place}
use Rattle.script_model.specs.Declared.{Bound, Bounding, bounds_in}
use Rattle.poly_graph.specs.Term.{Term, constant, variable, negate, add, multiply, square}
use Rattle.poly_graph.specs.Form.{Form, more_forms, no_form, all_form, any_form, form_map}
use Rattle.script_forms.specs.Terms.{Comparison, Unfolded, term}
use Rattle.script_forms.specs.Unfolded.{truth_of}
use Rattle.script_forms.specs.Atoms.{atom_of}
use Rattle.script_forms.specs.Work.{form_events}
use Rattle.script_forms.specs.Walk.{make_form, after_events}
use Rattle.term_build.specs.Built.{BuilderModel, stand_of}
use Rattle.term_build.specs.Does.{Does, IsForm, StopsAs}
use Rattle.term_build.specs.Settled.{FormSettled}
use Rattle.term_build.specs.Shapes.{Shaping}
use Rattle.term_build.specs.Sketch.{SketchNode, yes_sketch, no_sketch, comparison_sketch, bool_sketch, all_sketch, any_sketch, choice_sketch, equal_sketch, crowd_sketch, crowd, sketch_row, sketch_after, sketch_in_order, sketch_at, sketch_children, sketch_form, IsDrawing, IsSketch, IsFormOf}
use Rattle.term_build.specs.Steps.{Emits}
use Rattle.term_build.specs.Pairs.{DrawsForm}
use Rattle.term_build.specs.declared.stop.Stop.{Stop}
use Rattle.term_build.specs.declared.connectives.Pair.{Pair}
use Rattle.term_build.proofs.Compares.{emits_form}
use Rattle.term_build.proofs.Lists.{get_index, get_end, get_before, get_below, index_before}
use Rattle.term_build.proofs.Settled.{form_done}
use Rattle.declared_box.specs.Same.{SameBounds}
use Rattle.value_build.specs.Making.{Making, making}
use Rattle.term_build.specs.declared.sketch.Arm.TheVariants as arm
use Rattle.value_build.specs.Values.{Weighs, IsArm, is_choice, Lists, IsClaimed, Claims, IsKnown}
use Rattle.value_build.specs.Bounds.{AddsList}
use Rattle.value_build.specs.Claiming.{IsFormMade, ClaimsBool, ClaimsReal}
use Rattle.value_build.specs.declared.value.Value.{Value}
use Rattle.value_build.specs.declared.value.Value.TheVariants as values
use Rattle.value_build.proofs.Folds.{emits_grows}
use Rattle.value_build.proofs.Growth.{lists_self}

-- ---- every sketch is drawn

children-more : (fs gs : List (Form Comparison)) (ks : List ℕ) (n : ℕ) → n ≤ length fs → IsTrue (list_all (λ k. nat_lt k n) ks) → sketch_children (fs ++ gs) ks ≡ sketch_children fs ks
children-more fs gs [] n l h = refl
children-more fs gs (k ∷ ks) n l h = let o = both_true (nat_lt k n) (list_all (λ k. nat_lt k n) ks) h in
    let less : k < n = ltb→lt k n (passes _ o.0) in
    ap₂ more_forms (index_before fs gs k no_form (omega (arith, less, l))) (children-more fs gs ks n l o.1)

row-more : (fs gs : List (Form Comparison)) (ks : List ℕ) (n : ℕ) → n ≤ length fs → IsTrue (list_all (λ k. nat_lt k n) ks) → sketch_row (fs ++ gs) ks ≡ sketch_row fs ks
row-more fs gs [] n l h = refl
row-more fs gs (k ∷ ks) n l h = let o = both_true (nat_lt k n) (list_all (λ k. nat_lt k n) ks) h in
    let less : k < n = ltb→lt k n (passes _ o.0) in
    ap₂ (λ (x : Form Comparison) (xs : List (Form Comparison)). x ∷ xs) (index_before fs gs k no_form (omega (arith, less, l))) (row-more fs gs ks n l o.1)

form-more : (ts : List Term) (fs gs : List (Form Comparison)) (d : SketchNode) (n : ℕ) → n ≤ length fs → IsTrue (sketch_after n d) → sketch_form ts (fs ++ gs) d ≡ sketch_form ts fs d
form-more ts fs gs (all_sketch ks) n l h = ap all_form (children-more fs gs ks n l h)
form-more ts fs gs (any_sketch ks) n l h = ap any_form (children-more fs gs ks n l h)
form-more ts fs gs yes_sketch n l h = refl
form-more ts fs gs no_sketch n l h = refl
form-more ts fs gs (comparison_sketch at i j kind) n l h = refl
form-more ts fs gs (bool_sketch axis v) n l h = refl
form-more ts fs gs (choice_sketch p x y) n l h = refl
form-more ts fs gs (equal_sketch at ks) n l h = refl
form-more ts fs gs (crowd_sketch v ks) n l h = ap (crowd v) (row-more fs gs ks n l h)

order-at : (n : ℕ) (ds : List SketchNode) → IsTrue (sketch_in_order n ds) → (k : ℕ) (d : SketchNode) → slice_get ds k ≡ Some d → IsTrue (sketch_after (n + k) d)
order-at n [] h k d e = cc
order-at n (x ∷ ds) h zero d e = let f : x ≡ d = cc in let g : n ≡ n + 0 = omega arith in subst (λ (j : ℕ). IsTrue (sketch_after j d)) g (subst (λ (y : SketchNode). IsTrue (sketch_after n y)) f (both_true (sketch_after n x) (sketch_in_order (suc n) ds) h).0)
order-at n (x ∷ ds) h (suc k) d e = let g : suc n + k ≡ n + suc k = omega arith in subst (λ (j : ℕ). IsTrue (sketch_after j d)) g (order-at (suc n) ds (both_true (sketch_after n x) (sketch_in_order (suc n) ds) h).1 k d e)

last-or : (ds : List SketchNode) (d : SketchNode) (k : ℕ) (x : SketchNode) → slice_get (ds ++ (d ∷ [])) k ≡ Some x → (slice_get ds k ≡ Some x) ⊎ ((k ≡ length ds) × (d ≡ x))
last-or [] d zero x e = inr (refl, cc)
last-or [] d (suc k) x e = cc
last-or (y ∷ ds) d zero x e = inl e
last-or (y ∷ ds) d (suc k) x e = elim (last-or ds d k x e) [ inl h ↦ inl h | inr h ↦ inr (ap suc h.0, h.1) ]

drawn-end : (ts : List Term) (all done rest : List SketchNode) (fs : List (Form Comparison)) (d : SketchNode) → ((k : ℕ) (x : SketchNode) → slice_get all k ≡ Some x → IsTrue (sketch_after k x)) → all ≡ (done ++ (d ∷ [])) ++ rest → IsDrawing ts done fs →
    IsDrawing ts (done ++ (d ∷ [])) (fs ++ (sketch_form ts fs d ∷ []))
drawn-end ts all done rest fs d o e h = let f = sketch_form ts fs d in record {
  count = omega (arith, length-append fs (f ∷ []), length-append done (d ∷ []), h.count);
  forms = λ k x g.
      let after : IsTrue (sketch_after k x) = o k x (ap (λ xs. slice_get xs k) e ∙ get_before (done ++ (d ∷ [])) rest k x g) in
      elim (last-or done d k x g) [
        | inl i ↦ let below = get_below done k x i in
            index_before fs (f ∷ []) k no_form (omega (arith, below, h.count)) ∙ h.forms k x i ∙ sym (form-more ts fs (f ∷ []) x k (omega (arith, below, h.count)) after)
        | inr i ↦ let at : k ≡ length fs = i.0 ∙ sym h.count in
            ap (sketch_at (fs ++ (f ∷ []))) at ∙ get_index (fs ++ (f ∷ [])) (length fs) f no_form (get_end fs f) ∙ ap (sketch_form ts fs) i.1 ∙ sym (form-more ts fs (f ∷ []) x k (omega (arith, at)) after)
      ];
}

draw : (ts : List Term) (all : List SketchNode) → ((k : ℕ) (x : SketchNode) → slice_get all k ≡ Some x → IsTrue (sketch_after k x)) → (done : List SketchNode) (fs : List (Form Comparison)) (rest : List SketchNode) → all ≡ done ++ rest → IsDrawing ts done fs →
    (gs : List (Form Comparison)) × IsDrawing ts all gs
draw ts all o done fs [] e h = (fs, subst (λ (xs : List SketchNode). IsDrawing ts xs fs) (sym (e ∙ append-nil done)) h)
draw ts all o done fs (d ∷ rest) e h = let g = e ∙ sym (append_assoc done (d ∷ []) rest) in
    draw ts all o (done ++ (d ∷ [])) (fs ++ (sketch_form ts fs d ∷ [])) rest g (drawn-end ts all done rest fs d o g h)

pub drawing : (m : BuilderModel) (ts : List Term) (ds : List SketchNode) → IsSketch m ds → (fs : List (Form Comparison)) × IsDrawing ts ds fs
drawing m ts ds s = draw ts ds (λ k x e. let z : 0 + k ≡ k = omega arith in subst (λ (j : ℕ). IsTrue (sketch_after j x)) z (order-at 0 ds s.ordered k x e)) [] [] ds refl (record { count = refl; forms = λ k d e. cc })

-- ---- Bool assertions

nowhere : Place
nowhere = record { line = 0; column = 0 }

form-made : (m m' : BuilderModel) (f : Form Comparison) (j : ℕ) → Emits m m' (form_events f) (Ok j) (IsFormOf m' (form_map atom_of f)) → IsFormMade m m' f j
form-made m m' f j e = record {
  stand = emits_grows (IsFormOf m' (form_map atom_of f)) m m' (form_events f) j e;
  settled = form_done nowhere (stand_of m) (stand_of m') f (e.0 nowhere);
  form = e.1;
}

shaped : (m m' : BuilderModel) (ds : List SketchNode) (k : ℕ) (r : Result ℕ Stop) (f : Form Comparison) → IsSketch m ds → Shaping m m' ds k r → DrawsForm (stand_of m).trees ds f k → Emits m m' (form_events f) r (IsFormOf m' (form_map atom_of f))
shaped m m' ds k r f s w d = let ts = (stand_of m).trees in let g = drawing m ts ds s in
    let e : sketch_at g.0 k ≡ f = d.form [] [] g.0 (subst (λ (xs : List Term). IsDrawing xs (ds ++ []) g.0) (sym (append-nil ts)) (subst (λ (xs : List SketchNode). IsDrawing ts xs g.0) (sym (append-nil ds)) g.1)) in
    subst (λ (h : Form Comparison). Emits m m' (form_events h) r (IsFormOf m' (form_map atom_of h))) e (w g.0 g.1)

pub bool_claimed : (m m' : BuilderModel) (ds : List SketchNode) (k n j : ℕ) → IsSketch m ds → Shaping m m' ds k (Ok j) → ClaimsBool m m' ds k n (Ok (j, n))
bool_claimed m m' ds k n j s w = λ f d. let e = shaped m m' ds k (Ok j) f s w d in ((λ claim. e.0 claim), (form-made m m' f j e, refl))

pub bool_stopped : (m m' : BuilderModel) (ds : List SketchNode) (k n : ℕ) (x : Stop) → IsSketch m ds → Shaping m m' ds k (Err x) → ClaimsBool m m' ds k n (Err x)
bool_stopped m m' ds k n x s w = λ f d claim. shaped m m' ds k (Err x) f s w d claim

pub real_claimed : (m m' : BuilderModel) (lists lists' : List (List Bound)) (j n : ℕ) → Does m m' (λ claim s. make_form claim s no_form) (Ok j) (IsForm m' no_form) → AddsList lists lists' [] (Ok n) → ClaimsReal m m' lists lists' (Ok (j, n))
real_claimed m m' lists lists' j n d a = let e = emits_form m m' no_form no_form (Ok j) refl d in
    ((λ claim. e.0 claim), (form-made m m' no_form j e, a.0, (a.1, subst (λ (xs : List Bound). SameBounds xs []) (sym a.2) tt)))

pub real_stopped : (m m' : BuilderModel) (lists lists' : List (List Bound)) (x : Stop) → Does m m' (λ claim s. make_form claim s no_form) (Err x) (IsForm m' no_form) → ClaimsReal m m' lists lists' (Err x)
real_stopped m m' lists lists' x d = λ claim. emits_form m m' no_form no_form (Err x) refl d claim

-- ---- values

no-bounds : (t : Term) (b : Bounding) → Weighs t b → bounds_in b ≡ []
no-bounds (constant q) b h = ap bounds_in h.1
no-bounds (variable axis) b h = ap bounds_in h
no-bounds (negate t) b h = ap bounds_in h
no-bounds (add t u) b h = ap bounds_in h
no-bounds (multiply t u) b h = ap bounds_in h
no-bounds (square t) b h = ap bounds_in h

pub claims_bool : (m m' : BuilderModel) (ds : List SketchNode) (lists : List (List Bound)) (old : Making) (v : Value) (p : Pair) (n : ℕ) (r : Result (ℕ × ℕ) Stop) → making m ds lists ≡ old → v ≡ values.Bool p n → ClaimsBool m m' ds p.truth n r → Claims old (making m' [] lists) v r
claims_bool m m' ds lists old v p n r e g w = subst (λ (x : Making). Claims x (making m' [] lists) v r) e (subst (λ (y : Value). Claims (making m ds lists) (making m' [] lists) y r) (sym g) (go r w))
  where
    go : (r : Result (ℕ × ℕ) Stop) → ClaimsBool m m' ds p.truth n r → Claims (making m ds lists) (making m' [] lists) (values.Bool p n) r
    go (Err x) w = λ u b h claim. w (truth_of u) h.0.yes claim
    go (Ok c) w = λ u b h. let k = w (truth_of u) h.0.yes in (
      (λ claim. k.0 claim),
      record {
        stand = k.1.0.stand;
        lists = lists_self lists;
        claim = record {
          settled = k.1.0.settled;
          form = k.1.0.form;
          bounds = subst (λ (j : ℕ). Lists lists j (bounds_in b)) (sym k.1.1) (subst (λ (xs : List Bound). Lists lists n xs) (sym (ap bounds_in h.1.1)) h.1.2);
        };
      },
    )

pub claims_real : (m m' : BuilderModel) (ds : List SketchNode) (lists lists' : List (List Bound)) (old : Making) (v : Value) (k : ℕ) (r : Result (ℕ × ℕ) Stop) → making m ds lists ≡ old → v ≡ values.Real k → ClaimsReal m m' lists lists' r → Claims old (making m' [] lists') v r
claims_real m m' ds lists lists' old v k r e g w = subst (λ (x : Making). Claims x (making m' [] lists') v r) e (subst (λ (y : Value). Claims (making m ds lists) (making m' [] lists') y r) (sym g)
    (λ u b h. subst (λ (x : Unfolded). Emits m m' (form_events (truth_of x)) r (IsClaimed (making m ds lists) (making m' [] lists') x b)) (sym h.1) (go h.0 b (no-bounds h.0 b h.3) r w)))
  where
    go : (t : Term) (b : Bounding) → bounds_in b ≡ [] → (r : Result (ℕ × ℕ) Stop) → ClaimsReal m m' lists lists' r → Emits m m' (form_events no_form) r (IsClaimed (making m ds lists) (making m' [] lists') (term t) b)
    go t b n (Err x) w = w
    go t b n (Ok c) w = (
      w.0,
      record {
        stand = w.1.0.stand;
        lists = w.1.1;
        claim = record {
          settled = w.1.0.settled;
          form = w.1.0.form;
          bounds = subst (λ (xs : List Bound). Lists lists' c.1 xs) (sym n) w.1.2;
        };
      },
    )

pub claims_choice : (m m' : BuilderModel) (ds : List SketchNode) (lists lists' : List (List Bound)) (old : Making) (v : Value) (k : ℕ) (r : Result (ℕ × ℕ) Stop) → making m ds lists ≡ old → v ≡ values.Choice k → ClaimsReal m m' lists lists' r → Claims old (making m' [] lists') v r
claims_choice m m' ds lists lists' old v k r e g w = subst (λ (x : Making). Claims x (making m' [] lists') v r) e (subst (λ (y : Value). Claims (making m ds lists) (making m' [] lists') y r) (sym g)
    (λ u b h. go u b (no-form u h.0) (ap bounds_in h.1) r w))
  where
    no-form : (u : Unfolded) → IsArm m ds u (arm.Choice k) → truth_of u ≡ no_form
    no-form _ (is_choice i d x y) = refl

    go : (u : Unfolded) (b : Bounding) → truth_of u ≡ no_form → bounds_in b ≡ [] → (r : Result (ℕ × ℕ) Stop) → ClaimsReal m m' lists lists' r → Emits m m' (form_events (truth_of u)) r (IsClaimed (making m ds lists) (making m' [] lists') u b)
    go u b f n (Err x) w = λ claim. subst (λ (p : Form Comparison). StopsAs claim (after_events claim (stand_of m) (form_events p)) x) (sym f) (w claim)
    go u b f n (Ok c) w = (
      (λ claim. ap (λ p. after_events claim (stand_of m) (form_events p)) f ∙ w.0 claim),
      record {
        stand = w.1.0.stand;
        lists = w.1.1;
        claim = record {
          settled = subst (λ (p : Form Comparison). FormSettled (stand_of m') p) (sym f) w.1.0.settled;
          form = subst (λ (p : Form Comparison). IsFormOf m' (form_map atom_of p) c.0) (sym f) w.1.0.form;
          bounds = subst (λ (xs : List Bound). Lists lists' c.1 xs) (sym n) w.1.2;
        };
      },
    )

pub truth_below : (m : BuilderModel) (ds : List SketchNode) (lists : List (List Bound)) (old : Making) (v : Value) (p : Pair) (n : ℕ) → making m ds lists ≡ old → v ≡ values.Bool p n → IsKnown old v → p.truth < length ds
truth_below m ds lists old v p n e g h = let k = subst (λ (x : Making). IsKnown x (values.Bool p n)) (sym e) (subst (λ (y : Value). IsKnown old y) g h) in k.2.0.yes.below
