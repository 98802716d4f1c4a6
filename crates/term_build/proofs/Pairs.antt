-- Sketches that grow, and what their nodes draw.
use Rattle.std.proofs.Common.{◌≡◌, ℕ, suc, zero, ◌+◌, ◌<◌, ◌≤◌, List, [], ◌∷◌, ◌++◌, map, length, Some, refl, ap, ap₂, sym, ◌∙◌, subst, arith, slice_index_or, append_assoc, append-nil, drop, length-append, ◌⊎◌, inl, inr, IsTrue, Bool, T, true, false, nat_lt, lt→ltb, ltb→lt}
use Rattle.std.specs.Prelude.{slice_get, Result, Ok, Err, IfOk, IsErr}
use Rattle.std.specs.Bool.{passes}
use Rattle.std.specs.List.{list_all}
use Rattle.dyadic.proofs.Equal.{both_true, both_pass}
use Rattle.script_model.specs.Sexp.{Place}
use Rattle.script_model.specs.Meaning.{pairs}
use Rattle.dyadic.specs.Fraction.{zero_fraction}
use Rattle.dyadic.specs.Point.{bool_sort}
use Rattle.poly_graph.specs.Problem.{HasSort}
use Rattle.poly_graph.specs.Term.{Term, constant, Kind, le, ge, eq}
use Rattle.poly_graph.specs.Form.{Form, Forms, no_forms, more_forms, all_form, any_form, yes_form, no_form, atom_is, bool_is}
use Rattle.script_forms.specs.Terms.{Comparison, Unfolded, formula}
use Rattle.script_forms.specs.Unfolded.{truth_of, negation_form, forms_of, two, and_of, or_of, not_of, xor_of, implies_two, xor_from, xor_all, implies_of, chain, choice_form, equal_two}
use Rattle.term_build.specs.Built.{BuilderModel}
use Rattle.term_build.specs.Sketch.{SketchNode, yes_sketch, no_sketch, comparison_sketch, bool_sketch, all_sketch, any_sketch, choice_sketch, equal_sketch, crowd_sketch, crowd, joined_by, least_crowd, second_in, side, sketch_row, equal_with, equal_pairs, forms_in, some_equal, sketch_after, sketch_in_order, sketch_children, sketch_form, comparison_of, IsDrawing, IsDrawn, IsSketch}
use Rattle.term_build.specs.Pairs.{Grown, DrawsForm, DrawsForms, Draws, DrawsEach, Sketches, Adds, NodeDraws, AddsPair, JoinsTwo, JoinsFour, Connects, ConnectsTwo, ConnectsChoice, ConnectsFrom, ImpliesFrom, IsRight, Left, IsLeft, same_of, ComparesTwo, Writes, WritesBool, DiffersEach, AreFormulas, ConnectsCrowd, constant_formula, tree_at, trees_at}
use Rattle.term_build.specs.declared.connectives.Pair.{Pair}
use Rattle.std.specs.declared.alloc.AllocError.{AllocError}
use Rattle.std.proofs.lemmas.List.{length-map}
use Rattle.term_build.proofs.Lists.{index_before}
use Rattle.term_build.proofs.Gathering.{numbers_within, some_equal_later}

-- ---- growth

pub grown_self : (ds : List SketchNode) → Grown ds ds
grown_self ds = record { more = []; is = sym (append-nil ds) }

pub grown_both : (a b d : List SketchNode) → Grown a b → Grown b d → Grown a d
grown_both a b d g h = record { more = g.more ++ h.more; is = h.is ∙ ap (λ x. x ++ h.more) g.is ∙ append_assoc a g.more h.more }

pub draws_more : (ts : List Term) (ds ds' : List SketchNode) (f : Form Comparison) (k : ℕ) → Grown ds ds' → DrawsForm ts ds f k → DrawsForm ts ds' f k
draws_more ts ds ds' f k g h = record {
  below = let e : length ds' ≡ length ds + length g.more = ap length g.is ∙ length-append ds g.more in omega (arith, e, h.below);
  form = λ ts' more fs d. h.form ts' (g.more ++ more) fs (subst (λ (x : List SketchNode). IsDrawing (ts ++ ts') x fs) (ap (λ x. x ++ more) g.is ∙ append_assoc ds g.more more) d);
}

pub forms_more : (ts : List Term) (ds ds' : List SketchNode) (fs : Forms Comparison) (ks : List ℕ) → Grown ds ds' → DrawsForms ts ds fs ks → DrawsForms ts ds' fs ks
forms_more ts ds ds' no_forms [] g h = tt
forms_more ts ds ds' (more_forms f fs) (k ∷ ks) g h = (draws_more ts ds ds' f k g h.0, forms_more ts ds ds' fs ks g h.1)
forms_more ts ds ds' no_forms (k ∷ ks) g h = elim h [ ]
forms_more ts ds ds' (more_forms f fs) [] g h = elim h [ ]

pub pair_more : (ts : List Term) (ds ds' : List SketchNode) (u : Unfolded) (p : Pair) → Grown ds ds' → Draws ts ds u p → Draws ts ds' u p
pair_more ts ds ds' u p g h = record { yes = draws_more ts ds ds' (truth_of u) p.truth g h.yes; no = draws_more ts ds ds' (negation_form u) p.negation g h.no; is = h.is }

pub each_more : (ts : List Term) (ds ds' : List SketchNode) (us : List Unfolded) (ps : List Pair) → Grown ds ds' → DrawsEach ts ds us ps → DrawsEach ts ds' us ps
each_more ts ds ds' [] [] g h = tt
each_more ts ds ds' (u ∷ us) (p ∷ ps) g h = (pair_more ts ds ds' u p g h.0, each_more ts ds ds' us ps g h.1)
each_more ts ds ds' [] (p ∷ ps) g h = elim h [ ]
each_more ts ds ds' (u ∷ us) [] g h = elim h [ ]

-- ---- a node at the end

order-end : (n : ℕ) (ds : List SketchNode) (d : SketchNode) → IsTrue (sketch_in_order n ds) → IsTrue (sketch_after (n + length ds) d) → IsTrue (sketch_in_order n (ds ++ (d ∷ [])))
order-end n [] d o h = let e : n + 0 ≡ n = omega arith in both_pass (sketch_after n d) true (subst (λ (j : ℕ). IsTrue (sketch_after j d)) e h) refl
order-end n (x ∷ ds) d o h = let b = both_true (sketch_after n x) (sketch_in_order (suc n) ds) o in
    let e : n + suc (length ds) ≡ suc n + length ds = omega arith in
    both_pass (sketch_after n x) (sketch_in_order (suc n) (ds ++ (d ∷ []))) b.0 (order-end (suc n) ds d b.1 (subst (λ (j : ℕ). IsTrue (sketch_after j d)) e h))

-- what stands in the longer list stood in the shorter one, or is the last
at-end : (ds : List SketchNode) (d : SketchNode) (k : ℕ) (x : SketchNode) → slice_get (ds ++ (d ∷ [])) k ≡ Some x → (slice_get ds k ≡ Some x) ⊎ (d ≡ x)
at-end [] d zero x h = inr cc
at-end [] d (suc k) x h = cc
at-end (y ∷ ds) d zero x h = inl h
at-end (y ∷ ds) d (suc k) x h = at-end ds d k x h

pub sketch_end : (m : BuilderModel) (ds : List SketchNode) (d : SketchNode) → IsSketch m ds → IsTrue (sketch_after (length ds) d) → IsDrawn m d → IsSketch m (ds ++ (d ∷ []))
sketch_end m ds d s o h = record {
  ordered = let e : length ds ≡ 0 + length ds = omega arith in order-end 0 ds d s.ordered (subst (λ (j : ℕ). IsTrue (sketch_after j d)) e o);
  drawn = λ k x at. elim (at-end ds d k x at) [ inl there ↦ s.drawn k x there | inr same ↦ subst (λ (y : SketchNode). IsDrawn m y) same h ];
}

-- the form of the last node, where each drawing says so
end-draws : (ts : List Term) (ds : List SketchNode) (d : SketchNode) (f : Form Comparison) →
    ((ts' : List Term) (more : List SketchNode) (fs : List (Form Comparison)) → IsDrawing (ts ++ ts') (ds ++ more) fs → sketch_form (ts ++ ts') fs d ≡ f) → DrawsForm ts (ds ++ (d ∷ [])) f (length ds)
end-draws ts ds d f h = record {
  below = let e : length (ds ++ (d ∷ [])) ≡ length ds + 1 = length-append ds (d ∷ []) in omega (arith, e);
  form = λ ts' more fs w. w.forms (length ds) d (ap (λ x. slice_get x (length ds)) (append_assoc ds (d ∷ []) more) ∙ first ds d more)
      ∙ h ts' ((d ∷ []) ++ more) fs (subst (λ (x : List SketchNode). IsDrawing (ts ++ ts') x fs) (append_assoc ds (d ∷ []) more) w);
}
  where
    first : (xs : List SketchNode) (x : SketchNode) (ys : List SketchNode) → slice_get (xs ++ (x ∷ ys)) (length xs) ≡ Some x
    first [] x ys = refl
    first (y ∷ xs) x ys = first xs x ys

-- the sketch with this node at its end
pub added : (m : BuilderModel) (ts : List Term) (ds ds' : List SketchNode) (d : SketchNode) (f : Form Comparison) (r : Result ℕ AllocError) → IsSketch m ds → NodeDraws m ts ds d f → Adds ds ds' d r → Sketches ds ds' m (DrawsForm ts ds' f) r
added m ts ds ds' d f (Ok k) s n a = record {
  grown = record { more = d ∷ []; is = a.0 };
  sketch = subst (λ (x : List SketchNode). IsSketch m x) (sym a.0) (sketch_end m ds d s n.after n.drawn);
  drawn = subst (λ (x : List SketchNode). DrawsForm ts x f k) (sym a.0) (subst (λ (j : ℕ). DrawsForm ts (ds ++ (d ∷ [])) f j) (sym a.1) (end-draws ts ds d f n.form));
}
added m ts ds ds' d f (Err e) s n a = record {
  grown = record { more = []; is = a ∙ sym (append-nil ds) };
  sketch = subst (λ (x : List SketchNode). IsSketch m x) (sym a) s;
  drawn = tt;
}

is-true : (b : Bool) → T b → IsTrue b
is-true true h = refl
is-true false h = absurd h

lt-true : (a b : ℕ) → a < b → IsTrue (nat_lt a b)
lt-true a b h = is-true (nat_lt a b) (lt→ltb a b h)

-- ---- children

children-below : (ts : List Term) (ds : List SketchNode) (fs : Forms Comparison) (ks : List ℕ) → DrawsForms ts ds fs ks → IsTrue (list_all (λ k. nat_lt k (length ds)) ks)
children-below ts ds no_forms [] h = refl
children-below ts ds (more_forms f fs) (k ∷ ks) h = both_pass (nat_lt k (length ds)) (list_all (λ k. nat_lt k (length ds)) ks) (lt-true k (length ds) h.0.below) (children-below ts ds fs ks h.1)
children-below ts ds no_forms (k ∷ ks) h = elim h [ ]
children-below ts ds (more_forms f fs) [] h = elim h [ ]

children-are : (ts : List Term) (ds : List SketchNode) (gs : Forms Comparison) (ks : List ℕ) → DrawsForms ts ds gs ks → (ts' : List Term) (more : List SketchNode) (fs : List (Form Comparison)) → IsDrawing (ts ++ ts') (ds ++ more) fs →
    sketch_children fs ks ≡ gs
children-are ts ds no_forms [] h ts' more fs w = refl
children-are ts ds (more_forms g gs) (k ∷ ks) h ts' more fs w = ap₂ more_forms (h.0.form ts' more fs w) (children-are ts ds gs ks h.1 ts' more fs w)
children-are ts ds no_forms (k ∷ ks) h ts' more fs w = elim h [ ]
children-are ts ds (more_forms g gs) [] h ts' more fs w = elim h [ ]

pub all_draws : (m : BuilderModel) (ts : List Term) (ds : List SketchNode) (ks : List ℕ) (gs : Forms Comparison) → DrawsForms ts ds gs ks → NodeDraws m ts ds (all_sketch ks) (all_form gs)
all_draws m ts ds ks gs h = record { after = children-below ts ds gs ks h; drawn = tt; form = λ ts' more fs w. ap all_form (children-are ts ds gs ks h ts' more fs w) }

pub any_draws : (m : BuilderModel) (ts : List Term) (ds : List SketchNode) (ks : List ℕ) (gs : Forms Comparison) → DrawsForms ts ds gs ks → NodeDraws m ts ds (any_sketch ks) (any_form gs)
any_draws m ts ds ks gs h = record { after = children-below ts ds gs ks h; drawn = tt; form = λ ts' more fs w. ap any_form (children-are ts ds gs ks h ts' more fs w) }

pub joins_all : (ds ds' : List SketchNode) (a b : ℕ) (r : Result ℕ AllocError) → Adds ds ds' (all_sketch (a ∷ b ∷ [])) r → JoinsTwo all_form ds ds' a b r
joins_all ds ds' a b r h = λ m ts f g s x y. added m ts ds ds' (all_sketch (a ∷ b ∷ [])) (all_form (two f g)) r s (all_draws m ts ds (a ∷ b ∷ []) (two f g) (x, (y, tt))) h

pub joins_any : (ds ds' : List SketchNode) (a b : ℕ) (r : Result ℕ AllocError) → Adds ds ds' (any_sketch (a ∷ b ∷ [])) r → JoinsTwo any_form ds ds' a b r
joins_any ds ds' a b r h = λ m ts f g s x y. added m ts ds ds' (any_sketch (a ∷ b ∷ [])) (any_form (two f g)) r s (any_draws m ts ds (a ∷ b ∷ []) (two f g) (x, (y, tt))) h

-- ---- pairs

pub truths_draw : (ts : List Term) (ds : List SketchNode) (us : List Unfolded) (ps : List Pair) → DrawsEach ts ds us ps → DrawsForms ts ds (forms_of truth_of us) (map (λ (p : Pair). p.truth) ps)
truths_draw ts ds [] [] h = tt
truths_draw ts ds (u ∷ us) (p ∷ ps) h = (h.0.yes, truths_draw ts ds us ps h.1)
truths_draw ts ds [] (p ∷ ps) h = elim h [ ]
truths_draw ts ds (u ∷ us) [] h = elim h [ ]

pub negations_draw : (ts : List Term) (ds : List SketchNode) (us : List Unfolded) (ps : List Pair) → DrawsEach ts ds us ps → DrawsForms ts ds (forms_of negation_form us) (map (λ (p : Pair). p.negation) ps)
negations_draw ts ds [] [] h = tt
negations_draw ts ds (u ∷ us) (p ∷ ps) h = (h.0.no, negations_draw ts ds us ps h.1)
negations_draw ts ds [] (p ∷ ps) h = elim h [ ]
negations_draw ts ds (u ∷ us) [] h = elim h [ ]

-- ---- one after another

-- memory is wanting, and the sketch may be longer
pub ended : {X : Type 0} (ds ds' : List SketchNode) (m : BuilderModel) (P : X → Type 0) (r : Result X AllocError) → IsErr r → Grown ds ds' → IsSketch m ds' → Sketches ds ds' m P r
ended ds ds' m P (Err e) h g s = record { grown = g; sketch = s; drawn = tt }
ended ds ds' m P (Ok x) h g s = cc

pub unchanged : {X : Type 0} (ds : List SketchNode) (m : BuilderModel) (P : X → Type 0) (r : Result X AllocError) → IsErr r → IsSketch m ds → Sketches ds ds m P r
unchanged ds m P r h s = ended ds ds m P r h (grown_self ds) s

-- two nodes, one after the other
pub pair_drawn : (m : BuilderModel) (ts : List Term) (ds a b : List SketchNode) (f g : Form Comparison) (p : Pair) (r r' : Result ℕ AllocError) → r ≡ Ok p.truth → r' ≡ Ok p.negation → Sketches ds a m (DrawsForm ts a f) r → Sketches a b m (DrawsForm ts b g) r' →
    Sketches ds b m (Draws ts b (formula f g)) (Ok p)
pair_drawn m ts ds a b f g p r r' e e' x y = record {
  grown = grown_both ds a b x.grown y.grown;
  sketch = y.sketch;
  drawn = record {
    yes = draws_more ts a b f p.truth y.grown (subst (λ (z : Result ℕ AllocError). IfOk z (DrawsForm ts a f)) e x.drawn);
    no = subst (λ (z : Result ℕ AllocError). IfOk z (DrawsForm ts b g)) e' y.drawn;
    is = refl;
  };
}

-- ---- nodes that come later

all-below : (ks : List ℕ) (a b : ℕ) → a ≤ b → IsTrue (list_all (λ k. nat_lt k a) ks) → IsTrue (list_all (λ k. nat_lt k b) ks)
all-below [] a b l h = refl
all-below (k ∷ ks) a b l h = let o = both_true (nat_lt k a) (list_all (λ k. nat_lt k a) ks) h in
    let less : k < a = ltb→lt k a (passes _ o.0) in
    both_pass (nat_lt k b) (list_all (λ k. nat_lt k b) ks) (lt-true k b (omega (arith, l, less))) (all-below ks a b l o.1)

after-more : (d : SketchNode) (a b : ℕ) → a ≤ b → IsTrue (sketch_after a d) → IsTrue (sketch_after b d)
after-more (all_sketch ks) a b l h = all-below ks a b l h
after-more (any_sketch ks) a b l h = all-below ks a b l h
after-more yes_sketch a b l h = refl
after-more no_sketch a b l h = refl
after-more (comparison_sketch at i j kind) a b l h = refl
after-more (bool_sketch axis v) a b l h = refl
after-more (choice_sketch p x y) a b l h = refl
after-more (equal_sketch at ks) a b l h = refl
after-more (crowd_sketch v ks) a b l h = all-below ks a b l h

node_more : (m : BuilderModel) (ts : List Term) (ds ds' : List SketchNode) (d : SketchNode) (f : Form Comparison) → Grown ds ds' → NodeDraws m ts ds d f → NodeDraws m ts ds' d f
node_more m ts ds ds' d f g n = record {
  after = let e : length ds' ≡ length ds + length g.more = ap length g.is ∙ length-append ds g.more in after-more d (length ds) (length ds') (omega (arith, e)) n.after;
  drawn = n.drawn;
  form = λ ts' more fs w. n.form ts' (g.more ++ more) fs (subst (λ (x : List SketchNode). IsDrawing (ts ++ ts') x fs) (ap (λ x. x ++ more) g.is ∙ append_assoc ds g.more more) w);
}

pub adds_first : (ds a : List SketchNode) (d e : SketchNode) (r : Result ℕ AllocError) (r' : Result Pair AllocError) → IsErr r' → (x : AllocError) → r ≡ Err x → Adds ds a d r → AddsPair ds a d e r'
adds_first ds a d e r r' h x is n = λ m ts f g s p q. let one = added m ts ds a d f r s p n in ended ds a m (Draws ts a (formula f g)) r' h one.grown one.sketch

pub adds_second : (ds a b : List SketchNode) (d e : SketchNode) (r r' : Result ℕ AllocError) (r'' : Result Pair AllocError) → IsErr r'' → Adds ds a d r → Adds a b e r' → AddsPair ds b d e r''
adds_second ds a b d e r r' r'' h n n' = λ m ts f g s p q. let one = added m ts ds a d f r s p n in let next = added m ts a b e g r' one.sketch (node_more m ts ds a e g one.grown q) n' in
    ended ds b m (Draws ts b (formula f g)) r'' h (grown_both ds a b one.grown next.grown) next.sketch

pub adds_both : (ds a b : List SketchNode) (d e : SketchNode) (k j : ℕ) → Adds ds a d (Ok k) → Adds a b e (Ok j) → AddsPair ds b d e (Ok (record { truth = k; negation = j }))
adds_both ds a b d e k j n n' = λ m ts f g s p q. let one = added m ts ds a d f (Ok k) s p n in let next = added m ts a b e g (Ok j) one.sketch (node_more m ts ds a e g one.grown q) n' in
    pair_drawn m ts ds a b f g (record { truth = k; negation = j }) (Ok k) (Ok j) refl refl one next

pub adds_all : (ds ds' : List SketchNode) (ps : List Pair) (ks js : List ℕ) (r : Result Pair AllocError) → ks ≡ map (λ (p : Pair). p.truth) ps → js ≡ map (λ (p : Pair). p.negation) ps → AddsPair ds ds' (all_sketch ks) (any_sketch js) r →
    Connects and_of ds ds' ps r
adds_all ds ds' ps ks js r e e' h = λ m ts us s each. h m ts (all_form (forms_of truth_of us)) (any_form (forms_of negation_form us)) s
    (all_draws m ts ds ks (forms_of truth_of us) (subst (λ (x : List ℕ). DrawsForms ts ds (forms_of truth_of us) x) (sym e) (truths_draw ts ds us ps each)))
    (any_draws m ts ds js (forms_of negation_form us) (subst (λ (x : List ℕ). DrawsForms ts ds (forms_of negation_form us) x) (sym e') (negations_draw ts ds us ps each)))

pub adds_any : (ds ds' : List SketchNode) (ps : List Pair) (ks js : List ℕ) (r : Result Pair AllocError) → ks ≡ map (λ (p : Pair). p.truth) ps → js ≡ map (λ (p : Pair). p.negation) ps → AddsPair ds ds' (any_sketch ks) (all_sketch js) r →
    Connects or_of ds ds' ps r
adds_any ds ds' ps ks js r e e' h = λ m ts us s each. h m ts (any_form (forms_of truth_of us)) (all_form (forms_of negation_form us)) s
    (any_draws m ts ds ks (forms_of truth_of us) (subst (λ (x : List ℕ). DrawsForms ts ds (forms_of truth_of us) x) (sym e) (truths_draw ts ds us ps each)))
    (all_draws m ts ds js (forms_of negation_form us) (subst (λ (x : List ℕ). DrawsForms ts ds (forms_of negation_form us) x) (sym e') (negations_draw ts ds us ps each)))

pub adds_implies : (ds ds' : List SketchNode) (p q : Pair) (r : Result Pair AllocError) → AddsPair ds ds' (any_sketch (p.negation ∷ q.truth ∷ [])) (all_sketch (p.truth ∷ q.negation ∷ [])) r → ConnectsTwo implies_two ds ds' p q r
adds_implies ds ds' p q r h = λ m ts u v s x y. h m ts (any_form (two (negation_form u) (truth_of v))) (all_form (two (truth_of u) (negation_form v))) s
    (any_draws m ts ds (p.negation ∷ q.truth ∷ []) (two (negation_form u) (truth_of v)) (x.no, (y.yes, tt)))
    (all_draws m ts ds (p.truth ∷ q.negation ∷ []) (two (truth_of u) (negation_form v)) (x.yes, (y.no, tt)))

-- ---- nodes without children

yes-draws : (m : BuilderModel) (ts : List Term) (ds : List SketchNode) → NodeDraws m ts ds yes_sketch yes_form
yes-draws m ts ds = record { after = refl; drawn = tt; form = λ ts' more fs w. refl }

no-draws : (m : BuilderModel) (ts : List Term) (ds : List SketchNode) → NodeDraws m ts ds no_sketch no_form
no-draws m ts ds = record { after = refl; drawn = tt; form = λ ts' more fs w. refl }

bool-draws : (m : BuilderModel) (ts : List Term) (ds : List SketchNode) (axis : ℕ) (v : Bool) → HasSort bool_sort m.sorts axis → NodeDraws m ts ds (bool_sketch axis v) (bool_is axis v)
bool-draws m ts ds axis v h = record { after = refl; drawn = h; form = λ ts' more fs w. refl }

compare-draws : (m : BuilderModel) (ts : List Term) (ds : List SketchNode) (at : Place) (i j : ℕ) (kind : Kind) → i < length ts → j < length ts → length ts ≤ length m.nodes → NodeDraws m ts ds (comparison_sketch at i j kind) (atom_is (comparison_of ts at i j kind))
compare-draws m ts ds at i j kind h k l = record {
  after = refl;
  drawn = (omega (arith, h, l), omega (arith, k, l));
  form = λ ts' more fs w. ap₂ (λ (a b : Term). atom_is (record { at = at; left = a; right = b; kind = kind })) (index_before ts ts' i (constant zero_fraction) h) (index_before ts ts' j (constant zero_fraction) k);
}

pub writes_true : (ds ds' : List SketchNode) (r : Result Pair AllocError) → AddsPair ds ds' yes_sketch no_sketch r → Writes (constant_formula true) ds ds' r
writes_true ds ds' r h = λ m ts s. h m ts yes_form no_form s (yes-draws m ts ds) (no-draws m ts ds)

pub writes_false : (ds ds' : List SketchNode) (r : Result Pair AllocError) → AddsPair ds ds' no_sketch yes_sketch r → Writes (constant_formula false) ds ds' r
writes_false ds ds' r h = λ m ts s. h m ts no_form yes_form s (no-draws m ts ds) (yes-draws m ts ds)

pub writes_bool : (ds ds' : List SketchNode) (axis : ℕ) (r : Result Pair AllocError) → AddsPair ds ds' (bool_sketch axis true) (bool_sketch axis false) r → WritesBool axis ds ds' r
writes_bool ds ds' axis r h = λ m ts s b. h m ts (bool_is axis true) (bool_is axis false) s (bool-draws m ts ds axis true b) (bool-draws m ts ds axis false b)

pub compares_most : (ds ds' : List SketchNode) (at : Place) (i j : ℕ) (r : Result Pair AllocError) → AddsPair ds ds' (comparison_sketch at i j le) (comparison_sketch at i j ge) r → ComparesTwo le at ds ds' i j r
compares_most ds ds' at i j r h = λ m ts s a b l. h m ts (atom_is (comparison_of ts at i j le)) (atom_is (comparison_of ts at i j ge)) s (compare-draws m ts ds at i j le a b l) (compare-draws m ts ds at i j ge a b l)

pub compares_least : (ds ds' : List SketchNode) (at : Place) (i j : ℕ) (r : Result Pair AllocError) → AddsPair ds ds' (comparison_sketch at i j ge) (comparison_sketch at i j le) r → ComparesTwo ge at ds ds' i j r
compares_least ds ds' at i j r h = λ m ts s a b l. h m ts (atom_is (comparison_of ts at i j ge)) (atom_is (comparison_of ts at i j le)) s (compare-draws m ts ds at i j ge a b l) (compare-draws m ts ds at i j le a b l)

pub compares_equal : (ds ds' : List SketchNode) (at : Place) (i j : ℕ) (r : Result Pair AllocError) → AddsPair ds ds' (comparison_sketch at i j eq) yes_sketch r → ComparesTwo eq at ds ds' i j r
compares_equal ds ds' at i j r h = λ m ts s a b l. h m ts (atom_is (comparison_of ts at i j eq)) yes_form s (compare-draws m ts ds at i j eq a b l) (yes-draws m ts ds)

-- ---- nodes over nodes

pub later : {X : Type 0} (ds a b : List SketchNode) (m : BuilderModel) (P : X → Type 0) (r : Result X AllocError) → Grown ds a → Sketches a b m P r → Sketches ds b m P r
later ds a b m P r g s = record { grown = grown_both ds a b g s.grown; sketch = s.sketch; drawn = s.drawn }

pub four_first : (ds e : List SketchNode) (a b c d : ℕ) (x : AllocError) (r : Result ℕ AllocError) → IsErr r → JoinsTwo all_form ds e a b (Err x) → JoinsFour ds e a b c d r
four_first ds e a b c d x r h j = λ m ts f g k l s df dg dk dl. let one = j m ts f g s df dg in ended ds e m (DrawsForm ts e (any_form (two (all_form (two f g)) (all_form (two k l))))) r h one.grown one.sketch

pub four_second : (ds e e' : List SketchNode) (a b c d i : ℕ) (x : AllocError) (r : Result ℕ AllocError) → IsErr r → JoinsTwo all_form ds e a b (Ok i) → JoinsTwo all_form e e' c d (Err x) → JoinsFour ds e' a b c d r
four_second ds e e' a b c d i x r h j j' = λ m ts f g k l s df dg dk dl. let one = j m ts f g s df dg in
    let next = j' m ts k l one.sketch (draws_more ts ds e k c one.grown dk) (draws_more ts ds e l d one.grown dl) in
    ended ds e' m (DrawsForm ts e' (any_form (two (all_form (two f g)) (all_form (two k l))))) r h (grown_both ds e e' one.grown next.grown) next.sketch

pub four_last : (ds e e' e'' : List SketchNode) (a b c d i j : ℕ) (r : Result ℕ AllocError) → JoinsTwo all_form ds e a b (Ok i) → JoinsTwo all_form e e' c d (Ok j) → JoinsTwo any_form e' e'' i j r → JoinsFour ds e'' a b c d r
four_last ds e e' e'' a b c d i j r h h' h'' = λ m ts f g k l s df dg dk dl. let one = h m ts f g s df dg in
    let next = h' m ts k l one.sketch (draws_more ts ds e k c one.grown dk) (draws_more ts ds e l d one.grown dl) in
    later ds e' e'' m (DrawsForm ts e'' (any_form (two (all_form (two f g)) (all_form (two k l))))) r (grown_both ds e e' one.grown next.grown)
    (h'' m ts (all_form (two f g)) (all_form (two k l)) next.sketch (draws_more ts e e' (all_form (two f g)) i next.grown one.drawn) next.drawn)

pub choice_first : (ds e : List SketchNode) (o p q : Pair) (x : AllocError) (r : Result Pair AllocError) → IsErr r → JoinsFour ds e o.truth p.truth o.negation q.truth (Err x) → ConnectsChoice ds e o p q r
choice_first ds e o p q x r h j = λ m ts c u v s dc du dv. let one = j m ts (truth_of c) (truth_of u) (negation_form c) (truth_of v) s dc.yes du.yes dc.no dv.yes in
    ended ds e m (Draws ts e (choice_form (c ∷ u ∷ v ∷ []))) r h one.grown one.sketch

pub choice_second : (ds e e' : List SketchNode) (o p q : Pair) (k : ℕ) (x : AllocError) (r : Result Pair AllocError) → IsErr r → JoinsFour ds e o.truth p.truth o.negation q.truth (Ok k) → JoinsFour e e' o.truth p.negation o.negation q.negation (Err x) → ConnectsChoice ds e' o p q r
choice_second ds e e' o p q k x r h j j' = λ m ts c u v s dc du dv. let one = j m ts (truth_of c) (truth_of u) (negation_form c) (truth_of v) s dc.yes du.yes dc.no dv.yes in
    let g = one.grown in
    let next = j' m ts (truth_of c) (negation_form u) (negation_form c) (negation_form v) one.sketch (pair_more ts ds e c o g dc).yes (pair_more ts ds e u p g du).no (pair_more ts ds e c o g dc).no (pair_more ts ds e v q g dv).no in
    ended ds e' m (Draws ts e' (choice_form (c ∷ u ∷ v ∷ []))) r h (grown_both ds e e' g next.grown) next.sketch

pub choice_done : (ds e e' : List SketchNode) (o p q : Pair) (k l : ℕ) → JoinsFour ds e o.truth p.truth o.negation q.truth (Ok k) → JoinsFour e e' o.truth p.negation o.negation q.negation (Ok l) → ConnectsChoice ds e' o p q (Ok (record { truth = k; negation = l }))
choice_done ds e e' o p q k l j j' = λ m ts c u v s dc du dv. let one = j m ts (truth_of c) (truth_of u) (negation_form c) (truth_of v) s dc.yes du.yes dc.no dv.yes in
    let g = one.grown in
    let next = j' m ts (truth_of c) (negation_form u) (negation_form c) (negation_form v) one.sketch (pair_more ts ds e c o g dc).yes (pair_more ts ds e u p g du).no (pair_more ts ds e c o g dc).no (pair_more ts ds e v q g dv).no in
    pair_drawn m ts ds e e' (truth_of (choice_form (c ∷ u ∷ v ∷ []))) (negation_form (choice_form (c ∷ u ∷ v ∷ []))) (record { truth = k; negation = l }) (Ok k) (Ok l) refl refl one next

pub not_draws : (ts : List Term) (ds : List SketchNode) (u : Unfolded) (p q : Pair) → q ≡ record { truth = p.negation; negation = p.truth } → Draws ts ds u p → Draws ts ds (not_of u) q
not_draws ts ds u p q e h = let opposite : Pair = record { truth = p.negation; negation = p.truth } in
    let d : Draws ts ds (not_of u) opposite = record { yes = h.no; no = h.yes; is = refl } in subst (λ (x : Pair). Draws ts ds (not_of u) x) (sym e) d

-- of two, one alone: where the first holds, the negation of the second, else the second
pub exclusive_done : (ds e : List SketchNode) (p q n : Pair) (r : Result Pair AllocError) → n ≡ record { truth = q.negation; negation = q.truth } → ConnectsChoice ds e p n q r → ConnectsTwo xor_of ds e p q r
exclusive_done ds e p q n r is h = λ m ts u v s x y. h m ts u (not_of v) v s x (not_draws ts ds v q n is y) y

-- ---- from the left

pub left_begun : (op : Unfolded → List Unfolded → Unfolded) (ds : List SketchNode) (p : Pair) (ps : List Pair) → IsLeft op ds ds p ps p ps
left_begun op ds p ps = λ m ts u us s x each. record { grown = grown_self ds; sketch = s; first = u; rest = us; now = x; next = each; same = refl }

step-of : (ds e e' : List SketchNode) (m : BuilderModel) (ts : List Term) (w first : Unfolded) (rest : List Unfolded) (q q' n : Pair) (qs : List Pair) → Grown ds e → IsSketch m e → Draws ts e first q → DrawsEach ts e rest (n ∷ qs) → xor_from first rest ≡ w →
    ConnectsTwo xor_of e e' q n (Ok q') → Left xor_from w m ts ds e' q' qs
step-of ds e e' m ts w first (v ∷ rest) q q' n qs g s x each same h = let one = h m ts first v s x each.0 in
    record { grown = grown_both ds e e' g one.grown; sketch = one.sketch; first = xor_of first v; rest = rest; now = one.drawn; next = each_more ts e e' rest qs one.grown each.1; same = same }
step-of ds e e' m ts w first [] q q' n qs g s x each same h = elim each [ ]

pub left_step : (ds e e' : List SketchNode) (p : Pair) (ps : List Pair) (q q' n : Pair) (qs : List Pair) → IsLeft xor_from ds e p ps q (n ∷ qs) → ConnectsTwo xor_of e e' q n (Ok q') → IsLeft xor_from ds e' p ps q' qs
left_step ds e e' p ps q q' n qs l h = λ m ts u us s x each. let k = l m ts u us s x each in step-of ds e e' m ts (xor_from u us) k.first k.rest q q' n qs k.grown k.sketch k.now k.next k.same h

stop-of : (ds e e' : List SketchNode) (m : BuilderModel) (ts : List Term) (w first : Unfolded) (rest : List Unfolded) (q n : Pair) (qs : List Pair) (x : AllocError) (r : Result Pair AllocError) → IsErr r → Grown ds e → IsSketch m e → Draws ts e first q → DrawsEach ts e rest (n ∷ qs) →
    ConnectsTwo xor_of e e' q n (Err x) → Sketches ds e' m (Draws ts e' w) r
stop-of ds e e' m ts w first (v ∷ rest) q n qs x r is g s d each h = let one = h m ts first v s d each.0 in ended ds e' m (Draws ts e' w) r is (grown_both ds e e' g one.grown) one.sketch
stop-of ds e e' m ts w first [] q n qs x r is g s d each h = elim each [ ]

pub left_stopped : (ds e e' : List SketchNode) (p : Pair) (ps : List Pair) (q n : Pair) (qs : List Pair) (x : AllocError) (r : Result Pair AllocError) → IsErr r → IsLeft xor_from ds e p ps q (n ∷ qs) → ConnectsTwo xor_of e e' q n (Err x) → ConnectsFrom xor_from ds e' p ps r
left_stopped ds e e' p ps q n qs x r is l h = λ m ts u us s d each. let k = l m ts u us s d each in stop-of ds e e' m ts (xor_from u us) k.first k.rest q n qs x r is k.grown k.sketch k.now k.next h

done-of : (ds e : List SketchNode) (m : BuilderModel) (ts : List Term) (w first : Unfolded) (rest : List Unfolded) (q : Pair) → Grown ds e → IsSketch m e → Draws ts e first q → DrawsEach ts e rest [] → xor_from first rest ≡ w → Sketches ds e m (Draws ts e w) (Ok q)
done-of ds e m ts w first [] q g s d each same = record { grown = g; sketch = s; drawn = subst (λ (x : Unfolded). Draws ts e x q) same d }
done-of ds e m ts w first (v ∷ rest) q g s d each same = elim each [ ]

pub left_done : (ds e : List SketchNode) (p : Pair) (ps : List Pair) (q : Pair) → IsLeft xor_from ds e p ps q [] → ConnectsFrom xor_from ds e p ps (Ok q)
left_done ds e p ps q l = λ m ts u us s d each. let k = l m ts u us s d each in done-of ds e m ts (xor_from u us) k.first k.rest q k.grown k.sketch k.now k.next k.same

each-first : (ds e : List SketchNode) (m : BuilderModel) (ts : List Term) (us : List Unfolded) (p : Pair) (ps : List Pair) (r : Result Pair AllocError) → IsSketch m ds → DrawsEach ts ds us (p ∷ ps) → ConnectsFrom xor_from ds e p ps r → Sketches ds e m (Draws ts e (xor_all us)) r
each-first ds e m ts (u ∷ us) p ps r s each h = h m ts u us s each.0 each.1
each-first ds e m ts [] p ps r s each h = elim each [ ]

pub exclusive_all : (ds e : List SketchNode) (p : Pair) (ps : List Pair) (r : Result Pair AllocError) → ConnectsFrom xor_from ds e p ps r → Connects xor_all ds e (p ∷ ps) r
exclusive_all ds e p ps r h = λ m ts us s each. each-first ds e m ts us p ps r s each h

each-none : (ds e : List SketchNode) (m : BuilderModel) (ts : List Term) (us : List Unfolded) (r : Result Pair AllocError) → IsSketch m ds → DrawsEach ts ds us [] → Writes (constant_formula true) ds e r → Sketches ds e m (Draws ts e (xor_all us)) r
each-none ds e m ts [] r s each h = h m ts s
each-none ds e m ts (u ∷ us) r s each h = elim each [ ]

pub exclusive_none : (ds e : List SketchNode) (r : Result Pair AllocError) → Writes (constant_formula true) ds e r → Connects xor_all ds e [] r
exclusive_none ds e r h = λ m ts us s each. each-none ds e m ts us r s each h

drop-at : (ps : List Pair) (i : ℕ) (d : Pair) → i < length ps → drop i ps ≡ slice_index_or ps i d ∷ drop (suc i) ps
drop-at [] i d h = absurd (omega (arith, h))
drop-at (p ∷ ps) zero d h = refl
drop-at (p ∷ ps) (suc i) d h = drop-at ps i d (omega (arith, h))

drop-past : (ps : List Pair) (i : ℕ) → length ps ≤ i → drop i ps ≡ []
drop-past [] zero h = refl
drop-past [] (suc i) h = refl
drop-past (p ∷ ps) zero h = absurd (omega (arith, h))
drop-past (p ∷ ps) (suc i) h = drop-past ps i (omega (arith, h))

pub stopped_at : (ds e e' : List SketchNode) (p : Pair) (ps : List Pair) (q : Pair) (i : ℕ) (d : Pair) (x : AllocError) (r : Result Pair AllocError) → i < length ps → IsErr r → IsLeft xor_from ds e p ps q (drop i ps) →
    ConnectsTwo xor_of e e' q (slice_index_or ps i d) (Err x) → ConnectsFrom xor_from ds e' p ps r
stopped_at ds e e' p ps q i d x r less is l h = left_stopped ds e e' p ps q (slice_index_or ps i d) (drop (suc i) ps) x r is (subst (λ (qs : List Pair). IsLeft xor_from ds e p ps q qs) (drop-at ps i d less) l) h

pub step_at : (ds e e' : List SketchNode) (p : Pair) (ps : List Pair) (q q' : Pair) (i : ℕ) (d : Pair) → i < length ps → IsLeft xor_from ds e p ps q (drop i ps) → ConnectsTwo xor_of e e' q (slice_index_or ps i d) (Ok q') → IsLeft xor_from ds e' p ps q' (drop (i + 1) ps)
step_at ds e e' p ps q q' i d less l h = let one : suc i ≡ i + 1 = omega arith in subst (λ (j : ℕ). IsLeft xor_from ds e' p ps q' (drop j ps)) one
    (left_step ds e e' p ps q q' (slice_index_or ps i d) (drop (suc i) ps) (subst (λ (qs : List Pair). IsLeft xor_from ds e p ps q qs) (drop-at ps i d less) l) h)

pub done_at : (ds e : List SketchNode) (p : Pair) (ps : List Pair) (q : Pair) (i : ℕ) → length ps ≤ i → IsLeft xor_from ds e p ps q (drop i ps) → ConnectsFrom xor_from ds e p ps (Ok q)
done_at ds e p ps q i past l = left_done ds e p ps q (subst (λ (qs : List Pair). IsLeft xor_from ds e p ps q qs) (drop-past ps i past) l)

-- ---- a chain

chain-one : (ds : List SketchNode) (m : BuilderModel) (ts : List Term) (us : List Unfolded) (ps : List Pair) (d : Pair) → length ps ≡ 1 → IsSketch m ds → DrawsEach ts ds us ps → Sketches ds ds m (Draws ts ds (chain us)) (Ok (slice_index_or ps 0 d))
chain-one ds m ts (u ∷ []) (p ∷ []) d h s each = record { grown = grown_self ds; sketch = s; drawn = each.0 }
chain-one ds m ts (u ∷ v ∷ us) (p ∷ []) d h s each = elim each.1 [ ]
chain-one ds m ts [] (p ∷ []) d h s each = elim each [ ]
chain-one ds m ts us [] d h s each = absurd (omega (arith, h))
chain-one ds m ts us (p ∷ q ∷ ps) d h s each = absurd (omega (arith, h))

pub chain_one : (ds : List SketchNode) (ps : List Pair) (d : Pair) → length ps ≡ 1 → Connects chain ds ds ps (Ok (slice_index_or ps 0 d))
chain_one ds ps d h = λ m ts us s each. chain-one ds m ts us ps d h s each

chain-more : (ds : List SketchNode) (ts : List Term) (us : List Unfolded) (ps : List Pair) → (length ps ≡ 1 → ⊥) → DrawsEach ts ds us ps → and_of us ≡ chain us
chain-more ds ts [] ps h each = refl
chain-more ds ts (u ∷ v ∷ us) ps h each = refl
chain-more ds ts (u ∷ []) (p ∷ []) h each = absurd (h refl)
chain-more ds ts (u ∷ []) (p ∷ q ∷ ps) h each = elim each.1 [ ]
chain-more ds ts (u ∷ []) [] h each = elim each [ ]

pub chain_more : (ds e : List SketchNode) (ps : List Pair) (r : Result Pair AllocError) → (length ps ≡ 1 → ⊥) → Connects and_of ds e ps r → Connects chain ds e ps r
chain_more ds e ps r h k = λ m ts us s each. subst (λ (u : Unfolded). Sketches ds e m (Draws ts e u) r) (chain-more ds ts us ps h each) (k m ts us s each)

pub none_of : (ps : List Pair) → length ps ≡ 0 → ps ≡ []
none_of [] h = refl
none_of (p ∷ ps) h = absurd (omega (arith, h))

-- ---- from the right

implies-more : (v u : Unfolded) (us : List Unfolded) → implies_two v (implies_of (us ++ (u ∷ []))) ≡ implies_of (v ∷ (us ++ (u ∷ [])))
implies-more v u [] = refl
implies-more v u (w ∷ us) = refl

record At (ts : List Term) (ds : List SketchNode) (us : List Unfolded) (p : Pair) (j : ℕ) : Type 0 where
  it : Unfolded
  next : drop j us ≡ it ∷ drop (suc j) us
  draws : Draws ts ds it p

each-at : (ts : List Term) (ds : List SketchNode) (us : List Unfolded) (ps : List Pair) (j : ℕ) (d : Pair) → DrawsEach ts ds us ps → j < length ps → At ts ds us (slice_index_or ps j d) j
each-at ts ds us [] j d each h = absurd (omega (arith, h))
each-at ts ds [] (p ∷ ps) j d each h = elim each [ ]
each-at ts ds (u ∷ us) (p ∷ ps) zero d each h = record { it = u; next = refl; draws = each.0 }
each-at ts ds (u ∷ us) (p ∷ ps) (suc j) d each h = let a = each-at ts ds us ps j d each.1 (omega (arith, h)) in record { it = a.it; next = a.next; draws = a.draws }

drop-all : (ts : List Term) (ds : List SketchNode) (us : List Unfolded) (ps : List Pair) → DrawsEach ts ds us ps → drop (length ps) us ≡ []
drop-all ts ds [] [] each = refl
drop-all ts ds (u ∷ us) (p ∷ ps) each = drop-all ts ds us ps each.1
drop-all ts ds [] (p ∷ ps) each = elim each [ ]
drop-all ts ds (u ∷ us) [] each = elim each [ ]

pub right_begun : (ds : List SketchNode) (p : Pair) (ps : List Pair) (k : ℕ) → k ≡ length ps → IsRight ds ds p ps p k
right_begun ds p ps k e = λ m ts u us s x each. record {
  grown = grown_self ds;
  sketch = s;
  drawn = subst (λ (vs : List Unfolded). Draws ts ds (implies_of (vs ++ (u ∷ []))) p) (sym (ap (λ j. drop j us) e ∙ drop-all ts ds us ps each)) x;
}

pub right_step : (ds e e' : List SketchNode) (p : Pair) (ps : List Pair) (q q' : Pair) (k k' j : ℕ) (d : Pair) → j < length ps → k ≡ suc j → k' ≡ j → IsRight ds e p ps q k → ConnectsTwo implies_two e e' (slice_index_or ps j d) q (Ok q') → IsRight ds e' p ps q' k'
right_step ds e e' p ps q q' k k' j d less is is' l h = λ m ts u us s x each.
    let z = l m ts u us s x each in
    let a = each-at ts ds us ps j d each less in
    let n = slice_index_or ps j d in
    let one = h m ts a.it (implies_of (drop k us ++ (u ∷ []))) z.sketch (pair_more ts ds e a.it n z.grown a.draws) z.drawn in
    let same : implies_two a.it (implies_of (drop k us ++ (u ∷ []))) ≡ implies_of (drop k' us ++ (u ∷ [])) =
    ap (λ i. implies_two a.it (implies_of (drop i us ++ (u ∷ [])))) is ∙ implies-more a.it u (drop (suc j) us) ∙ ap (λ vs. implies_of (vs ++ (u ∷ []))) (sym a.next) ∙ ap (λ i. implies_of (drop i us ++ (u ∷ []))) (sym is') in
    record { grown = grown_both ds e e' z.grown one.grown; sketch = one.sketch; drawn = subst (λ (w : Unfolded). Draws ts e' w q') same one.drawn }

pub right_stopped : (ds e e' : List SketchNode) (p : Pair) (ps : List Pair) (q : Pair) (k j : ℕ) (d : Pair) (x : AllocError) (r : Result Pair AllocError) → IsErr r → j < length ps → IsRight ds e p ps q k → ConnectsTwo implies_two e e' (slice_index_or ps j d) q (Err x) →
    ImpliesFrom ds e' p ps r
right_stopped ds e e' p ps q k j d x r is less l h = λ m ts u us s y each.
    let z = l m ts u us s y each in
    let a = each-at ts ds us ps j d each less in
    let one = h m ts a.it (implies_of (drop k us ++ (u ∷ []))) z.sketch (pair_more ts ds e a.it (slice_index_or ps j d) z.grown a.draws) z.drawn in
    ended ds e' m (Draws ts e' (implies_of (us ++ (u ∷ [])))) r is (grown_both ds e e' z.grown one.grown) one.sketch

pub right_done : (ds e : List SketchNode) (p : Pair) (ps : List Pair) (q : Pair) (k : ℕ) → k ≡ 0 → IsRight ds e p ps q k → ImpliesFrom ds e p ps (Ok q)
right_done ds e p ps q k is l = λ m ts u us s x each. subst (λ (j : ℕ). Sketches ds e m (Draws ts e (implies_of (drop j us ++ (u ∷ [])))) (Ok q)) is (l m ts u us s x each)

record Ends (ts : List Term) (ds : List SketchNode) (us : List Unfolded) (ps : List Pair) (p : Pair) : Type 0 where
  front : List Unfolded
  last : Unfolded
  is : us ≡ front ++ (last ∷ [])
  each : DrawsEach ts ds front ps
  draws : Draws ts ds last p

each-last : (ts : List Term) (ds : List SketchNode) (us : List Unfolded) (ps : List Pair) (p : Pair) → DrawsEach ts ds us (ps ++ (p ∷ [])) → Ends ts ds us ps p
each-last ts ds [] [] p each = elim each [ ]
each-last ts ds (u ∷ []) [] p each = record { front = []; last = u; is = refl; each = tt; draws = each.0 }
each-last ts ds (u ∷ v ∷ us) [] p each = elim each.1 [ ]
each-last ts ds [] (q ∷ ps) p each = elim each [ ]
each-last ts ds (u ∷ us) (q ∷ ps) p each = let a = each-last ts ds us ps p each.1 in record { front = u ∷ a.front; last = a.last; is = ap (λ vs. u ∷ vs) a.is; each = (each.0, a.each); draws = a.draws }

pub implies_all : (ds e : List SketchNode) (p : Pair) (ps : List Pair) (r : Result Pair AllocError) → ImpliesFrom ds e p ps r → Connects implies_of ds e (ps ++ (p ∷ [])) r
implies_all ds e p ps r h = λ m ts us s each. let a = each-last ts ds us ps p each in
    subst (λ (vs : List Unfolded). Sketches ds e m (Draws ts e (implies_of vs)) r) (sym a.is) (h m ts a.last a.front s a.draws a.each)

none-implies : (ds e : List SketchNode) (m : BuilderModel) (ts : List Term) (us : List Unfolded) (r : Result Pair AllocError) → IsSketch m ds → DrawsEach ts ds us [] → Writes (constant_formula true) ds e r → Sketches ds e m (Draws ts e (implies_of us)) r
none-implies ds e m ts [] r s each h = h m ts s
none-implies ds e m ts (u ∷ us) r s each h = elim each [ ]

pub implies_none : (ds e : List SketchNode) (r : Result Pair AllocError) → Writes (constant_formula true) ds e r → Connects implies_of ds e [] r
implies_none ds e r h = λ m ts us s each. none-implies ds e m ts us r s each h

-- ---- that each two of several trees differ

equal-with : (ts : List Term) (at : Place) (k : ℕ) (ls : List ℕ) (us : List Unfolded) (rest : List (Form Comparison)) → forms_of truth_of us ≡ forms_in rest →
    forms_of truth_of (map (equal_two at (tree_at ts k)) (trees_at ts ls) ++ us) ≡ forms_in (equal_with ts at k ls ++ rest)
equal-with ts at k [] us rest h = h
equal-with ts at k (l ∷ ls) us rest h = ap (more_forms (atom_is (comparison_of ts at k l eq))) (equal-with ts at k ls us rest h)

equal-pairs : (ts : List Term) (at : Place) (ks : List ℕ) → forms_of truth_of (pairs (equal_two at) (trees_at ts ks)) ≡ forms_in (equal_pairs ts at ks)
equal-pairs ts at [] = refl
equal-pairs ts at (k ∷ ks) = equal-with ts at k ks (pairs (equal_two at) (trees_at ts ks)) (equal_pairs ts at ks) (equal-pairs ts at ks)

equal-draws : (m : BuilderModel) (ts : List Term) (ds : List SketchNode) (at : Place) (ks : List ℕ) → IsTrue (list_all (λ k. nat_lt k (length ts)) ks) → length ts ≤ length m.nodes → NodeDraws m ts ds (equal_sketch at ks) (some_equal ts at ks)
equal-draws m ts ds at ks h l = record {
  after = refl;
  drawn = numbers_within (length ts) (length m.nodes) ks l h;
  form = λ ts' more fs w. some_equal_later ts (ts ++ ts') (ts', refl) at ks h;
}

pub adds_different : (ds ds' : List SketchNode) (at : Place) (ks : List ℕ) (r : Result Pair AllocError) → AddsPair ds ds' yes_sketch (equal_sketch at ks) r → DiffersEach at ds ds' ks r
adds_different ds ds' at ks r h = λ m ts s below l.
    subst (λ (fs : Forms Comparison). Sketches ds ds' m (Draws ts ds' (formula yes_form (any_form fs))) r) (sym (equal-pairs ts at ks))
    (h m ts yes_form (some_equal ts at ks) s (yes-draws m ts ds) (equal-draws m ts ds at ks below l))

pub same_done : (ds e : List SketchNode) (p q x n : Pair) → n ≡ record { truth = x.negation; negation = x.truth } → ConnectsTwo xor_of ds e p q (Ok x) → ConnectsTwo same_of ds e p q (Ok n)
same_done ds e p q x n is h = λ m ts u v s a b. let one = h m ts u v s a b in record { grown = one.grown; sketch = one.sketch; drawn = not_draws ts e (xor_of u v) x n is one.drawn }

pub same_stopped : (ds e : List SketchNode) (p q : Pair) (x : AllocError) (r : Result Pair AllocError) → IsErr r → ConnectsTwo xor_of ds e p q (Err x) → ConnectsTwo same_of ds e p q r
same_stopped ds e p q x r is h = λ m ts u v s a b. let one = h m ts u v s a b in ended ds e m (Draws ts e (same_of u v)) r is one.grown one.sketch

-- ---- that each two of many formulas differ

row-are : (ts : List Term) (ds : List SketchNode) (gs : List (Form Comparison)) (ks : List ℕ) → DrawsForms ts ds (forms_in gs) ks → (ts' : List Term) (more : List SketchNode) (fs : List (Form Comparison)) → IsDrawing (ts ++ ts') (ds ++ more) fs →
    sketch_row fs ks ≡ gs
row-are ts ds [] [] h ts' more fs w = refl
row-are ts ds (g ∷ gs) (k ∷ ks) h ts' more fs w = ap₂ (λ (x : Form Comparison) (xs : List (Form Comparison)). x ∷ xs) (h.0.form ts' more fs w) (row-are ts ds gs ks h.1 ts' more fs w)
row-are ts ds [] (k ∷ ks) h ts' more fs w = elim h [ ]
row-are ts ds (g ∷ gs) [] h ts' more fs w = elim h [ ]

crowd-draws : (m : BuilderModel) (ts : List Term) (ds : List SketchNode) (v : Bool) (ks : List ℕ) (gs : List (Form Comparison)) → least_crowd ≤ length ks → DrawsForms ts ds (forms_in gs) ks → NodeDraws m ts ds (crowd_sketch v ks) (crowd v gs)
crowd-draws m ts ds v ks gs long h = record { after = children-below ts ds (forms_in gs) ks h; drawn = long; form = λ ts' more fs w. ap (crowd v) (row-are ts ds gs ks h ts' more fs w) }

sides-are : (f : Unfolded → Form Comparison) (us : List Unfolded) → forms_of f us ≡ forms_in (map f us)
sides-are f [] = refl
sides-are f (u ∷ us) = ap (more_forms (f u)) (sides-are f us)

sides-both : (f : Unfolded → Form Comparison) (us vs : List Unfolded) → forms_in (map f us ++ map f vs) ≡ forms_of f (us ++ vs)
sides-both f [] vs = sym (sides-are f vs)
sides-both f (u ∷ us) vs = ap (more_forms (f u)) (sides-both f us vs)

second-is : (v : Bool) (u w : Unfolded) → second_in v (side v (xor_of u w)) ≡ formula (truth_of w) (negation_form w)
second-is true u w = refl
second-is false u w = refl

seconds-are : (v : Bool) (u : Unfolded) (us : List Unfolded) → map (second_in v) (map (side v) (map (xor_of u) us)) ≡ map (λ w. formula (truth_of w) (negation_form w)) us
seconds-are v u [] = refl
seconds-are v u (w ∷ us) = ap₂ (λ (x : Unfolded) (xs : List Unfolded). x ∷ xs) (second-is v u w) (seconds-are v u us)

crowd-is : (v : Bool) (u : Unfolded) (us : List Unfolded) → AreFormulas us → crowd v (map (side v) (map (xor_of u) us)) ≡ joined_by v (forms_of (side v) (pairs xor_of (u ∷ us)))
crowd-is v u us each = let ls = map (xor_of u) us in
    ap (λ (ws : List Unfolded). joined_by v (forms_in (map (side v) ls ++ map (side v) (pairs xor_of ws)))) (seconds-are v u us ∙ each) ∙ ap (joined_by v) (sides-both (side v) ls (pairs xor_of us))

each-length : (ts : List Term) (ds : List SketchNode) (us : List Unfolded) (ps : List Pair) → DrawsEach ts ds us ps → length ps ≡ length us
each-length ts ds [] [] h = refl
each-length ts ds (u ∷ us) (p ∷ ps) h = ap suc (each-length ts ds us ps h.1)
each-length ts ds [] (p ∷ ps) h = elim h [ ]
each-length ts ds (u ∷ us) [] h = elim h [ ]

pub adds_crowd : (ds ds' : List SketchNode) (ps : List Pair) (ks js : List ℕ) (r : Result Pair AllocError) → ks ≡ map (λ (p : Pair). p.truth) ps → js ≡ map (λ (p : Pair). p.negation) ps → AddsPair ds ds' (crowd_sketch true ks) (crowd_sketch false js) r →
    ConnectsCrowd ds ds' ps r
adds_crowd ds ds' ps ks js r e e' h = λ m ts u us s long are each. let ls = map (xor_of u) us in
    let size : length ps ≡ length us = each-length ts ds ls ps each ∙ length-map us (xor_of u) in
    let kept : length ks ≡ length ps = ap (λ (l : List ℕ). length l) e ∙ length-map ps (λ (p : Pair). p.truth) in
    let kept' : length js ≡ length ps = ap (λ (l : List ℕ). length l) e' ∙ length-map ps (λ (p : Pair). p.negation) in
    subst (λ (w : Unfolded). Sketches ds ds' m (Draws ts ds' w) r) (ap₂ formula (crowd-is true u us are) (crowd-is false u us are))
    (h m ts (crowd true (map truth_of ls)) (crowd false (map negation_form ls)) s
    (crowd-draws m ts ds true ks (map truth_of ls) (omega (arith, long, size, kept)) (subst (λ (fs : Forms Comparison). DrawsForms ts ds fs ks) (sides-are truth_of ls) (subst (λ (x : List ℕ). DrawsForms ts ds (forms_of truth_of ls) x) (sym e) (truths_draw ts ds ls ps each))))
    (crowd-draws m ts ds false js (map negation_form ls) (omega (arith, long, size, kept')) (subst (λ (fs : Forms Comparison). DrawsForms ts ds fs js) (sides-are negation_form ls) (subst (λ (x : List ℕ). DrawsForms ts ds (forms_of negation_form ls) x) (sym e') (negations_draw ts ds ls ps each)))))
