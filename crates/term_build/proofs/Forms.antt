-- Nodes of a shared form, with their forms.
use Rattle.std.proofs.Common.{◌≡◌, inl, inr, ℕ, suc, zero, ◌+◌, ◌<◌, ◌≤◌, List, [], ◌∷◌, ◌++◌, length, Bool, true, false, cond, IsTrue, Some, refl, ap, ap₂, sym, ◌∙◌, subst, arith, nat_lt, nat_eq, ltb→lt, eqb→eq, length-append}
use Rattle.std.specs.Prelude.{slice_get, Result, Ok, Err, MatchResult}
use Rattle.std.specs.List.{list_all}
use Rattle.std.specs.Bool.{passes}
use Rattle.std.proofs.lemmas.Bool.{eq-eqb}
use Rattle.dyadic.proofs.Equal.{both_true, both_pass}
use Rattle.script_model.specs.Sexp.{Place}
use Rattle.poly_graph.specs.Form.{Form, Forms, yes_form, no_form, atom_is, bool_is, all_form, any_form, no_forms, more_forms}
use Rattle.poly_graph.specs.FormGraph.{FormNode, yes_node, no_node, atom_node, bool_node, all_node, any_node, form_comes_after, forms_in_order, form_at, picked, node_form, forms_after, graph_forms, node_size, forms_size, IsFormGraph, IsNewForm, FormInterned, most_forms}
use Rattle.poly_graph.specs.FormViews.{FormRefused}
use Rattle.poly_graph.specs.declared.refused.NoNode.{NoNode}
use Rattle.poly_graph.specs.declared.refused.NoNode.TheVariants.{TooMany, Memory}
use Rattle.poly_graph.specs.declared.refused.Limit.TheVariants as limits
use Rattle.poly_graph.proofs.FormGraphs.{form_node_is_its_kind}
use Rattle.script_forms.specs.Walk as walk
use Rattle.script_forms.specs.Walk.{Stand, Walked, stands, stops, make_form, if_room, with_form, too_many_forms, same_form, same_forms, same_bool, has_form, form_size, all_sizes, places}
use Rattle.term_build.specs.Built.{BuilderModel, stand_of, IsMade, IsFormNode}
use Rattle.term_build.specs.Does.{IsForm, Does, limited_to}
use Rattle.term_build.specs.declared.stop.Stop.{Stop}
use Rattle.term_build.proofs.Lists.{get_below, get_end, index_get, stood, all_end}

-- ---- equal forms

bool_is_same : (v w : Bool) → same_bool v w ≡ true → v ≡ w
bool_is_same true true h = refl
bool_is_same false false h = refl
bool_is_same true false h = cc
bool_is_same false true h = cc

bool_self : (v : Bool) → same_bool v v ≡ true
bool_self true = refl
bool_self false = refl

mutual
  form_is : (f g : Form ℕ) → same_form f g ≡ true → f ≡ g
  form_is yes_form yes_form h = refl
  form_is no_form no_form h = refl
  form_is (atom_is j) (atom_is k) h = ap atom_is (eqb→eq j k (passes _ h))
  form_is (bool_is i v) (bool_is j w) h = let e = both_true (nat_eq i j) (same_bool v w) h in ap₂ bool_is (eqb→eq i j (passes _ e.0)) (bool_is_same v w e.1)
  form_is (all_form fs) (all_form gs) h = ap all_form (forms_are fs gs h)
  form_is (any_form fs) (any_form gs) h = ap any_form (forms_are fs gs h)
  form_is _ _ h = cc

  forms_are : (fs gs : Forms ℕ) → same_forms fs gs ≡ true → fs ≡ gs
  forms_are no_forms no_forms h = refl
  forms_are (more_forms f fs) (more_forms g gs) h = let e = both_true (same_form f g) (same_forms fs gs) h in ap₂ more_forms (form_is f g e.0) (forms_are fs gs e.1)
  forms_are _ _ h = cc

mutual
  pub form_self : (f : Form ℕ) → same_form f f ≡ true
  form_self yes_form = refl
  form_self no_form = refl
  form_self (atom_is j) = eq-eqb j j refl
  form_self (bool_is i v) = both_pass (nat_eq i i) (same_bool v v) (eq-eqb i i refl) (bool_self v)
  form_self (all_form fs) = forms_self fs
  form_self (any_form fs) = forms_self fs

  forms_self : (fs : Forms ℕ) → same_forms fs fs ≡ true
  forms_self no_forms = refl
  forms_self (more_forms f fs) = both_pass (same_form f f) (same_forms fs fs) (form_self f) (forms_self fs)

-- ---- whether a form stands in a list

later : (b x : Bool) → x ≡ true → cond b true x ≡ true
later true x h = refl
later false x h = h

has_at : (fs : List (Form ℕ)) (k : ℕ) (f : Form ℕ) → slice_get fs k ≡ Some f → has_form f fs ≡ true
has_at [] k f h = cc
has_at (g ∷ fs) zero f h = let e : g ≡ f = cc in ap (λ b. cond b true (has_form f fs)) (ap (same_form f) e ∙ form_self f)
has_at (g ∷ fs) (suc k) f h = later (same_form f g) (has_form f fs) (has_at fs k f h)

is-at-step : (g : Form ℕ) (fs : List (Form ℕ)) (f : Form ℕ) (b : Bool) → same_form f g ≡ b → cond b true (has_form f fs) ≡ true → (has_form f fs ≡ true → (k : ℕ) × (slice_get fs k ≡ Some f)) → (k : ℕ) × (slice_get (g ∷ fs) k ≡ Some f)
is-at-step g fs f true e h i = (zero, ap (λ x. Some x) (sym (form_is f g e)))
is-at-step g fs f false e h i = let r = i h in (suc r.0, r.1)

pub is_at : (fs : List (Form ℕ)) (f : Form ℕ) → has_form f fs ≡ true → (k : ℕ) × (slice_get fs k ≡ Some f)
is_at [] f h = cc
is_at (g ∷ fs) f h = is-at-step g fs f (same_form f g) refl h (is_at fs f)

-- ---- the forms of a shared form

forms-after-end : (ns : List FormNode) (done : List (Form ℕ)) (n : FormNode) → forms_after done (ns ++ (n ∷ [])) ≡ forms_after done ns ++ (node_form (forms_after done ns) n ∷ [])
forms-after-end [] done n = refl
forms-after-end (m ∷ ns) done n = forms-after-end ns (done ++ (node_form done m ∷ [])) n

forms_end : (ns : List FormNode) (n : FormNode) → graph_forms (ns ++ (n ∷ [])) ≡ graph_forms ns ++ (node_form (graph_forms ns) n ∷ [])
forms_end ns n = forms-after-end ns [] n

length-after : (ns : List FormNode) (done : List (Form ℕ)) → length (forms_after done ns) ≡ length done + length ns
length-after [] done = omega arith
length-after (n ∷ ns) done = length-after ns (done ++ (node_form done n ∷ [])) ∙ omega (arith, length-append done (node_form done n ∷ []))

pub length_forms : (ns : List FormNode) → length (graph_forms ns) ≡ length ns
length_forms ns = length-after ns [] ∙ omega arith

pub form_there : (ns : List FormNode) → IsFormGraph ns → (k : ℕ) (n : FormNode) → slice_get ns k ≡ Some n → slice_get (graph_forms ns) k ≡ Some (node_form (graph_forms ns) n)
form_there ns g k n h = index_get (graph_forms ns) k no_form (omega (arith, get_below ns k n h, length_forms ns)) ∙ ap (λ f. Some f) (form_node_is_its_kind ns g.ordered k n h)

-- sizes
places-picked : (fs : List (Form ℕ)) (ks : List ℕ) → places (picked fs ks) ≡ length ks
places-picked fs [] = refl
places-picked fs (k ∷ ks) = ap suc (places-picked fs ks)

size-of : (fs : List (Form ℕ)) (n : FormNode) → form_size (node_form fs n) ≡ node_size n
size-of fs yes_node = refl
size-of fs no_node = refl
size-of fs (atom_node j) = refl
size-of fs (bool_node axis v) = refl
size-of fs (all_node ks) = ap suc (places-picked fs ks)
size-of fs (any_node ks) = ap suc (places-picked fs ks)

pub sizes_end : (fs : List (Form ℕ)) (f : Form ℕ) → all_sizes (fs ++ (f ∷ [])) ≡ all_sizes fs + form_size f
sizes_end [] f = omega arith
sizes_end (g ∷ fs) f = omega (arith, sizes_end fs f)

sizes-after : (ns : List FormNode) (done : List (Form ℕ)) → all_sizes (forms_after done ns) ≡ all_sizes done + forms_size ns
sizes-after [] done = omega arith
sizes-after (n ∷ ns) done = sizes-after ns (done ++ (node_form done n ∷ [])) ∙ omega (arith, sizes_end done (node_form done n), size-of done n)

sizes : (ns : List FormNode) → all_sizes (graph_forms ns) ≡ forms_size ns
sizes ns = sizes-after ns [] ∙ omega arith

-- ---- nodes of one form are one

pub in_order_at : (k : ℕ) (ns : List FormNode) → IsTrue (forms_in_order k ns) → (i : ℕ) (n : FormNode) → slice_get ns i ≡ Some n → IsTrue (form_comes_after (k + i) n)
in_order_at k [] h i n e = cc
in_order_at k (m ∷ ns) h zero n e = let o = both_true (form_comes_after k m) (forms_in_order (suc k) ns) h in let p : m ≡ n = cc in let q : k ≡ k + 0 = omega arith in
    subst (λ (j : ℕ). IsTrue (form_comes_after j n)) q (subst (λ (x : FormNode). IsTrue (form_comes_after k x)) p o.0)
in_order_at k (m ∷ ns) h (suc i) n e = let o = both_true (form_comes_after k m) (forms_in_order (suc k) ns) h in let q : suc k + i ≡ k + suc i = omega arith in
    subst (λ (j : ℕ). IsTrue (form_comes_after j n)) q (in_order_at (suc k) ns o.1 i n e)

same-children : (fs : List (Form ℕ)) (j k : ℕ) (xs ys : List ℕ) → IsTrue (list_all (λ i. nat_lt i j) xs) → IsTrue (list_all (λ i. nat_lt i k) ys) → ((x y : ℕ) → x < j → y < k → form_at fs x ≡ form_at fs y → x ≡ y) →
    picked fs xs ≡ picked fs ys → xs ≡ ys
same-children fs j k [] [] o l f h = refl
same-children fs j k (x ∷ xs) (y ∷ ys) o l f h =
    let e = both_true (nat_lt x j) (list_all (λ i. nat_lt i j) xs) o in let g = both_true (nat_lt y k) (list_all (λ i. nat_lt i k) ys) l in
    ap₂ (λ a rest. a ∷ rest) (f x y (ltb→lt x j (passes _ e.0)) (ltb→lt y k (passes _ g.0)) cc) (same-children fs j k xs ys e.1 g.1 f cc)
same-children fs j k [] (y ∷ ys) o l f h = cc
same-children fs j k (x ∷ xs) [] o l f h = cc

pub same_by_children : (fs : List (Form ℕ)) (j k : ℕ) (m n : FormNode) → IsTrue (form_comes_after j m) → IsTrue (form_comes_after k n) → ((x y : ℕ) → x < j → y < k → form_at fs x ≡ form_at fs y → x ≡ y) →
    node_form fs m ≡ node_form fs n → m ≡ n
same_by_children fs j k yes_node yes_node o l f h = refl
same_by_children fs j k no_node no_node o l f h = refl
same_by_children fs j k (atom_node a) (atom_node b) o l f h = ap atom_node cc
same_by_children fs j k (bool_node a v) (bool_node b w) o l f h = let e : a ≡ b = cc in let g : v ≡ w = cc in ap₂ bool_node e g
same_by_children fs j k (all_node xs) (all_node ys) o l f h = ap all_node (same-children fs j k xs ys o l f cc)
same_by_children fs j k (any_node xs) (any_node ys) o l f h = ap any_node (same-children fs j k xs ys o l f cc)
same_by_children fs j k _ _ o l f h = cc

one-below : (ns : List FormNode) → IsFormGraph ns → (most j k : ℕ) → j < most → j < length ns → k < length ns → form_at (graph_forms ns) j ≡ form_at (graph_forms ns) k → j ≡ k
one-below ns g zero j k less h i e = absurd (omega (arith, less))
one-below ns g (suc most) j k less h i e =
    let m = stood ns j h in
    let n = stood ns k i in
    let after-j = in_order_at 0 ns g.ordered j m.0 m.1 in
    let after-k = in_order_at 0 ns g.ordered k n.0 n.1 in
    let same : m.0 ≡ n.0 = same_by_children (graph_forms ns) (0 + j) (0 + k) m.0 n.0 after-j after-k (λ x y l r s. one-below ns g most x y (omega (arith, l, less)) (omega (arith, l, h)) (omega (arith, r, i)) s)
    (sym (form_node_is_its_kind ns g.ordered j m.0 m.1) ∙ e ∙ form_node_is_its_kind ns g.ordered k n.0 n.1) in
    g.once j k n.0 (m.1 ∙ ap (λ x. Some x) same) n.1

pub one_form : (ns : List FormNode) → IsFormGraph ns → (j k : ℕ) → j < length ns → k < length ns → form_at (graph_forms ns) j ≡ form_at (graph_forms ns) k → j ≡ k
one_form ns g j k h i e = one-below ns g (suc j) j k (omega arith) h i e

-- a new node is a new form
new-by : (ns : List FormNode) → IsFormGraph ns → (n : FormNode) → IsTrue (form_comes_after (length ns) n) → IsNewForm ns n → (b : Bool) → has_form (node_form (graph_forms ns) n) (graph_forms ns) ≡ b → b ≡ false
new-by ns g n o f false h = refl
new-by ns g n o f true h =
    let r = is_at (graph_forms ns) (node_form (graph_forms ns) n) h in
    let below : r.0 < length ns = omega (arith, get_below (graph_forms ns) r.0 (node_form (graph_forms ns) n) r.1, length_forms ns) in
    let m = stood ns r.0 below in
    let after = in_order_at 0 ns g.ordered r.0 m.0 m.1 in
    let t : Some (node_form (graph_forms ns) m.0) ≡ Some (node_form (graph_forms ns) n) = sym (form_there ns g r.0 m.0 m.1) ∙ r.1 in
    absurd (f r.0 (m.1 ∙ ap (λ x. Some x) (same_by_children (graph_forms ns) (0 + r.0) (length ns) m.0 n after o
    (λ x y l q s. one_form ns g x y (omega (arith, l, below)) q s) (some_form _ _ t))))
  where
    some_form : (x y : Form ℕ) → Some x ≡ Some y → x ≡ y
    some_form x y e = cc

-- ---- a node is asked for

abbrev pub with_forms : BuilderModel → List FormNode → BuilderModel
with_forms m ns = record { sorts = m.sorts; size = m.size; nodes = m.nodes; atoms = m.atoms; forms = ns }

record FormMade (m : BuilderModel) (ns : List FormNode) (n : FormNode) (k : ℕ) : Type 0 where
  pub made : IsMade (with_forms m ns)
  pub does : (claim : Place) → make_form claim (stand_of m) (node_form (graph_forms m.forms) n) ≡ stands (stand_of (with_forms m ns))
  pub form : IsForm (with_forms m ns) (node_form (graph_forms m.forms) n) k

room-for : (b : Bool) → b ≡ true → (claim : Place) (s : Stand) → if_room b claim too_many_forms s ≡ stands s
room-for true e claim s = refl
room-for false e claim s = cc

no-room : (b : Bool) → b ≡ false → (claim : Place) (s : Stand) → if_room b claim too_many_forms s ≡ stops claim too_many_forms
no-room true e claim s = cc
no-room false e claim s = refl

lt-true : (a b : ℕ) → a < b → nat_lt a b ≡ true
lt-true a b h = grind (arith, h)

lt-false : (a b : ℕ) → b ≤ a → nat_lt a b ≡ false
lt-false a b h = grind (arith, h)

pieces-size : (ns : List FormNode) (n : FormNode) → forms_size (ns ++ (n ∷ [])) ≡ forms_size ns + node_size n
pieces-size [] n = omega arith
pieces-size (m ∷ ns) n = omega (arith, pieces-size ns n)

added : (m : BuilderModel) (n : FormNode) → IsMade m → IsTrue (form_comes_after (length m.forms) n) → IsFormNode m.sorts (length m.atoms) n → IsNewForm m.forms n → IsFormGraph (m.forms ++ (n ∷ [])) →
    FormMade m (m.forms ++ (n ∷ [])) n (length m.forms)
added m n h o f new g = let fs = graph_forms m.forms in let x = node_form fs n in record {
  made = record {
    few = h.few;
    graph = h.graph;
    nodes = h.nodes;
    table = h.table;
    atoms = h.atoms;
    shared = g;
    forms = all_end (IsFormNode m.sorts (length m.atoms)) m.forms n h.forms f;
  };
  does = λ claim. ap (λ b. cond b (stands (stand_of m)) (if_room (nat_lt (all_sizes fs + form_size x) (suc walk.most_forms)) claim too_many_forms (with_form (stand_of m) x))) (new-by m.forms h.shared n o new (has_form x fs) refl)
      ∙ room-for (nat_lt (all_sizes fs + form_size x) (suc walk.most_forms)) (lt-true (all_sizes fs + form_size x) (suc walk.most_forms) (omega (arith, sizes m.forms, size-of fs n, g.few, pieces-size m.forms n))) claim (with_form (stand_of m) x)
      ∙ ap (λ (ys : List (Form ℕ)). stands (record { size = m.size; trees = (stand_of m).trees; atoms = (stand_of m).atoms; forms = ys })) (sym (forms_end m.forms n));
  form = ap (λ ys. slice_get ys (length m.forms)) (forms_end m.forms n) ∙ ap (λ k. slice_get (fs ++ (x ∷ [])) k) (sym (length_forms m.forms)) ∙ get_end fs x;
}

stood-there : (m : BuilderModel) (n : FormNode) (k : ℕ) → IsMade m → slice_get m.forms k ≡ Some n → FormMade m m.forms n k
stood-there m n k h e = let fs = graph_forms m.forms in let x = node_form fs n in record {
  made = h;
  does = λ claim. ap (λ b. cond b (stands (stand_of m)) (if_room (nat_lt (all_sizes fs + form_size x) (suc walk.most_forms)) claim too_many_forms (with_form (stand_of m) x))) (has_at fs k x (form_there m.forms h.shared k n e));
  form = form_there m.forms h.shared k n e;
}

form-made : (m : BuilderModel) (ns : List FormNode) (n : FormNode) (k : ℕ) → IsMade m → IsTrue (form_comes_after (length m.forms) n) → IsFormNode m.sorts (length m.atoms) n → IsFormGraph ns → FormInterned m.forms ns n k → FormMade m ns n k
form-made m ns n k h o f g i = elim i.1 [
  | inl e ↦ subst (λ (xs : List FormNode). FormMade m xs n k) (sym e) (stood-there m n k h (ap (λ xs. slice_get xs k) (sym e) ∙ i.0))
  | inr e ↦ subst (λ (xs : List FormNode). FormMade m xs n k) (sym e.0) (subst (λ (j : ℕ). FormMade m (m.forms ++ (n ∷ [])) n j) (sym e.1)
      (added m n h o f e.2 (subst (λ (xs : List FormNode). IsFormGraph xs) e.0 g)))
]

none-made : (m : BuilderModel) (n : FormNode) (claim : Place) → IsMade m → IsTrue (form_comes_after (length m.forms) n) → IsNewForm m.forms n → most_forms < forms_size m.forms + node_size n →
    make_form claim (stand_of m) (node_form (graph_forms m.forms) n) ≡ stops claim too_many_forms
none-made m n claim h o new full = let fs = graph_forms m.forms in let x = node_form fs n in
    ap (λ b. cond b (stands (stand_of m)) (if_room (nat_lt (all_sizes fs + form_size x) (suc walk.most_forms)) claim too_many_forms (with_form (stand_of m) x))) (new-by m.forms h.shared n o new (has_form x fs) refl)
    ∙ no-room (nat_lt (all_sizes fs + form_size x) (suc walk.most_forms)) (lt-false (all_sizes fs + form_size x) (suc walk.most_forms) (omega (arith, sizes m.forms, size-of fs n, full))) claim (with_form (stand_of m) x)

pub kept_form : (m m' : BuilderModel) (ns : List FormNode) (n : FormNode) (r : Result ℕ NoNode) → m ≡ m' → IsMade m → IsTrue (form_comes_after (length m'.forms) n) → IsFormNode m'.sorts (length m'.atoms) n → IsFormGraph ns →
    MatchResult r (FormInterned m.forms ns n) (FormRefused m.forms ns n) → IsMade (with_forms m ns)
kept_form m m' ns n r e h o f g i = go r i
  where
    go : (r : Result ℕ NoNode) → MatchResult r (FormInterned m.forms ns n) (FormRefused m.forms ns n) → IsMade (with_forms m ns)
    go (Ok k) i = (form-made m ns n k h (subst (λ (x : BuilderModel). IsTrue (form_comes_after (length x.forms) n)) (sym e) o) (subst (λ (x : BuilderModel). IsFormNode x.sorts (length x.atoms) n) (sym e) f) g i).made
    go (Err (TooMany limits.Forms)) i = subst (λ (xs : List FormNode). IsMade (with_forms m xs)) (sym i.0) h
    go (Err (TooMany limits.Atoms)) i = absurd i
    go (Err (TooMany limits.Nodes)) i = absurd i
    go (Err Memory) i = subst (λ (xs : List FormNode). IsMade (with_forms m xs)) (sym i) h

pub seen_form : (m m' : BuilderModel) (ns : List FormNode) (n : FormNode) (r : Result ℕ NoNode) (s : Result ℕ Stop) → m ≡ m' → s ≡ limited_to r → IsMade m → IsTrue (form_comes_after (length m'.forms) n) → IsFormNode m'.sorts (length m'.atoms) n → IsFormGraph ns →
    MatchResult r (FormInterned m.forms ns n) (FormRefused m.forms ns n) →
    Does m' (with_forms m ns) (λ claim s. make_form claim s (node_form (graph_forms m'.forms) n)) s (IsForm (with_forms m ns) (node_form (graph_forms m'.forms) n))
unfolding Rattle.term_build.specs.Does.IsBeyond
seen_form m m' ns n r s e d h o f g i =
    subst (λ (x : BuilderModel). Does x (with_forms m ns) (λ claim s. make_form claim s (node_form (graph_forms x.forms) n)) s (IsForm (with_forms m ns) (node_form (graph_forms x.forms) n))) e
    (subst (λ (s : Result ℕ Stop). Does m (with_forms m ns) (λ claim s. make_form claim s (node_form (graph_forms m.forms) n)) s (IsForm (with_forms m ns) (node_form (graph_forms m.forms) n))) (sym d) (go r i))
  where
    comes : IsTrue (form_comes_after (length m.forms) n)
    comes = subst (λ (x : BuilderModel). IsTrue (form_comes_after (length x.forms) n)) (sym e) o

    go : (r : Result ℕ NoNode) → MatchResult r (FormInterned m.forms ns n) (FormRefused m.forms ns n) →
        Does m (with_forms m ns) (λ claim s. make_form claim s (node_form (graph_forms m.forms) n)) (limited_to r) (IsForm (with_forms m ns) (node_form (graph_forms m.forms) n))
    go (Ok k) i = let a = form-made m ns n k h comes (subst (λ (x : BuilderModel). IsFormNode x.sorts (length x.atoms) n) (sym e) f) g i in (a.does, a.form)
    go (Err (TooMany limits.Forms)) i = λ claim. none-made m n claim h comes i.2 i.1
    go (Err (TooMany limits.Atoms)) i = absurd i
    go (Err (TooMany limits.Nodes)) i = absurd i
    go (Err Memory) i = λ claim. tt

-- all forms are as large as they may be
pub few_forms : (m m' : BuilderModel) → m ≡ m' → IsMade m → all_sizes (stand_of m').forms ≤ walk.most_forms
few_forms m m' e h = subst (λ (x : BuilderModel). all_sizes (stand_of x).forms ≤ walk.most_forms) e (omega (arith, sizes m.forms, h.shared.few))
