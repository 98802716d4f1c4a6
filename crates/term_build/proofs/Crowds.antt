-- Many formulas, each two of which differ: no form has room for it.
use Rattle.std.proofs.Common.{◌≡◌, ℕ, suc, zero, ◌+◌, ◌-◌, ◌<◌, ◌≤◌, List, [], ◌∷◌, ◌++◌, map, length, Bool, true, false, cond, refl, ap, sym, ◌∙◌, subst, arith, Some, append_assoc, nat_lt, length-append, ltb→lt}
use Rattle.std.specs.Bool.{passes}
use Rattle.std.specs.Prelude.{slice_get}
use Rattle.std.proofs.lemmas.List.{length-map}
use Rattle.script_model.specs.Sexp.{Place}
use Rattle.script_model.specs.Meaning.{pairs}
use Rattle.poly_graph.specs.Term.{Term, Atom}
use Rattle.poly_graph.specs.Form.{Form, Forms, yes_form, no_form, atom_is, bool_is, all_form, any_form, no_forms, more_forms, form_map, forms_map}
use Rattle.script_forms.specs.Terms.{Comparison, Unfolded}
use Rattle.script_forms.specs.Unfolded.{truth_of, negation_form, two, xor_of}
use Rattle.script_forms.specs.Atoms.{already, atom_of, number_in}
use Rattle.script_forms.specs.Work.{Event, reached, made, asked, formed, met, form_events, forms_events}
use Rattle.script_forms.specs.Walk.{Stand, Walked, stands, stops, if_room, with_tree, with_atom, with_form, has_tree, has_form, form_size, all_sizes, places, after_events, goes_on, most_trees, most_atoms, most_forms, too_many_forms, too_many_nodes, too_many_atoms}
use Rattle.term_build.specs.Built.{BuilderModel, stand_of}
use Rattle.term_build.specs.Does.{StopsAs}
use Rattle.term_build.specs.Settled.{IsSettled, AreSettled}
use Rattle.term_build.specs.Shapes.{crowd_left}
use Rattle.term_build.specs.Sketch.{forms_in, parts_of, first_of, second_of, second_in, side, joined_by, later_links, crowd, sketch_at, sketch_row, sketch_children, least_crowd}
use Rattle.term_build.specs.declared.stop.Stop.TheVariants.{TooMany}
use Rattle.script_fault.specs.declared.limit.Limit.TheVariants as limit
use Rattle.term_build.proofs.Emits.{events_both}
use Rattle.term_build.proofs.Forms.{is_at, sizes_end}
use Rattle.term_build.proofs.Gathering.{events_in}

-- ---- the events of the form

joined-events : (v : Bool) (fs : Forms Comparison) → form_events (joined_by v fs) ≡ forms_events fs ++ (formed (form_map atom_of (joined_by v fs)) ∷ [])
joined-events true fs = refl
joined-events false fs = refl

pub crowd_events : (v : Bool) (gs : List (Form Comparison)) → form_events (crowd v gs) ≡ forms_events (forms_in gs) ++ crowd_left v gs
crowd_events v gs = joined-events v (forms_in (gs ++ later_links v gs)) ∙ ap (λ (es : List Event). es ++ (formed (form_map atom_of (crowd v gs)) ∷ [])) (events_in gs (later_links v gs))
    ∙ append_assoc (forms_events (forms_in gs)) (forms_events (forms_in (later_links v gs))) (formed (form_map atom_of (crowd v gs)) ∷ [])

pub row_is : (fs : List (Form Comparison)) (ks : List ℕ) → sketch_children fs ks ≡ forms_in (sketch_row fs ks)
row_is fs [] = refl
row_is fs (k ∷ ks) = ap (more_forms (sketch_at fs k)) (row_is fs ks)

pub length_row : (fs : List (Form Comparison)) (ks : List ℕ) → length (sketch_row fs ks) ≡ length ks
length_row fs [] = refl
length_row fs (k ∷ ks) = ap suc (length_row fs ks)

-- ---- events that the limit on forms alone can stop

abbrev IsSpent : List Term → List Atom → Event → Type 0
IsSpent ts xs reached = ⊥
IsSpent ts xs (made t) = has_tree t ts ≡ true
IsSpent ts xs (asked a) = already a xs ≡ true
IsSpent ts xs (formed f) = Unit {0}
IsSpent ts xs (met x) = ⊥

abbrev AreSpent : List Term → List Atom → List Event → Type 0
AreSpent ts xs [] = Unit {0}
AreSpent ts xs (e ∷ es) = IsSpent ts xs e × AreSpent ts xs es

one-spent : (s : Stand) (e : Event) → IsSettled s e → IsSpent s.trees s.atoms e
one-spent s reached h = elim h [ ]
one-spent s (made t) h = h
one-spent s (asked a) h = h
one-spent s (formed f) h = tt
one-spent s (met x) h = elim h [ ]

settled-spent : (s : Stand) (es : List Event) → AreSettled s es → AreSpent s.trees s.atoms es
settled-spent s [] h = tt
settled-spent s (e ∷ es) h = (one-spent s e h.0, settled-spent s es h.1)

spent-left : (ts : List Term) (xs : List Atom) (es fs : List Event) → AreSpent ts xs (es ++ fs) → AreSpent ts xs es
spent-left ts xs [] fs h = tt
spent-left ts xs (e ∷ es) fs h = (h.0, spent-left ts xs es fs h.1)

spent-right : (ts : List Term) (xs : List Atom) (es fs : List Event) → AreSpent ts xs (es ++ fs) → AreSpent ts xs fs
spent-right ts xs [] fs h = h
spent-right ts xs (e ∷ es) fs h = spent-right ts xs es fs h.1

spent-both : (ts : List Term) (xs : List Atom) (es fs : List Event) → AreSpent ts xs es → AreSpent ts xs fs → AreSpent ts xs (es ++ fs)
spent-both ts xs [] fs h k = k
spent-both ts xs (e ∷ es) fs h k = (h.0, spent-both ts xs es fs h.1 k)

-- ---- forms whose events are such

abbrev Form-spent : List Term → List Atom → Form Comparison → Type 0
Form-spent ts xs f = AreSpent ts xs (form_events f)

abbrev Forms-spent : List Term → List Atom → Forms Comparison → Type 0
Forms-spent ts xs fs = AreSpent ts xs (forms_events fs)

parts-spent : (ts : List Term) (xs : List Atom) (f : Form Comparison) → Form-spent ts xs f → Forms-spent ts xs (parts_of f)
parts-spent ts xs yes_form h = tt
parts-spent ts xs no_form h = tt
parts-spent ts xs (atom_is c) h = tt
parts-spent ts xs (bool_is axis v) h = tt
parts-spent ts xs (all_form fs) h = spent-left ts xs (forms_events fs) (formed (all_form (forms_map atom_of fs)) ∷ []) h
parts-spent ts xs (any_form fs) h = spent-left ts xs (forms_events fs) (formed (any_form (forms_map atom_of fs)) ∷ []) h

first-spent : (ts : List Term) (xs : List Atom) (fs : Forms Comparison) → Forms-spent ts xs fs → Form-spent ts xs (first_of fs)
first-spent ts xs no_forms h = (tt, tt)
first-spent ts xs (more_forms f fs) h = spent-left ts xs (form_events f) (forms_events fs) h

second-spent : (ts : List Term) (xs : List Atom) (fs : Forms Comparison) → Forms-spent ts xs fs → Form-spent ts xs (second_of fs)
second-spent ts xs no_forms h = (tt, tt)
second-spent ts xs (more_forms f fs) h = first-spent ts xs fs (spent-right ts xs (form_events f) (forms_events fs) h)

abbrev Spent-formula : List Term → List Atom → Unfolded → Type 0
Spent-formula ts xs u = Form-spent ts xs (truth_of u) × Form-spent ts xs (negation_form u)

abbrev Spent-formulas : List Term → List Atom → List Unfolded → Type 0
Spent-formulas ts xs [] = Unit {0}
Spent-formulas ts xs (u ∷ us) = Spent-formula ts xs u × Spent-formulas ts xs us

first-part : (ts : List Term) (xs : List Atom) (f : Form Comparison) → Form-spent ts xs f → Form-spent ts xs (second_of (parts_of (first_of (parts_of f))))
first-part ts xs f h = second-spent ts xs (parts_of (first_of (parts_of f))) (parts-spent ts xs (first_of (parts_of f)) (first-spent ts xs (parts_of f) (parts-spent ts xs f h)))

second-part : (ts : List Term) (xs : List Atom) (f : Form Comparison) → Form-spent ts xs f → Form-spent ts xs (second_of (parts_of (second_of (parts_of f))))
second-part ts xs f h = second-spent ts xs (parts_of (second_of (parts_of f))) (parts-spent ts xs (second_of (parts_of f)) (second-spent ts xs (parts_of f) (parts-spent ts xs f h)))

second-in-spent : (v : Bool) (ts : List Term) (xs : List Atom) (f : Form Comparison) → Form-spent ts xs f → Spent-formula ts xs (second_in v f)
second-in-spent true ts xs f h = (second-part ts xs f h, first-part ts xs f h)
second-in-spent false ts xs f h = (first-part ts xs f h, second-part ts xs f h)

seconds-spent : (v : Bool) (ts : List Term) (xs : List Atom) (gs : List (Form Comparison)) → Forms-spent ts xs (forms_in gs) → Spent-formulas ts xs (map (second_in v) gs)
seconds-spent v ts xs [] h = tt
seconds-spent v ts xs (g ∷ gs) h = (second-in-spent v ts xs g (spent-left ts xs (form_events g) (forms_events (forms_in gs)) h), seconds-spent v ts xs gs (spent-right ts xs (form_events g) (forms_events (forms_in gs)) h))

two-spent : (ts : List Term) (xs : List Atom) (f g : Form Comparison) → Form-spent ts xs f → Form-spent ts xs g → Forms-spent ts xs (two f g)
two-spent ts xs f g h k = spent-both ts xs (form_events f) (form_events g ++ []) h (spent-both ts xs (form_events g) [] k tt)

all-spent : (ts : List Term) (xs : List Atom) (fs : Forms Comparison) → Forms-spent ts xs fs → Form-spent ts xs (all_form fs)
all-spent ts xs fs h = spent-both ts xs (forms_events fs) (formed (all_form (forms_map atom_of fs)) ∷ []) h (tt, tt)

any-spent : (ts : List Term) (xs : List Atom) (fs : Forms Comparison) → Forms-spent ts xs fs → Form-spent ts xs (any_form fs)
any-spent ts xs fs h = spent-both ts xs (forms_events fs) (formed (any_form (forms_map atom_of fs)) ∷ []) h (tt, tt)

four-spent : (ts : List Term) (xs : List Atom) (f g k l : Form Comparison) → Form-spent ts xs f → Form-spent ts xs g → Form-spent ts xs k → Form-spent ts xs l → Form-spent ts xs (any_form (two (all_form (two f g)) (all_form (two k l))))
four-spent ts xs f g k l a b c d = any-spent ts xs (two (all_form (two f g)) (all_form (two k l)))
    (two-spent ts xs (all_form (two f g)) (all_form (two k l)) (all-spent ts xs (two f g) (two-spent ts xs f g a b)) (all-spent ts xs (two k l) (two-spent ts xs k l c d)))

link-spent : (v : Bool) (ts : List Term) (xs : List Atom) (u w : Unfolded) → Spent-formula ts xs u → Spent-formula ts xs w → Form-spent ts xs (side v (xor_of u w))
link-spent true ts xs u w a b = four-spent ts xs (truth_of u) (negation_form w) (negation_form u) (truth_of w) a.0 b.1 a.1 b.0
link-spent false ts xs u w a b = four-spent ts xs (truth_of u) (truth_of w) (negation_form u) (negation_form w) a.0 b.0 a.1 b.1

links-spent : (v : Bool) (ts : List Term) (xs : List Atom) (u : Unfolded) (us rest : List Unfolded) → Spent-formula ts xs u → Spent-formulas ts xs us → Forms-spent ts xs (forms_in (map (side v) rest)) →
    Forms-spent ts xs (forms_in (map (side v) (map (xor_of u) us ++ rest)))
links-spent v ts xs u [] rest a b h = h
links-spent v ts xs u (w ∷ us) rest a b h = spent-both ts xs (form_events (side v (xor_of u w))) (forms_events (forms_in (map (side v) (map (xor_of u) us ++ rest)))) (link-spent v ts xs u w a b.0) (links-spent v ts xs u us rest a b.1 h)

pairs-spent : (v : Bool) (ts : List Term) (xs : List Atom) (us : List Unfolded) → Spent-formulas ts xs us → Forms-spent ts xs (forms_in (map (side v) (pairs xor_of us)))
pairs-spent v ts xs [] h = tt
pairs-spent v ts xs (u ∷ us) h = links-spent v ts xs u us (pairs xor_of us) h.0 h.1 (pairs-spent v ts xs us h.1)

-- ---- the walk over such events

-- it stands, with forms no larger than they may be, or the limit on forms has stopped it
abbrev Held : Place → Walked → Type 0
Held claim (stands s) = all_sizes s.forms ≤ most_forms
Held claim (stops at x) = stops at x ≡ stops claim too_many_forms

if-known : (b : Bool) (v w : Walked) → b ≡ true → cond b v w ≡ v
if-known true v w h = refl
if-known false v w h = cc

held-form : (b r : Bool) (claim : Place) (s s1 : Stand) (f : Stand → Walked) → Held claim (f s) → (r ≡ true → Held claim (f s1)) → Held claim (goes_on f (cond b (stands s) (if_room r claim too_many_forms s1)))
held-form true r claim s s1 f h k = h
held-form false true claim s s1 f h k = k refl
held-form false false claim s s1 f h k = refl

fits : (s : Stand) (g : Form ℕ) → nat_lt (all_sizes s.forms + form_size g) (suc most_forms) ≡ true → all_sizes (s.forms ++ (g ∷ [])) ≤ most_forms
fits s g h = omega (arith, ltb→lt (all_sizes s.forms + form_size g) (suc most_forms) (passes _ h), sizes_end s.forms g)

spent-walk : (claim : Place) (s : Stand) (es : List Event) → AreSpent s.trees s.atoms es → all_sizes s.forms ≤ most_forms → Held claim (after_events claim s es)
spent-walk claim s [] h few = few
spent-walk claim s (reached ∷ es) h few = elim h.0 [ ]
spent-walk claim s (made t ∷ es) h few = subst (λ (w : Walked). Held claim (goes_on (λ s'. after_events claim s' es) w))
    (sym (if-known (has_tree t s.trees) (stands s) (if_room (nat_lt (length s.trees) most_trees) claim too_many_nodes (with_tree s t)) h.0)) (spent-walk claim s es h.1 few)
spent-walk claim s (asked a ∷ es) h few = subst (λ (w : Walked). Held claim (goes_on (λ s'. after_events claim s' es) w))
    (sym (if-known (already a s.atoms) (stands s) (if_room (nat_lt (length s.atoms) most_atoms) claim too_many_atoms (with_atom s a)) h.0)) (spent-walk claim s es h.1 few)
spent-walk claim s (formed f ∷ es) h few = let g = form_map (number_in s.atoms) f in
    held-form (has_form g s.forms) (nat_lt (all_sizes s.forms + form_size g) (suc most_forms)) claim s (with_form s g) (λ s'. after_events claim s' es) (spent-walk claim s es h.1 few)
    (λ r. spent-walk claim (with_form s g) es h.1 (fits s g r))
spent-walk claim s (met x ∷ es) h few = elim h.0 [ ]

-- ---- the last form is too large

size-at : (fs : List (Form ℕ)) (k : ℕ) (g : Form ℕ) → slice_get fs k ≡ Some g → form_size g ≤ all_sizes fs
size-at [] k g h = cc
size-at (f ∷ fs) zero g h = let e : f ≡ g = cc in omega (arith, ap form_size e)
size-at (f ∷ fs) (suc k) g h = omega (arith, size-at fs k g h)

unknown : (fs : List (Form ℕ)) (g : Form ℕ) (b : Bool) → all_sizes fs < form_size g → has_form g fs ≡ b → b ≡ false
unknown fs g false h e = refl
unknown fs g true h e = let r = is_at fs g e in absurd (omega (arith, h, size-at fs r.0 g r.1))

no-room : (b r : Bool) (claim : Place) (s s1 : Stand) → b ≡ false → r ≡ false → cond b (stands s) (if_room r claim too_many_forms s1) ≡ stops claim too_many_forms
no-room false false claim s s1 h k = refl
no-room true r claim s s1 h k = cc
no-room false true claim s s1 h k = cc

lt-false : (a b : ℕ) → b ≤ a → nat_lt a b ≡ false
lt-false a b h = grind (arith, h)

large-stops : (claim : Place) (s : Stand) (f : Form Atom) → all_sizes s.forms ≤ most_forms → most_forms < form_size (form_map (number_in s.atoms) f) → after_events claim s (formed f ∷ []) ≡ stops claim too_many_forms
large-stops claim s f few large = let g = form_map (number_in s.atoms) f in
    ap (goes_on (λ s'. after_events claim s' [])) (no-room (has_form g s.forms) (nat_lt (all_sizes s.forms + form_size g) (suc most_forms)) claim s (with_form s g)
    (unknown s.forms g (has_form g s.forms) (omega (arith, few, large)) refl) (lt-false (all_sizes s.forms + form_size g) (suc most_forms) (omega (arith, few, large))))

spent-stops : (claim : Place) (s : Stand) (es : List Event) (f : Form Atom) → AreSpent s.trees s.atoms es → all_sizes s.forms ≤ most_forms → ((xs : List Atom) → most_forms < form_size (form_map (number_in xs) f)) →
    after_events claim s (es ++ (formed f ∷ [])) ≡ stops claim too_many_forms
spent-stops claim s es f h few large = events_both claim s es (formed f ∷ []) ∙ go (after_events claim s es) (spent-walk claim s es h few)
  where
    go : (w : Walked) → Held claim w → goes_on (λ s'. after_events claim s' (formed f ∷ [])) w ≡ stops claim too_many_forms
    go (stands s1) k = large-stops claim s1 f k (large s1.atoms)
    go (stops at x) k = k

-- ---- how large

abbrev count : ℕ → ℕ
count zero = 0
count (suc n) = n + count n

length-pairs : {A B : Type 0} (f : A → A → B) (xs : List A) → length (pairs f xs) ≡ count (length xs)
length-pairs f [] = refl
length-pairs f (x ∷ xs) = length-append (map (f x) xs) (pairs f xs) ∙ omega (arith, length-map xs (f x), length-pairs f xs)

count-more : (a k : ℕ) → count a ≤ count (k + a)
count-more a zero = let e : a ≡ zero + a = omega arith in omega (arith, ap count e)
count-more a (suc k) = let e : suc (k + a) ≡ suc k + a = omega arith in omega (arith, count-more a k, ap count e)

many : (n : ℕ) → least_crowd ≤ n → most_forms ≤ n + count n
many n h = let k = n - least_crowd in let e : k + least_crowd ≡ n = omega (arith, h) in
    omega (arith, h, subst (λ (i : ℕ). count least_crowd ≤ count i) e (count-more least_crowd k), counted)
  where
    counted : count least_crowd ≡ 1047628
    counted = refl

places-in : (f : Atom → ℕ) (g : Comparison → Atom) (fs : List (Form Comparison)) → places (forms_map f (forms_map g (forms_in fs))) ≡ length fs
places-in f g [] = refl
places-in f g (x ∷ fs) = ap suc (places-in f g fs)

joined-size : (v : Bool) (xs : List Atom) (fs : List (Form Comparison)) → form_size (form_map (number_in xs) (form_map atom_of (joined_by v (forms_in fs)))) ≡ suc (length fs)
joined-size true xs fs = ap suc (places-in (number_in xs) atom_of fs)
joined-size false xs fs = ap suc (places-in (number_in xs) atom_of fs)

crowd-size : (v : Bool) (gs : List (Form Comparison)) → least_crowd ≤ length gs → (xs : List Atom) → most_forms < form_size (form_map (number_in xs) (form_map atom_of (crowd v gs)))
crowd-size v gs h xs = let n = length gs in
    let later : length (later_links v gs) ≡ count n = length-map (pairs xor_of (map (second_in v) gs)) (side v) ∙ length-pairs xor_of (map (second_in v) gs) ∙ ap count (length-map gs (second_in v)) in
    omega (arith, joined-size v xs (gs ++ later_links v gs), length-append gs (later_links v gs), later, many n h)

-- ---- it is refused

pub crowd_stops : (m : BuilderModel) (v : Bool) (gs : List (Form Comparison)) → AreSettled (stand_of m) (forms_events (forms_in gs)) → all_sizes (stand_of m).forms ≤ most_forms → least_crowd ≤ length gs →
    (claim : Place) → StopsAs claim (after_events claim (stand_of m) (crowd_left v gs)) (TooMany limit.Forms)
unfolding Rattle.term_build.specs.Does.IsBeyond
crowd_stops m v gs settled few long claim = let s = stand_of m in
    spent-stops claim s (forms_events (forms_in (later_links v gs))) (form_map atom_of (crowd v gs))
    (pairs-spent v s.trees s.atoms (map (second_in v) gs) (seconds-spent v s.trees s.atoms gs (settled-spent s (forms_events (forms_in gs)) settled))) few (crowd-size v gs long)
