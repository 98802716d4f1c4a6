-- What was made once adds nothing when it is asked for again.
use Rattle.std.proofs.Common.{◌≡◌, ℕ, suc, ◌+◌, List, [], ◌∷◌, ◌++◌, length, Bool, true, false, cond, refl, ap, ap₂, sym, ◌∙◌, subst, append_assoc, append-nil, true≢false, nat_lt}
use Rattle.script_model.specs.Sexp.{Place}
use Rattle.poly_graph.specs.Term.{Term, Atom}
use Rattle.poly_graph.specs.Form.{Form, Forms, yes_form, no_form, atom_is, bool_is, all_form, any_form, no_forms, more_forms, form_atoms, forms_atoms, form_map, forms_map}
use Rattle.script_forms.specs.Terms.{Comparison, same_term, is_zero, term, refused, formula, Unfolded, subtract_tree, negate_tree, either}
use Rattle.script_forms.specs.Atoms.{already, same_atom, number_in, atom_of}
use Rattle.script_forms.specs.Work.{Event, reached, made, asked, formed, met, ending, comparison_events, form_events, forms_events}
use Rattle.script_forms.specs.Walk.{Stand, Walked, stands, stops, if_room, BuildingFault, make_form, with_tree, with_atom, with_form, larger, has_tree, has_form, same_form, after_event, after_events, goes_on, most_trees, most_atoms, most_forms, all_sizes, form_size, too_many_nodes, too_many_atoms, too_many_forms}
use Rattle.script_forms.proofs.Numbered.{already_later, already_end, term_self}
use Rattle.term_build.specs.Settled.{Extends, AtomsIn, IsSettled, AreSettled, FormSettled, FormsSettled}
use Rattle.term_build.proofs.Forms.{form_self}
use Rattle.term_build.proofs.Emits.{events_both}

-- ---- one stand is what another has grown to

pub extends_self : (s : Stand) → Extends s s
extends_self s = record { trees = ([], sym (append-nil s.trees)); atoms = ([], sym (append-nil s.atoms)); forms = ([], sym (append-nil s.forms)) }

pub extends_on : (s s1 s2 : Stand) → Extends s s1 → Extends s1 s2 → Extends s s2
extends_on s s1 s2 h k = record {
  trees = (h.trees.0 ++ k.trees.0, k.trees.1 ∙ ap (λ xs. xs ++ k.trees.0) h.trees.1 ∙ append_assoc s.trees h.trees.0 k.trees.0);
  atoms = (h.atoms.0 ++ k.atoms.0, k.atoms.1 ∙ ap (λ xs. xs ++ k.atoms.0) h.atoms.1 ∙ append_assoc s.atoms h.atoms.0 k.atoms.0);
  forms = (h.forms.0 ++ k.forms.0, k.forms.1 ∙ ap (λ xs. xs ++ k.forms.0) h.forms.1 ∙ append_assoc s.forms h.forms.0 k.forms.0);
}

abbrev pub Reaches : Stand → Walked → Type 0
Reaches s (stands s') = Extends s s'
Reaches s (stops at x) = Unit {0}

reaches-room : (b : Bool) (claim : Place) (x : BuildingFault) (s s' : Stand) → Extends s s' → Reaches s (if_room b claim x s')
reaches-room true claim x s s' h = h
reaches-room false claim x s s' h = tt

reaches-cond : (b : Bool) (s : Stand) (v w : Walked) → Reaches s v → Reaches s w → Reaches s (cond b v w)
reaches-cond true s v w h k = h
reaches-cond false s v w h k = k

reaches-event : (claim : Place) (s : Stand) (e : Event) → Reaches s (after_event claim s e)
reaches-event claim s reached = reaches-room _ claim _ s (larger s) (record { trees = ([], sym (append-nil s.trees)); atoms = ([], sym (append-nil s.atoms)); forms = ([], sym (append-nil s.forms)) })
reaches-event claim s (made t) = reaches-cond (has_tree t s.trees) s (stands s) _ (extends_self s)
    (reaches-room _ claim _ s (with_tree s t) (record { trees = (t ∷ [], refl); atoms = ([], sym (append-nil s.atoms)); forms = ([], sym (append-nil s.forms)) }))
reaches-event claim s (asked a) = reaches-cond (already a s.atoms) s (stands s) _ (extends_self s)
    (reaches-room _ claim _ s (with_atom s a) (record { trees = ([], sym (append-nil s.trees)); atoms = (a ∷ [], refl); forms = ([], sym (append-nil s.forms)) }))
reaches-event claim s (formed f) = let g = form_map (number_in s.atoms) f in reaches-cond (has_form g s.forms) s (stands s) _ (extends_self s)
    (reaches-room _ claim _ s (with_form s g) (record { trees = ([], sym (append-nil s.trees)); atoms = ([], sym (append-nil s.atoms)); forms = (g ∷ [], refl) }))
reaches-event claim s (met x) = tt

pub form_reaches : (claim : Place) (s : Stand) (g : Form ℕ) → Reaches s (make_form claim s g)
form_reaches claim s g = reaches-cond (has_form g s.forms) s (stands s) (if_room (nat_lt (all_sizes s.forms + form_size g) (suc most_forms)) claim too_many_forms (with_form s g)) (extends_self s)
    (reaches-room (nat_lt (all_sizes s.forms + form_size g) (suc most_forms)) claim too_many_forms s (with_form s g) (record { trees = ([], sym (append-nil s.trees)); atoms = ([], sym (append-nil s.atoms)); forms = (g ∷ [], refl) }))

further : (s s1 : Stand) (w : Walked) → Extends s s1 → Reaches s1 w → Reaches s w
further s s1 (stands s2) h k = extends_on s s1 s2 h k
further s s1 (stops at x) h k = tt

reaches-on : (s : Stand) (w : Walked) (f : Stand → Walked) → Reaches s w → ((s' : Stand) → Reaches s' (f s')) → Reaches s (goes_on f w)
reaches-on s (stands s1) f h k = further s s1 (f s1) h (k s1)
reaches-on s (stops at x) f h k = tt

pub reaches_events : (claim : Place) (s : Stand) (es : List Event) → Reaches s (after_events claim s es)
reaches_events claim s [] = extends_self s
reaches_events claim s (e ∷ es) = reaches-on s (after_event claim s e) (λ s'. after_events claim s' es) (reaches-event claim s e) (λ s'. reaches_events claim s' es)

pub extends_to : (claim : Place) (s s' : Stand) (es : List Event) → after_events claim s es ≡ stands s' → Extends s s'
extends_to claim s s' es e = subst (λ (w : Walked). Reaches s w) e (reaches_events claim s es)

-- ---- what is settled

if-known : (b : Bool) (v w : Walked) → b ≡ true → cond b v w ≡ v
if-known true v w h = refl
if-known false v w h = cc

settled-event : (claim : Place) (s : Stand) (e : Event) → IsSettled s e → after_event claim s e ≡ stands s
settled-event claim s reached h = elim h [ ]
settled-event claim s (made t) h = if-known (has_tree t s.trees) (stands s) (if_room (nat_lt (length s.trees) most_trees) claim too_many_nodes (with_tree s t)) h
settled-event claim s (asked a) h = if-known (already a s.atoms) (stands s) (if_room (nat_lt (length s.atoms) most_atoms) claim too_many_atoms (with_atom s a)) h
settled-event claim s (formed f) h = let g = form_map (number_in s.atoms) f in if-known (has_form g s.forms) (stands s) (if_room (nat_lt (all_sizes s.forms + form_size g) (suc most_forms)) claim too_many_forms (with_form s g)) h.0
settled-event claim s (met x) h = elim h [ ]

pub settled_events : (claim : Place) (s : Stand) (es : List Event) → AreSettled s es → after_events claim s es ≡ stands s
settled_events claim s [] h = refl
settled_events claim s (e ∷ es) h = ap (goes_on (λ s'. after_events claim s' es)) (settled-event claim s e h.0) ∙ settled_events claim s es h.1

-- ---- and stays so

or-later : (t x y : Bool) → (x ≡ true → y ≡ true) → cond t true x ≡ true → cond t true y ≡ true
or-later true x y f k = refl
or-later false x y f k = f k

tree-later : (t : Term) (xs ys : List Term) → has_tree t xs ≡ true → has_tree t (xs ++ ys) ≡ true
tree-later t [] ys h = absurd (true≢false (sym h))
tree-later t (u ∷ xs) ys h = or-later (same_term t u) (has_tree t xs) (has_tree t (xs ++ ys)) (tree-later t xs ys) h

form-later : (f : Form ℕ) (xs ys : List (Form ℕ)) → has_form f xs ≡ true → has_form f (xs ++ ys) ≡ true
form-later f [] ys h = absurd (true≢false (sym h))
form-later f (g ∷ xs) ys h = or-later (same_form f g) (has_form f xs) (has_form f (xs ++ ys)) (form-later f xs ys) h

number-step : (t : Bool) (x y : ℕ) (known : Bool) → (known ≡ true → x ≡ y) → cond t true known ≡ true → cond t 0 (suc x) ≡ cond t 0 (suc y)
number-step true x y known f h = refl
number-step false x y known f h = ap suc (f h)

pub number_later : (a : Atom) (xs ys : List Atom) → already a xs ≡ true → number_in (xs ++ ys) a ≡ number_in xs a
number_later a [] ys h = absurd (true≢false (sym h))
number_later a (b ∷ xs) ys h = number-step (same_atom a b) (number_in (xs ++ ys) a) (number_in xs a) (already a xs) (number_later a xs ys) h

in-left : (all xs ys : List Atom) → AtomsIn all (xs ++ ys) → AtomsIn all xs
in-left all [] ys h = tt
in-left all (x ∷ xs) ys h = (h.0, in-left all xs ys h.1)

in-right : (all xs ys : List Atom) → AtomsIn all (xs ++ ys) → AtomsIn all ys
in-right all [] ys h = h
in-right all (x ∷ xs) ys h = in-right all xs ys h.1

pub in_both : (all xs ys : List Atom) → AtomsIn all xs → AtomsIn all ys → AtomsIn all (xs ++ ys)
in_both all [] ys h k = k
in_both all (x ∷ xs) ys h k = (h.0, in_both all xs ys h.1 k)

in-later : (all more xs : List Atom) → AtomsIn all xs → AtomsIn (all ++ more) xs
in-later all more [] h = tt
in-later all more (x ∷ xs) h = (already_later x all more h.0, in-later all more xs h.1)

mutual
  pub same_numbers : (all more : List Atom) (f : Form Atom) → AtomsIn all (form_atoms f) → form_map (number_in (all ++ more)) f ≡ form_map (number_in all) f
  same_numbers all more yes_form h = refl
  same_numbers all more no_form h = refl
  same_numbers all more (atom_is a) h = ap atom_is (number_later a all more h.0)
  same_numbers all more (bool_is axis v) h = refl
  same_numbers all more (all_form fs) h = ap all_form (same_numbers_of all more fs h)
  same_numbers all more (any_form fs) h = ap any_form (same_numbers_of all more fs h)

  pub same_numbers_of : (all more : List Atom) (fs : Forms Atom) → AtomsIn all (forms_atoms fs) → forms_map (number_in (all ++ more)) fs ≡ forms_map (number_in all) fs
  same_numbers_of all more no_forms h = refl
  same_numbers_of all more (more_forms f fs) h = ap₂ more_forms (same_numbers all more f (in-left all (form_atoms f) (forms_atoms fs) h)) (same_numbers_of all more fs (in-right all (form_atoms f) (forms_atoms fs) h))

-- the numbers of a form's atoms stay
pub numbers_stay : (s s' : Stand) (f : Form Atom) → Extends s s' → AtomsIn s.atoms (form_atoms f) → form_map (number_in s'.atoms) f ≡ form_map (number_in s.atoms) f
numbers_stay s s' f x h = ap (λ all. form_map (number_in all) f) x.atoms.1 ∙ same_numbers s.atoms x.atoms.0 f h

pub atoms_stay : (s s' : Stand) (xs : List Atom) → Extends s s' → AtomsIn s.atoms xs → AtomsIn s'.atoms xs
atoms_stay s s' xs x h = subst (λ (all : List Atom). AtomsIn all xs) (sym x.atoms.1) (in-later s.atoms x.atoms.0 xs h)

stays : (s s' : Stand) (e : Event) → Extends s s' → IsSettled s e → IsSettled s' e
stays s s' reached x h = elim h [ ]
stays s s' (made t) x h = ap (has_tree t) x.trees.1 ∙ tree-later t s.trees x.trees.0 h
stays s s' (asked a) x h = ap (already a) x.atoms.1 ∙ already_later a s.atoms x.atoms.0 h
stays s s' (formed f) x h = (
  ap₂ has_form (numbers_stay s s' f x h.1) x.forms.1 ∙ form-later (form_map (number_in s.atoms) f) s.forms x.forms.0 h.0,
  atoms_stay s s' (form_atoms f) x h.1,
)
stays s s' (met x) y h = elim h [ ]

pub stay : (s s' : Stand) (es : List Event) → Extends s s' → AreSettled s es → AreSettled s' es
stay s s' [] x h = tt
stay s s' (e ∷ es) x h = (stays s s' e x h.0, stay s s' es x h.1)

pub settled_both : (s : Stand) (es fs : List Event) → AreSettled s es → AreSettled s fs → AreSettled s (es ++ fs)
settled_both s [] fs h k = k
settled_both s (e ∷ es) fs h k = (h.0, settled_both s es fs h.1 k)

-- ---- what was done is settled

has-end : (t : Term) (xs : List Term) → has_tree t (xs ++ (t ∷ [])) ≡ true
has-end t [] = ap (λ b. cond b true false) (term_self t)
has-end t (u ∷ xs) = or-end (same_term t u) (has_tree t (xs ++ (t ∷ []))) (has-end t xs)
  where
    or-end : (b x : Bool) → x ≡ true → cond b true x ≡ true
    or-end true x h = refl
    or-end false x h = h

form-end : (f : Form ℕ) (xs : List (Form ℕ)) → has_form f (xs ++ (f ∷ [])) ≡ true
form-end f [] = ap (λ b. cond b true false) (form_self f)
form-end f (g ∷ xs) = or-end (same_form f g) (has_form f (xs ++ (f ∷ []))) (form-end f xs)
  where
    or-end : (b x : Bool) → x ≡ true → cond b true x ≡ true
    or-end true x h = refl
    or-end false x h = h

-- where a walk stands, so does this
abbrev At : (Stand → Type 0) → Walked → Type 0
At P (stands s) = P s
At P (stops at x) = Unit {0}

at-stand : (P : Stand → Type 0) (w : Walked) (s' : Stand) → At P w → w ≡ stands s' → P s'
at-stand P w s' h e = subst (λ (v : Walked). At P v) e h

-- a step that has nothing to do, or makes one more
at-step : (P : Stand → Type 0) (b r : Bool) (claim : Place) (x : BuildingFault) (s s1 : Stand) → (b ≡ true → P s) → P s1 → At P (cond b (stands s) (if_room r claim x s1))
at-step P true r claim x s s1 h k = h refl
at-step P false true claim x s s1 h k = k
at-step P false false claim x s s1 h k = tt

done-made : (claim : Place) (s s' : Stand) (t : Term) → after_event claim s (made t) ≡ stands s' → has_tree t s'.trees ≡ true
done-made claim s s' t e = at-stand (λ (z : Stand). has_tree t z.trees ≡ true) (after_event claim s (made t)) s'
    (at-step (λ (z : Stand). has_tree t z.trees ≡ true) (has_tree t s.trees) (nat_lt (length s.trees) most_trees) claim too_many_nodes s (with_tree s t) (λ h. h) (has-end t s.trees)) e

done-asked : (claim : Place) (s s' : Stand) (a : Atom) → after_event claim s (asked a) ≡ stands s' → already a s'.atoms ≡ true
done-asked claim s s' a e = at-stand (λ (z : Stand). already a z.atoms ≡ true) (after_event claim s (asked a)) s'
    (at-step (λ (z : Stand). already a z.atoms ≡ true) (already a s.atoms) (nat_lt (length s.atoms) most_atoms) claim too_many_atoms s (with_atom s a) (λ h. h) (already_end a s.atoms)) e

done-formed : (claim : Place) (s s' : Stand) (f : Form Atom) → AtomsIn s.atoms (form_atoms f) → after_event claim s (formed f) ≡ stands s' → IsSettled s' (formed f)
done-formed claim s s' f i e = let g = form_map (number_in s.atoms) f in at-stand (λ (z : Stand). IsSettled z (formed f)) (after_event claim s (formed f)) s'
    (at-step (λ (z : Stand). IsSettled z (formed f)) (has_form g s.forms) (nat_lt (all_sizes s.forms + form_size g) (suc most_forms)) claim too_many_forms s (with_form s g) (λ h. (h, i)) (form-end g s.forms, i)) e

-- a walk over events one after the other, in two
halves : (f : Stand → Walked) (w : Walked) (s' : Stand) → goes_on f w ≡ stands s' → (s1 : Stand) × (w ≡ stands s1) × (f s1 ≡ stands s')
halves f (stands s1) s' e = (s1, refl, e)
halves f (stops at x) s' e = cc

pub split : (claim : Place) (s s' : Stand) (es fs : List Event) → after_events claim s (es ++ fs) ≡ stands s' → (s1 : Stand) × (after_events claim s es ≡ stands s1) × (after_events claim s1 fs ≡ stands s')
split claim s s' es fs e = halves (λ s1. after_events claim s1 fs) (after_events claim s es) s' (sym (events_both claim s es fs) ∙ e)

first : (claim : Place) (s s' : Stand) (e : Event) (fs : List Event) → after_events claim s (e ∷ fs) ≡ stands s' → (s1 : Stand) × (after_event claim s e ≡ stands s1) × (after_events claim s1 fs ≡ stands s')
first claim s s' e fs h = halves (λ s1. after_events claim s1 fs) (after_event claim s e) s' h

done-ending : (claim : Place) (s s' : Stand) (u : Unfolded) → after_events claim s (ending u) ≡ stands s' → AreSettled s' (ending u)
done-ending claim s s' (term t) e = let h = first claim s s' (made t) [] e in (done-made claim s s' t (h.1 ∙ h.2), tt)
done-ending claim s s' (refused x) e = cc
done-ending claim s s' (formula p n) e = tt
done-ending claim s s' (either c d a b) e = tt

done-comparison : (claim : Place) (s s' : Stand) (x : Term) (u : Unfolded) (b : Bool) → after_events claim s (cond b [] (made x ∷ ending u)) ≡ stands s' → AreSettled s' (cond b [] (made x ∷ ending u))
done-comparison claim s s' x u true e = tt
done-comparison claim s s' x u false e = let h = first claim s s' (made x) (ending u) e in
    (stays h.0 s' (made x) (extends_to claim h.0 s' (ending u) h.2) (done-made claim s h.0 x h.1), done-ending claim h.0 s' u h.2)

pub one_formed : (claim : Place) (s s' : Stand) (f : Form Atom) → AtomsIn s.atoms (form_atoms f) → after_events claim s (formed f ∷ []) ≡ stands s' → IsSettled s' (formed f)
one_formed claim s s' f i e = let h = first claim s s' (formed f) [] e in done-formed claim s s' f i (h.1 ∙ h.2)

mutual
  pub form_done : (claim : Place) (s s' : Stand) (f : Form Comparison) → after_events claim s (form_events f) ≡ stands s' → FormSettled s' f
  form_done claim s s' yes_form e = ((one_formed claim s s' yes_form tt e, tt), tt)
  form_done claim s s' no_form e = ((one_formed claim s s' no_form tt e, tt), tt)
  form_done claim s s' (bool_is axis v) e = ((one_formed claim s s' (bool_is axis v) tt e, tt), tt)
  form_done claim s s' (atom_is c) e =
      let a = atom_of c in
      let h = split claim s s' (comparison_events c) (asked a ∷ formed (atom_is a) ∷ []) e in
      let k = first claim h.0 s' (asked a) (formed (atom_is a) ∷ []) h.2 in
      let x1 = extends_to claim h.0 s' (asked a ∷ formed (atom_is a) ∷ []) h.2 in
      let x2 = extends_to claim k.0 s' (formed (atom_is a) ∷ []) k.2 in
      let there = done-asked claim h.0 k.0 a k.1 in
      let one = one_formed claim k.0 s' (atom_is a) (there, tt) k.2 in (
        settled_both s' (comparison_events c) (asked a ∷ formed (atom_is a) ∷ [])
            (stay h.0 s' (comparison_events c) x1 (done-comparison claim s h.0 (negate_tree c.right) (subtract_tree c.at c.left c.right) (is_zero c.right) h.1))
            (stays k.0 s' (asked a) x2 there, (one, tt)),
        one.1,
      )
  form_done claim s s' (all_form fs) e =
      let f : Form Atom = all_form (forms_map atom_of fs) in
      let h = split claim s s' (forms_events fs) (formed f ∷ []) e in
      let d = forms_done claim s h.0 fs h.1 in
      let x = extends_to claim h.0 s' (formed f ∷ []) h.2 in
      (settled_both s' (forms_events fs) (formed f ∷ []) (stay h.0 s' (forms_events fs) x d.0) (one_formed claim h.0 s' f d.1 h.2, tt), atoms_stay h.0 s' (forms_atoms (forms_map atom_of fs)) x d.1)
  form_done claim s s' (any_form fs) e =
      let f : Form Atom = any_form (forms_map atom_of fs) in
      let h = split claim s s' (forms_events fs) (formed f ∷ []) e in
      let d = forms_done claim s h.0 fs h.1 in
      let x = extends_to claim h.0 s' (formed f ∷ []) h.2 in
      (settled_both s' (forms_events fs) (formed f ∷ []) (stay h.0 s' (forms_events fs) x d.0) (one_formed claim h.0 s' f d.1 h.2, tt), atoms_stay h.0 s' (forms_atoms (forms_map atom_of fs)) x d.1)

  pub forms_done : (claim : Place) (s s' : Stand) (fs : Forms Comparison) → after_events claim s (forms_events fs) ≡ stands s' → FormsSettled s' fs
  forms_done claim s s' no_forms e = (tt, tt)
  forms_done claim s s' (more_forms f fs) e =
      let h = split claim s s' (form_events f) (forms_events fs) e in
      let d = form_done claim s h.0 f h.1 in
      let k = forms_done claim h.0 s' fs h.2 in
      let x = extends_to claim h.0 s' (forms_events fs) h.2 in (
        settled_both s' (form_events f) (forms_events fs) (stay h.0 s' (form_events f) x d.0) k.0,
        in_both s'.atoms (form_atoms (form_map atom_of f)) (forms_atoms (forms_map atom_of fs)) (atoms_stay h.0 s' (form_atoms (form_map atom_of f)) x d.1) k.1,
      )

-- a form that is walked twice is walked once
pub again : (claim : Place) (s : Stand) (f : Form Comparison) (es : List Event) → after_events claim s (form_events f ++ (form_events f ++ es)) ≡ after_events claim s (form_events f ++ es)
again claim s f es = events_both claim s (form_events f) (form_events f ++ es) ∙ twice (after_events claim s (form_events f)) refl ∙ sym (events_both claim s (form_events f) es)
  where
    twice : (w : Walked) → after_events claim s (form_events f) ≡ w → goes_on (λ s1. after_events claim s1 (form_events f ++ es)) w ≡ goes_on (λ s1. after_events claim s1 es) w
    twice (stops at x) e = refl
    twice (stands s1) e = events_both claim s1 (form_events f) es ∙ ap (goes_on (λ s2. after_events claim s2 es)) (settled_events claim s1 (form_events f) (form_done claim s s1 f e).0)
