-- What a change makes of a problem is the problem of the next check.
use Rattle.std.proofs.Common.{◌≡◌, ℕ, ◌≤◌, List, [], ◌∷◌, ◌++◌, take, drop, map, length, ◌+◌, ◌-◌, refl, ap, ap₂, sym, ◌∙◌, subst, arith, append_assoc, append-nil, length-append}
use Rattle.std.specs.Prelude.{None, Option, OnOk, Result, Ok, Err}
use Rattle.std.proofs.lemmas.List.{take-append-drop, drop-map, length-drop}
use Rattle.std.proofs.Math.Seq.{take-append_seam, take-length, drop-append_seam}
use Rattle.poly_graph.specs.FormGraph.{IsFormGraph}
use Rattle.poly_graph.specs.ProblemViews.{Parts, IsWhole, axis_of, problem_of}
use Rattle.poly_graph.specs.Shared.{IsGraph}
use Rattle.script_model.specs.Script.{Command}
use Rattle.script_fault.specs.declared.fault.ReadError.{ReadError}
use Rattle.script_reading.specs.Built.{IsBuiltOf}
use Rattle.sort_check.specs.Sorts.{sort_fault}
use Rattle.term_build.specs.Built.{BuilderModel}
use Rattle.value_build.specs.Making.{Making}
use Rattle.value_build.specs.Marks.{Counts, taken}
use Rattle.problem_session.specs.Changes.{changed, IsChange, problems_from, AreChanges}
use Rattle.problem_build.specs.Changes.{last_parts, Starts, parts_of_made, IsExtent, IsWithin, IsSince, Ends, IsEnded, Changes, IsChangeAnswer}
use Rattle.problem_build.specs.Laws.{parts_made}
use Rattle.problem_session.specs.declared.change.Change.{Change}
use Rattle.problem_session.specs.declared.change.Checked.{Checked}
use Rattle.problem_session.specs.declared.change.Kept.{Kept}
use Rattle.problem_build.specs.declared.script.Ending.{Ending}
use Rattle.problem_build.proofs.Reading.{whole_built}

-- ---- what begins a problem

pub starts_taken : (k : Counts) (m1 m : Making) → taken k m1 ≡ m → Starts (parts_of_made m1.made) m.made
starts_taken k m1 m e = record {
  nodes = (drop k.made.nodes m1.made.nodes, sym (take-append-drop k.made.nodes m1.made.nodes) ∙ ap (λ (x : Making). x.made.nodes ++ drop k.made.nodes m1.made.nodes) e);
  atoms = (drop k.made.atoms m1.made.atoms, sym (take-append-drop k.made.atoms m1.made.atoms) ∙ ap (λ (x : Making). x.made.atoms ++ drop k.made.atoms m1.made.atoms) e);
  forms = (drop k.made.forms m1.made.forms, sym (take-append-drop k.made.forms m1.made.forms) ∙ ap (λ (x : Making). x.made.forms ++ drop k.made.forms m1.made.forms) e);
}

pub starts_self : (m : BuilderModel) → Starts (parts_of_made m) m
starts_self m = record { nodes = ([], sym (append-nil m.nodes)); atoms = ([], sym (append-nil m.atoms)); forms = ([], sym (append-nil m.forms)) }

on-list : {A : Type 0} (xs ys zs : List A) (a b : List A) → xs ≡ ys ++ a → ys ≡ zs ++ b → xs ≡ zs ++ (b ++ a)
on-list xs ys zs a b e f = e ∙ ap (λ x. x ++ a) f ∙ append_assoc zs b a

pub starts_on : (p : Parts) (m n : BuilderModel) → Starts p m → Starts (parts_of_made m) n → Starts p n
starts_on p m n h k = record {
  nodes = (k.nodes.0 ++ h.nodes.0, on-list p.nodes m.nodes n.nodes h.nodes.0 k.nodes.0 h.nodes.1 k.nodes.1);
  atoms = (k.atoms.0 ++ h.atoms.0, on-list p.atoms m.atoms n.atoms h.atoms.0 k.atoms.0 h.atoms.1 k.atoms.1);
  forms = (k.forms.0 ++ h.forms.0, on-list p.forms m.forms n.forms h.forms.0 k.forms.0 h.forms.1 k.forms.1);
}

pub starts_back : (p : Parts) (k : Counts) (m : Making) → Starts p m.made → Starts p (taken k m).made
starts_back p k m h = starts_on p m.made (taken k m).made h (starts_taken k m (taken k m) refl)

long-list : {A : Type 0} (n : ℕ) (xs ys a : List A) → n ≡ length ys → xs ≡ ys ++ a → n ≤ length xs
long-list n xs ys a e f = let many : length xs ≡ length ys + length a = ap length f ∙ length-append ys a in omega (arith, many, e)

pub within_of : (k : Kept) (m m0 : BuilderModel) → IsExtent k m0 → Starts (parts_of_made m) m0 → IsWithin k m
within_of k m m0 e s = record {
  nodes = long-list k.nodes m.nodes m0.nodes s.nodes.0 e.nodes s.nodes.1;
  atoms = long-list k.atoms m.atoms m0.atoms s.atoms.0 e.atoms s.atoms.1;
  forms = long-list k.forms m.forms m0.forms s.forms.0 e.forms s.forms.1;
}

more-list : {A : Type 0} (n : ℕ) (xs ys a : List A) → n ≤ length ys → xs ≡ ys ++ a → n ≤ length xs
more-list n xs ys a e f = let many : length xs ≡ length ys + length a = ap length f ∙ length-append ys a in omega (arith, many, e)

pub within_more : (k : Kept) (m m0 : BuilderModel) → IsWithin k m0 → Starts (parts_of_made m) m0 → IsWithin k m
within_more k m m0 e s = record {
  nodes = more-list k.nodes m.nodes m0.nodes s.nodes.0 e.nodes s.nodes.1;
  atoms = more-list k.atoms m.atoms m0.atoms s.atoms.0 e.atoms s.atoms.1;
  forms = more-list k.forms m.forms m0.forms s.forms.0 e.forms s.forms.1;
}

-- ---- a change

list-same : {A : Type 0} (n k : ℕ) (first whole old a b new : List A) → n ≡ k → k ≡ length first → old ≡ first ++ a → whole ≡ first ++ b → new ≡ drop k whole → take n old ++ new ≡ whole
list-same n k first whole old a b new s e f g h =
    ap₂ (λ xs ys. xs ++ ys) (ap (λ j. take j old) (s ∙ e) ∙ ap (take (length first)) f ∙ take-append_seam first a)
    (h ∙ ap (λ j. drop j whole) e ∙ ap (drop (length first)) g ∙ drop-append_seam first b) ∙ sym g

module _ (p : Parts) (m0 all : BuilderModel) (k : Kept) (end : Ending) (c : Change) (e : IsExtent k m0) (s : Starts p m0) (t : Starts (parts_of_made all) m0) (i : IsSince k all end c) where
  pub changed_is : changed p c ≡ parts_made all (map axis_of end.axes.items) end.root
  changed_is =
      let axes = ap (map axis_of) i.axes in
      let nodes = list-same c.kept.nodes k.nodes m0.nodes all.nodes p.nodes s.nodes.0 t.nodes.0 _ (ap (λ (x : Kept). x.nodes) i.kept) e.nodes s.nodes.1 t.nodes.1 i.nodes in
      let atoms = list-same c.kept.atoms k.atoms m0.atoms all.atoms p.atoms s.atoms.0 t.atoms.0 _ (ap (λ (x : Kept). x.atoms) i.kept) e.atoms s.atoms.1 t.atoms.1 i.atoms in
      let forms = list-same c.kept.forms k.forms m0.forms all.forms p.forms s.forms.0 t.forms.0 _ (ap (λ (x : Kept). x.forms) i.kept) e.forms s.forms.1 t.forms.1 i.forms in
      λ n. record { axes = axes n; nodes = nodes n; atoms = atoms n; forms = forms n; root = i.root n }

pub changes_so : (bound : Option ℕ) (script : List Command) → sort_fault script ≡ None → (p : Parts) (m0 m : BuilderModel) (k : Kept) (c : Change) → IsExtent k m0 → Starts p m0 → Starts (parts_of_made m) m0 → Ends bound script k m c → Changes bound script p m c
changes_so bound script sorted p m0 m k c e s t h =
    let made = h.problem in
    let axes = map axis_of h.end.axes.items in
    let whole = parts_made h.all axes h.end.root in
    let same : changed p c ≡ whole = changed_is p m0 h.all k h.end c e s (starts_on (parts_of_made h.all) m m0 h.starts t) h.since in
    let kept = h.since.kept in
    record {
      clean = made.clean;
      built = subst (λ (q : Parts). IsBuiltOf bound script (problem_of q)) (sym same) (whole_built bound script sorted whole made.whole made.lean made.order made.ends made.problem);
      change = record {
        nodes = long-list c.kept.nodes p.nodes m0.nodes s.nodes.0 (ap (λ (x : Kept). x.nodes) kept ∙ e.nodes) s.nodes.1;
        atoms = long-list c.kept.atoms p.atoms m0.atoms s.atoms.0 (ap (λ (x : Kept). x.atoms) kept ∙ e.atoms) s.atoms.1;
        forms = long-list c.kept.forms p.forms m0.forms s.forms.0 (ap (λ (x : Kept). x.forms) kept ∙ e.forms) s.forms.1;
        graph = subst (λ (q : Parts). IsGraph q.nodes) (sym same) made.lean.nodes;
        shared = subst (λ (q : Parts). IsFormGraph q.forms) (sym same) h.shared;
        whole = subst (λ (q : Parts). IsWhole q) (sym same) made.whole;
      };
      starts = subst (λ (q : Parts). Starts q m) (sym same) (record { nodes = h.starts.nodes; atoms = h.starts.atoms; forms = h.starts.forms });
    }

-- ---- what stands behind the first ones

pub cut_is : {A B : Type 0} (f : A → B) (n : ℕ) (xs : List A) (ys : List B) → map f xs ≡ ys → map f (take (length xs - n) (drop n xs)) ≡ drop n ys
cut_is f n xs ys e = ap (map f) (ap (λ k. take k (drop n xs)) (sym (length-drop n xs)) ∙ take-length (drop n xs)) ∙ sym (drop-map f n xs) ∙ ap (drop n) e

-- ---- one change more

pub problems_more : (p : Parts) (cs : List Checked) (c : Checked) → problems_from p (cs ++ c ∷ []) ≡ problems_from p cs ++ (changed (last_parts p cs) c.change, c.extends) ∷ []
problems_more p [] c = refl
problems_more p (d ∷ cs) c = ap (λ ps. (changed p d.change, d.extends) ∷ ps) (problems_more (changed p d.change) cs c)

pub last_more : (p : Parts) (cs : List Checked) (c : Checked) → last_parts p (cs ++ c ∷ []) ≡ changed (last_parts p cs) c.change
last_more p [] c = refl
last_more p (d ∷ cs) c = last_more (changed p d.change) cs c

pub changes_more : (p : Parts) (cs : List Checked) (c : Checked) → AreChanges p cs → IsChange (last_parts p cs) c.change → AreChanges p (cs ++ c ∷ [])
changes_more p [] c h k = (k, tt)
changes_more p (d ∷ cs) c h k = (h.0, changes_more (changed p d.change) cs c h.1 k)

-- ---- what an ending answers

pub ended_changes : (bound : Option ℕ) (script : List Command) → sort_fault script ≡ None → (p : Parts) (m0 m m1 : Making) (k : Kept) (r : Result Change ReadError) → IsExtent k m0.made → Starts p m0.made → Starts (parts_of_made m.made) m0.made →
    IsEnded bound script k m.made r → OnOk r (m1 ≡ m) → IsChangeAnswer bound script p m1.made r
ended_changes bound script sorted p m0 m m1 k (Ok c) e s t h same = subst (λ (x : Making). Changes bound script p x.made c) (sym same) (changes_so bound script sorted p m0.made m.made k c e s t h)
ended_changes bound script sorted p m0 m m1 k (Err x) e s t h same = h
