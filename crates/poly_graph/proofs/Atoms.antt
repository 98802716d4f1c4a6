-- A table of atoms stays one where a new atom is added.
use Rattle.std.proofs.Common.{◌≡◌, inr, ℕ, ◌<◌, List, [], ◌∷◌, ◌++◌, map, length, true, Some, None, refl, ap, ap₂, sym, ◌∙◌, ◌+◌, subst, arith, nat_eq, eqb→eq, length-append}
use Rattle.std.proofs.lemmas.Bool.{eq-eqb}
use Rattle.std.proofs.lemmas.List.{length-map}
use Rattle.std.specs.Bool.{passes}
use Rattle.std.specs.Prelude.{slice_get}
use Rattle.std.specs.HashMap.{HashMap, get, Updates}
use Rattle.dyadic.proofs.Equal.{both_true, both_pass}
use Rattle.poly_graph.specs.contracts.node.KindPartialEq.TheImpl as kind_eq
use Rattle.poly_graph.specs.declared.node.Kind.{Kind}
use Rattle.poly_graph.specs.declared.node.Kind.TheVariants.{Le, Ge, Eq}
use Rattle.poly_graph.specs.declared.node.Atom.{Atom}
use Rattle.poly_graph.specs.Term
use Rattle.poly_graph.specs.Views.{atom_of, kind_of}
use Rattle.poly_graph.specs.AtomTable.{same_atom, most_atoms, IsNewAtom, AreAtoms, IsAtomTable, AtomInterned}
use Rattle.poly_graph.proofs.Tables.{IsTable, once, absent_new, table_add, at_end, map_end}

-- ---- `==` of atoms

same-kind : (j k : Kind) → (kind_eq.ghosts).eq j k ≡ true → kind_of j ≡ kind_of k
same-kind Le Le h = refl
same-kind Ge Ge h = refl
same-kind Eq Eq h = refl
same-kind _ _ h = cc

kind-same : (j k : Kind) → kind_of j ≡ kind_of k → (kind_eq.ghosts).eq j k ≡ true
kind-same Le Le h = refl
kind-same Ge Ge h = refl
kind-same Eq Eq h = refl
kind-same _ _ h = cc

pub atom_view : (a b : Atom) → same_atom a b ≡ true → atom_of a ≡ atom_of b
atom_view a b h = let e = both_true (nat_eq a.term b.term) ((kind_eq.ghosts).eq a.kind b.kind) h in
    ap₂ (λ (t : ℕ) (k : Term.Kind). (t, k)) (eqb→eq a.term b.term (passes _ e.0)) (same-kind a.kind b.kind e.1)

pub view_atom : (a b : Atom) → atom_of a ≡ atom_of b → same_atom a b ≡ true
view_atom a b h = both_pass (nat_eq a.term b.term) ((kind_eq.ghosts).eq a.kind b.kind) (eq-eqb a.term b.term (ap (λ (p : ℕ × Term.Kind). p.0) h)) (kind-same a.kind b.kind (ap (λ (p : ℕ × Term.Kind). p.1) h))

-- ---- the table

table : {S : Type 0} (atoms : List Atom) (numbers : HashMap Atom ℕ S) → IsAtomTable atoms numbers → IsTable atom_of same_atom atom_view view_atom atoms numbers
table atoms numbers s = record { found = s.found; known = s.known }

pub table_atoms : {S : Type 0} (atoms : List Atom) (numbers : HashMap Atom ℕ S) → IsAtomTable atoms numbers → AreAtoms (map atom_of atoms)
table_atoms atoms numbers s = record {
  few = omega (arith, length-map atoms atom_of, s.few);
  once = once atom_of same_atom atom_view view_atom atoms numbers (table atoms numbers s);
}

pub absent_is_new_atom : {S : Type 0} (atoms : List Atom) (numbers : HashMap Atom ℕ S) (q : Atom) → IsAtomTable atoms numbers → get same_atom numbers q ≡ None → IsNewAtom (map atom_of atoms) (atom_of q)
absent_is_new_atom atoms numbers q s h = absent_new atom_of same_atom atom_view view_atom atoms numbers q (table atoms numbers s) h

-- what holds after an atom is added at the end
pub record AtomAdded {S : Type 0} (value : List (ℕ × Term.Kind)) (new : List Atom) (after : HashMap Atom ℕ S) (atom : ℕ × Term.Kind) (n : ℕ) : Type 0 where
  pub kept : IsAtomTable new after
  pub interned : AtomInterned value (map atom_of new) atom n

pub atom_added : {S : Type 0} (atoms new : List Atom) (numbers after : HashMap Atom ℕ S) (atom : Atom) (n : ℕ) (value : List (ℕ × Term.Kind)) → map atom_of atoms ≡ value → IsAtomTable atoms numbers →
    n ≡ length atoms → n < most_atoms → None ≡ get same_atom numbers atom → new ≡ atoms ++ (atom ∷ []) → Updates same_atom numbers after atom (Some n) → AtomAdded value new after (atom_of atom) n
atom_added atoms new numbers after atom n value is s place few absent items u =
    let images : map atom_of new ≡ value ++ (atom_of atom ∷ []) = ap (map atom_of) items ∙ map_end atom_of atoms atom ∙ ap (λ (more : List (ℕ × Term.Kind)). more ++ (atom_of atom ∷ [])) is in
    let last : n ≡ length value = place ∙ sym (length-map atoms atom_of) ∙ ap (λ (more : List (ℕ × Term.Kind)). length more) is in
    let t = table_add atom_of same_atom atom_view view_atom atoms numbers after atom atom refl (table atoms numbers s) (sym absent) (subst (λ (k : ℕ). Updates same_atom numbers after atom (Some k)) place u) in
    let t' : IsTable atom_of same_atom atom_view view_atom new after = subst (λ (more : List Atom). IsTable atom_of same_atom atom_view view_atom more after) (sym items) t in
    let longer : length new ≡ length atoms + 1 = ap (λ (more : List Atom). length more) items ∙ length-append atoms (atom ∷ []) in record {
      kept = record { few = omega (arith, longer, place, few); found = t'.found; known = t'.known };
      interned = (
        subst (λ (more : List (ℕ × Term.Kind)). slice_get more n ≡ Some (atom_of atom)) (sym images) (subst (λ (k : ℕ). slice_get (value ++ (atom_of atom ∷ [])) k ≡ Some (atom_of atom)) (sym last) (at_end value (atom_of atom))),
        inr (images, last, subst (λ (more : List (ℕ × Term.Kind)). IsNewAtom more (atom_of atom)) is (absent_is_new_atom atoms numbers atom s (sym absent))),
      );
    }
