-- What is known of a space.
use Rattle.std.proofs.Common.{◌≡◌, ◌≢◌, ℕ, ◌<◌, ◌≤◌, arith, List, Bool, true, false, not, length, get_or, set, get_or-set_other, ⊎_elim, refl, ap, sym, subst, ◌∙◌, true≢false}
use Rattle.std.proofs.lemmas.Bool.{cases_eq, cases_lt}
use Rattle.std.proofs.lemmas.List.{length-map, get_or_past}
use Rattle.interval_model.specs.Interval.{nothing}
use Rattle.poly_graph.specs.Term.{Node, graph_terms}
use Rattle.poly_graph.specs.Problem.{atom_at}
use Rattle.poly_graph.proofs.Graphs.{length_terms}
use Rattle.cover_model.specs.Space.{enclosure, range}
use Rattle.cover_model.specs.State.{margin_of}
use Rattle.cover_model.specs.Narrowed.{enclosures}
use Rattle.cover_model.specs.NodeEnclosure.{row}
use Rattle.ival.specs.RowViews.{is_marked}
use Rattle.hc4.specs.Apart.{IsApart}
use Rattle.hc4.proofs.Leaves.{leaves_same}
use Rattle.interval_model.specs.Space.{Space}
use Rattle.poly_graph.specs.ProblemViews.{Parts, problem_of}
use Rattle.cover_model.specs.State.{State}
use Rattle.cover_model.specs.Rules.{narrowing}
use Rattle.cover_model.specs.Honest.{is_some_space}
use Rattle.cover_data.specs.declared.margins.Margins.{Margins}
use Rattle.cover_data.specs.Margins.{loosenings_of}
use Rattle.ival.specs.declared.narrowed.Narrowed.{Narrowed}
use Rattle.ival.specs.declared.narrowed.Narrowed.TheVariants.{Same, Less, Empty}
use Rattle.ival.specs.Narrows.{IsNarrowed}
use Rattle.cover_rule.specs.Serves.{IsKnown, leaves_some}

-- nothing
pub nothing_known : (p : Parts) (m : Margins) (space : Space) (leaves : List Bool) (unsure : Bool) → ((j : ℕ) → get_or leaves j false ≡ false) → unsure ≡ false → IsKnown p m space leaves unsure
nothing_known p m space leaves unsure none e = record {
  leaves = λ j l h. absurd (true≢false (sym h ∙ none j));
  unsure = λ h. absurd (true≢false (sym h ∙ e));
}

-- one atom more
with-one : (p : Parts) (m : Margins) (space : Space) (j : ℕ) (xs : List Bool) (unsure : Bool) → leaves_some p m space j ≡ true → IsKnown p m space xs unsure → IsKnown p m space (set xs j true) unsure
with-one p m space j xs unsure some k = record {
  leaves = λ i l h. ⊎_elim
      (λ (same : i ≡ j). subst (λ (n : ℕ). leaves_some p m space n ≡ true) (sym same) some)
      (λ (other : i ≢ j). k.leaves i l (sym (get_or-set_other xs j i true false other) ∙ h))
      (cases_eq i j);
  unsure = k.unsure;
}

-- what a narrowing tells
pub noted : (p : Parts) (m : Margins) (S : State) (new : Space) (r : Narrowed) (j : ℕ) (xs ys : List Bool) (unsure : Bool) →
    IsNarrowed S.space new (narrowing (problem_of p) (loosenings_of m) S j) r → (r ≡ Empty → ys ≡ xs) → (r ≢ Empty → ys ≡ set xs j true) → IsKnown p m S.space xs unsure → IsKnown p m S.space ys unsure
noted p m S new Empty j xs ys unsure n none some k = subst (λ (zs : List Bool). IsKnown p m S.space zs unsure) (sym (none refl)) k
noted p m S new Same j xs ys unsure n none some k =
    subst (λ (zs : List Bool). IsKnown p m S.space zs unsure) (sym (some (λ h. cc))) (with-one p m S.space j xs unsure (ap is_some_space n.0) k)
noted p m S new Less j xs ys unsure n none some k =
    subst (λ (zs : List Bool). IsKnown p m S.space zs unsure) (sym (some (λ h. cc))) (with-one p m S.space j xs unsure (ap is_some_space n.0) k)

-- what is not
pub is_not : (b t : Bool) → b ≡ t → not b ≡ true → t ≡ false
is_not true t e h = absurd (true≢false (sym h))
is_not false t e h = sym e

-- the row of a node past the last one
past-rows : (space : Space) (nodes : List Node) (k : ℕ) → length nodes ≤ k → row (enclosures space nodes) k ≡ nothing
past-rows space nodes k h = get_or_past (enclosures space nodes) k nothing (let e : length (enclosures space nodes) ≡ length nodes = length-map (graph_terms nodes) (enclosure space) ∙ length_terms nodes in omega (arith, e, h))

-- what is left of it where an axis changed, of atoms whose nodes have no mark
pub still_known : (p : Parts) (m : Margins) (was now : Space) (marks xs ys : List Bool) (unsure is_unsure : Bool) → IsApart p.nodes (enclosures was p.nodes) (enclosures now p.nodes) marks →
    ((j : ℕ) → j < length p.atoms → get_or ys j false ≡ true → (get_or xs j false ≡ true) × (is_marked marks (atom_at (problem_of p) j).0 ≡ false)) → is_unsure ≡ false → IsKnown p m was xs unsure → IsKnown p m now ys is_unsure
still_known p m was now marks xs ys unsure is_unsure apart kept e k = record {
  leaves = λ j l h.
      let x = kept j l h in
      sym (leaves_same p.nodes was now marks (atom_at (problem_of p) j).0 (range (margin_of (loosenings_of m)) (atom_at (problem_of p) j).1) same apart.down x.1) ∙ k.leaves j l x.0;
  unsure = λ h. absurd (true≢false (sym h ∙ e));
}
  where
    same : (i : ℕ) → is_marked marks i ≡ false → row (enclosures was p.nodes) i ≡ row (enclosures now p.nodes) i
    same i h = ⊎_elim (λ (less : i < length p.nodes). apart.same i less h) (λ (past : length p.nodes ≤ i). past-rows was p.nodes i past ∙ sym (past-rows now p.nodes i past)) (cases_lt i (length p.nodes))
