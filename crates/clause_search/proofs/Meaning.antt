-- What follows from a form's clauses holds of states.
use Rattle.std.proofs.Common.{◌≡◌, ◌∙◌, inl, inr, refl, sym, ap, ℕ, zero, suc, List, [], ◌∷◌, Bool, true, false, not, ◌&&◌, ◌||◌, IsTrue, true≢false}
use Rattle.std.specs.Prelude.{slice_set}
use Rattle.poly_graph.proofs.Bools.{or_first, or_second}
use Rattle.poly_graph.proofs.Forms.{rises}
use Rattle.poly_graph.proofs.Marks.{set_or_same}
use Rattle.poly_graph.specs.Form.{form_truth}
use Rattle.poly_graph.specs.Problem.{Problem}
use Rattle.poly_graph.specs.ProblemViews.{Parts, problem_of}
use Rattle.poly_graph.specs.Marks.{Mark, marked_yes, marked_no, unmarked, mark_at, is_yes, is_no, is_unmarked, undecided_in}
use Rattle.cover_model.specs.State.{State, Loosenings, margin_of, in_yes, in_no, misses, undecided, with_no, may, may_atom, domain_allows}
use Rattle.clause_search.specs.declared.literal.Variable.{Variable}
use Rattle.clause_search.specs.declared.literal.Variable.TheVariants.{Atom, BoolIs, Helper}
use Rattle.clause_search.specs.Clauses.{Cnf, Assignment, IsFormOf, literal_truth, clauses_truth}
use Rattle.clause_search.specs.Encoding.{literal}
use Rattle.clause_search.specs.declared.table.Value.{Value}
use Rattle.clause_search.specs.declared.table.Value.TheVariants.{Open, True, False}
use Rattle.clause_search.specs.declared.table.Table.{Table}
use Rattle.clause_search.specs.Table.{value_at, stands, is_true}
use Rattle.clause_search.specs.Entailed.{IsModel, Entails, HasNoModel}
use Rattle.clause_search.specs.Agrees.{AgreesWith, excludes_atom}

-- ---- small steps

not-or : (x y : Bool) → x ≡ false → y ≡ false → IsTrue (not (x || y))
not-or x y e f = ap (λ (b : Bool). not (b || y)) e ∙ ap (λ (b : Bool). not b) f

-- what stands one way does not stand the other way
pub other_way : (v : Value) → IsTrue (stands v false) → stands v true ≡ false
other_way Open h = absurd (true≢false (sym h))
other_way True h = absurd (true≢false (sym h))
other_way False h = refl

excluded-may-not : (n m : Bool) → IsTrue (n || m) → (not n && not m) ≡ false
excluded-may-not true m h = refl
excluded-may-not false true h = refl
excluded-may-not false false h = absurd (true≢false (sym h))

pub false_of_not : (b : Bool) → IsTrue (not b) → b ≡ false
false_of_not true h = absurd (true≢false (sym h))
false_of_not false h = refl

not_of-false : (b : Bool) → (IsTrue b → ⊥) → IsTrue (not b)
not_of-false true h = absurd (h refl)
not_of-false false h = refl

-- ---- the assignment of a state: what the state does not exclude, and what was assumed true

module _ (p : Parts) (s : Loosenings) (S : State) (assumed : Table) where
  abbrev state_atoms : ℕ → Bool
  state_atoms j = may_atom (problem_of p) s S j || is_true assumed (literal (Atom j) true)

  abbrev state_bools : ℕ → Bool → Bool
  state_bools i v = domain_allows S.space i v || is_true assumed (literal (BoolIs i v) true)

  abbrev with_helpers : (ℕ → Bool) → Assignment
  with_helpers h = record { atoms = state_atoms; bools = state_bools; helpers = h }

  -- where the form may hold, it is true under that assignment
  form-true : IsTrue (may (problem_of p) s S) → IsTrue (form_truth state_atoms state_bools (problem_of p).form)
  form-true m = rises (may_atom (problem_of p) s S) state_atoms (domain_allows S.space) state_bools
      (λ j h. or_first (may_atom (problem_of p) s S j) (is_true assumed (literal (Atom j) true)) h)
      (λ i v h. or_first (domain_allows S.space i v) (is_true assumed (literal (BoolIs i v) true)) h)
      (problem_of p).form m

  module _ (agrees : AgreesWith (problem_of p) s S assumed) (none : (k : ℕ) → value_at assumed (Helper k) ≡ Open) (h : ℕ → Bool) where
    atom-holds : (j : ℕ) (positive : Bool) → IsTrue (is_true assumed (literal (Atom j) positive)) → IsTrue (literal_truth (with_helpers h) (literal (Atom j) positive))
    atom-holds j true e = or_second (may_atom (problem_of p) s S j) (is_true assumed (literal (Atom j) true)) e
    atom-holds j false e = not-or (may_atom (problem_of p) s S j) (is_true assumed (literal (Atom j) true))
        (excluded-may-not (in_no S j) (misses (problem_of p) (margin_of s) S.space j) (agrees.false_atoms j e)) (other_way (value_at assumed (Atom j)) e)

    bool-holds : (i : ℕ) (v positive : Bool) → IsTrue (is_true assumed (literal (BoolIs i v) positive)) → IsTrue (literal_truth (with_helpers h) (literal (BoolIs i v) positive))
    bool-holds i v true e = or_second (domain_allows S.space i v) (is_true assumed (literal (BoolIs i v) true)) e
    bool-holds i v false e = not-or (domain_allows S.space i v) (is_true assumed (literal (BoolIs i v) true))
        (false_of_not (domain_allows S.space i v) (agrees.false_bools i v e)) (other_way (value_at assumed (BoolIs i v)) e)

    assumed-holds : (v : Variable) (positive : Bool) → IsTrue (is_true assumed (literal v positive)) → IsTrue (literal_truth (with_helpers h) (literal v positive))
    assumed-holds (Atom j) positive e = atom-holds j positive e
    assumed-holds (BoolIs i v) positive e = bool-holds i v positive e
    assumed-holds (Helper k) positive e = absurd (true≢false (sym e ∙ ap (λ (x : Value). stands x positive) (none k)))

    state_model : (c : Cnf) → IsTrue (clauses_truth (with_helpers h) c.clauses) → IsModel c.clauses assumed (with_helpers h)
    state_model c e = record { clauses_hold = e; assumed_hold = λ l k. assumed-holds l.variable l.positive k }

  -- where the form may hold at a state that agrees, there is a model of the state's assignment
  pub some_model : (c : Cnf) → IsFormOf p c → AgreesWith (problem_of p) s S assumed → ((k : ℕ) → value_at assumed (Helper k) ≡ Open) → IsTrue (may (problem_of p) s S) → (h : ℕ → Bool) × IsModel c.clauses assumed (with_helpers h)
  some_model c f agrees none m = let e = (f.same state_atoms state_bools).0 (form-true m) in (e.0, state_model agrees none e.0 c e.1)

  -- without a model, the form may not hold
  pub may_not : (c : Cnf) → IsFormOf p c → AgreesWith (problem_of p) s S assumed → ((k : ℕ) → value_at assumed (Helper k) ≡ Open) → HasNoModel c.clauses assumed → IsTrue (not (may (problem_of p) s S))
  may_not c f agrees none n = not_of-false (may (problem_of p) s S) (λ m. let e = some_model c f agrees none m in n (with_helpers e.0) e.1)

-- ---- with a forced atom marked no

set-there : (marks : List Mark) (j : ℕ) (m : Mark) → IsTrue (undecided_in marks j) → mark_at (slice_set marks j m) j ≡ m
set-there [] j m h = absurd (true≢false (sym h))
set-there (x ∷ marks) zero m h = refl
set-there (x ∷ marks) (suc j) m h = set-there marks j m h

no-yes : (m : Mark) → IsTrue (is_unmarked m) → is_yes m ≡ false
no-yes marked_yes h = absurd (true≢false (sym h))
no-yes marked_no h = refl
no-yes unmarked h = refl

not-yes : (marks : List Mark) (j : ℕ) → IsTrue (undecided_in marks j) → is_yes (mark_at marks j) ≡ false
not-yes [] j h = absurd (true≢false (sym h))
not-yes (x ∷ marks) zero h = no-yes x h
not-yes (x ∷ marks) (suc j) h = not-yes marks j h

module _ (p : Problem) (s : Loosenings) (S : State) (assumed : Table) (agrees : AgreesWith p s S assumed) (j : ℕ) (u : IsTrue (undecided S j)) where
  still-excluded : (i : ℕ) → IsTrue (excludes_atom p s S i) → IsTrue (excludes_atom p s (with_no S j) i)
  still-excluded i h = elim (set_or_same S.marks j marked_no i) [
    | inl e ↦ or_first (in_no (with_no S j) i) (misses p (margin_of s) S.space i) (ap is_no e.1)
    | inr e ↦ ap (λ (m : Mark). is_no m || misses p (margin_of s) S.space i) e ∙ h
  ]

  still-yes : (i : ℕ) → IsTrue (in_yes S i) → IsTrue (in_yes (with_no S j) i)
  still-yes i h = elim (set_or_same S.marks j marked_no i) [
    | inl e ↦ absurd (true≢false (sym h ∙ ap (λ (k : ℕ). is_yes (mark_at S.marks k)) (sym e.0) ∙ not-yes S.marks j u))
    | inr e ↦ ap is_yes e ∙ h
  ]

  pub agrees_with_no : AgreesWith p s (with_no S j) assumed
  agrees_with_no = record {
    false_atoms = λ i h. still-excluded i (agrees.false_atoms i h);
    true_atoms = λ i h. still-yes i (agrees.true_atoms i h);
    false_bools = agrees.false_bools;
  }

  -- the atom is false in the assignment of the state where it is marked no
  pub forced_false : (may_atom p s (with_no S j) j || is_true assumed (literal (Atom j) true)) ≡ false
  forced_false = go (is_true assumed (literal (Atom j) true)) refl
    where
      go : (b : Bool) → is_true assumed (literal (Atom j) true) ≡ b → (may_atom p s (with_no S j) j || b) ≡ false
      go true e = absurd (true≢false (sym (agrees.true_atoms j e) ∙ not-yes S.marks j u))
      go false e = ap (λ (m : Mark). (not (is_no m) && not (misses p (margin_of s) S.space j)) || false) (set-there S.marks j marked_no u)

-- an atom that follows may be marked yes where it has no mark
pub forced_means : (p : Parts) (s : Loosenings) (S : State) (assumed : Table) (c : Cnf) (j : ℕ) → IsFormOf p c → AgreesWith (problem_of p) s S assumed → ((k : ℕ) → value_at assumed (Helper k) ≡ Open) →
    Entails c.clauses assumed (literal (Atom j) true) → IsTrue (undecided S j) → IsTrue (not (may (problem_of p) s (with_no S j)))
forced_means p s S assumed c j f agrees none entails u =
    let agrees' = agrees_with_no (problem_of p) s S assumed agrees j u in
    not_of-false (may (problem_of p) s (with_no S j)) (λ m. let e = some_model p s (with_no S j) assumed c f agrees' none m in
    true≢false (sym (entails (with_helpers p s (with_no S j) assumed e.0) e.1) ∙ forced_false (problem_of p) s S assumed agrees j u))
