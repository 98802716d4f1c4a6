-- Marks of a group of atoms, one after the other.
use Rattle.std.proofs.Common.{◌≡◌, ℕ, zero, suc, ◌+◌, ◌<◌, ◌≤◌, List, [], ◌∷◌, length, drop, get_or, Bool, true, false, IsTrue, refl, ap, sym, ◌∙◌, subst, arith, true≢false}
use Rattle.std.proofs.lemmas.List.{drop_more, drop_all}
use Rattle.dyadic.proofs.Equal.{both_true}
use Rattle.cover_model.specs.State.{State, undecided, with_yes}
use Rattle.cover_model.specs.Rules.{are_undecided, with_all_yes}
use Rattle.cover_data.proofs.Withins.{undecided_below}

-- an atom of a group without marks is there
pub group_below : (S : State) (js : List ℕ) (k : ℕ) → IsTrue (are_undecided S js) → k < length js → get_or js k 0 < length S.marks
group_below S [] k e h = absurd (omega (arith, h))
group_below S (j ∷ js) zero e h = undecided_below S.marks j (both_true (undecided S j) (are_undecided S js) e).0
group_below S (j ∷ js) (suc k) e h = group_below S js k (both_true (undecided S j) (are_undecided S js) e).1 (omega (arith, h))

pub yes_next : (S : State) (js : List ℕ) (k : ℕ) → k < length js → with_all_yes S (drop k js) ≡ with_all_yes (with_yes S (get_or js k 0)) (drop (k + 1) js)
yes_next S js k h = ap (with_all_yes S) (drop_more js k 0 h)

pub yes_done : (S : State) (js : List ℕ) (k : ℕ) → length js ≤ k → with_all_yes S (drop k js) ≡ S
yes_done S js k h = ap (with_all_yes S) (drop_all k js h)
