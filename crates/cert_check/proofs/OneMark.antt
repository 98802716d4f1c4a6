-- Marks that are set.
use Rattle.std.proofs.Common.{◌≡◌, ℕ, zero, suc, ◌<◌, List, [], ◌∷◌, length, set, Bool, true, false, ◌&&◌, not, Some, refl, ap, ap₂, sym, ◌∙◌, arith}
use Rattle.poly_graph.specs.Problem.{Problem}
use Rattle.poly_graph.specs.Marks.{Mark, marked_yes, marked_no, is_unmarked, mark_at, undecided_in}
use Rattle.cover_model.specs.State.{undecided, with_yes, with_no, State, Loosenings, may}
use Rattle.cover_model.specs.Rules.{one, when, lemma_covers}

pub undecided_at : (marks : List Mark) (j : ℕ) → j < length marks → undecided_in marks j ≡ is_unmarked (mark_at marks j)
undecided_at [] j h = absurd (omega (arith, h))
undecided_at (m ∷ marks) zero h = refl
undecided_at (m ∷ marks) (suc j) h = undecided_at marks j (omega (arith, h))

-- of a mark that is told
pub undecided_told : (marks : List Mark) (j : ℕ) (m : Mark) (b : Bool) → j < length marks → m ≡ mark_at marks j → b ≡ is_unmarked m → b ≡ undecided_in marks j
undecided_told marks j m b h e g = g ∙ ap is_unmarked e ∙ sym (undecided_at marks j h)

pub set_twice : {A : Type 0} (xs : List A) (j : ℕ) (a b : A) → set (set xs j a) j b ≡ set xs j b
set_twice [] j a b = refl
set_twice (x ∷ xs) zero a b = refl
set_twice (x ∷ xs) (suc j) a b = ap (λ ys. x ∷ ys) (set_twice xs j a b)

abbrev state : State → List Mark → State
state S marks = record { space = S.space; marks = marks }

pub unit_one : (p : Problem) (s : Loosenings) (S : State) (j : ℕ) (ns ys : List Mark) → undecided S j ≡ true → ns ≡ set S.marks j marked_no → may p s (state S ns) ≡ false → ys ≡ set ns j marked_yes →
    Some (one (state S ys)) ≡ when (undecided S j && not (may p s (with_no S j))) (one (with_yes S j))
unit_one p s S j ns ys u n m y =
    ap (λ (ms : List Mark). Some (one (state S ms))) (y ∙ ap (λ (ms : List Mark). set ms j marked_yes) n ∙ set_twice S.marks j marked_no marked_yes)
    ∙ sym (ap₂ (λ (a : Bool) (b : Bool). when (a && not b) (one (with_yes S j))) u (ap (λ (ms : List Mark). may p s (state S ms)) (sym n) ∙ m))

pub ban_one : (lemmas : List State) (S : State) (j i : ℕ) (ns ys : List Mark) → undecided S j ≡ true → ys ≡ set S.marks j marked_yes → true ≡ lemma_covers lemmas i (state S ys) → ns ≡ set ys j marked_no →
    Some (one (state S ns)) ≡ when (undecided S j && lemma_covers lemmas i (with_yes S j)) (one (with_no S j))
ban_one lemmas S j i ns ys u y m n =
    ap (λ (ms : List Mark). Some (one (state S ms))) (n ∙ ap (λ (ms : List Mark). set ms j marked_no) y ∙ set_twice S.marks j marked_yes marked_no)
    ∙ sym (ap₂ (λ (a : Bool) (b : Bool). when (a && b) (one (with_no S j))) u (ap (λ (ms : List Mark). lemma_covers lemmas i (state S ms)) (sym y) ∙ sym m))
