-- The combination that leaves nothing.
use Rattle.std.proofs.Common.{◌≡◌, ◌≢◌, ℕ, zero, suc, ◌<◌, List, [], ◌∷◌, ◌++◌, ◌+◌, get_or, length, take, false, cond, refl, ap, ap₂, sym, subst, ◌∙◌, arith, true≢false}
use Rattle.std.proofs.lemmas.List.{take_more}
use Rattle.dyadic.specs.declared.dy.Dy.{Dy}
use Rattle.dyadic.specs.Rounding.{Dyadic}
use Rattle.dyadic.specs.Views.{dyadic_of}
use Rattle.interval_model.specs.Interval.{Interval, interval_sum, interval_product}
use Rattle.interval_model.specs.Space.{Space, middle}
use Rattle.poly_graph.specs.Marks.{Mark}
use Rattle.poly_graph.specs.Problem.{Problem, atom_at}
use Rattle.poly_graph.specs.ProblemViews.{Parts, problem_of}
use Rattle.cover_model.specs.Space.{range}
use Rattle.cover_model.specs.OffRange.{off_range}
use Rattle.cover_model.specs.Combination.{Multipliers, only, allowed_range, marked_range, left_of_space, expansion}
use Rattle.cover_model.specs.Rules.{combining}
use Rattle.cover_model.specs.State.{State, Loosenings, state_of, margin_of}
use Rattle.cover_model.specs.Views.{multipliers_of}
use Rattle.cover_data.specs.declared.margins.Margins.{Margins}
use Rattle.cover_data.specs.Margins.{loosenings_of}
use Rattle.ival.specs.declared.narrowed.Narrowed.{Narrowed}
use Rattle.ival.specs.declared.narrowed.Narrowed.TheVariants.{Same, Less, Empty}
use Rattle.ival.specs.Narrows.{IsNarrowed}
use Rattle.cover_rule.specs.declared.voiding.Voiding.{Voiding}
use Rattle.cover_rule.specs.Pairs.{Pair, pair_at, marked_pair, marked_pairs, AreMarkedIn, IsNoted, HasVoiding}

-- the kth pair
pub pair_of_code : (marks : List Mark) (ms : List (ℕ × Dy)) (k : ℕ) (x : ℕ × Dy) (d : Pair) → k < length ms → x ≡ get_or ms k x → get_or (marked_pairs marks (multipliers_of ms)) k d ≡ marked_pair marks x.0 x.1
pair_of_code marks [] k x d h e = absurd (omega arith)
pair_of_code marks (m ∷ ms) zero x d h e = ap (λ (y : ℕ × Dy). marked_pair marks y.0 y.1) (sym e)
pair_of_code marks (m ∷ ms) (suc k) x d h e = pair_of_code marks ms k x d (omega arith) e

pub length_pairs : (marks : List Mark) (ms : List (ℕ × Dy)) → length (marked_pairs marks (multipliers_of ms)) ≡ length ms
length_pairs marks [] = refl
length_pairs marks (m ∷ ms) = ap suc (length_pairs marks ms)

code-pair : (ms : List (ℕ × Dy)) (k : ℕ) (x : ℕ × Dy) (d : ℕ × Dyadic) → k < length ms → x ≡ get_or ms k x → get_or (multipliers_of ms) k d ≡ (x.0, dyadic_of x.1)
code-pair [] k x d h e = absurd (omega arith)
code-pair (m ∷ ms) zero x d h e = ap (λ (y : ℕ × Dy). (y.0, dyadic_of y.1)) (sym e)
code-pair (m ∷ ms) (suc k) x d h e = code-pair ms k x d (omega arith) e

length-code : (ms : List (ℕ × Dy)) → length (multipliers_of ms) ≡ length ms
length-code [] = refl
length-code (m ∷ ms) = ap suc (length-code ms)

-- its atom has a mark
pub atom_marked : (marks : List Mark) (ms : List (ℕ × Dy)) (k : ℕ) (x : ℕ × Dy) → AreMarkedIn marks ms → k < length ms → x ≡ get_or ms k x → x.0 < length marks
atom_marked marks ms k x h l e =
    let d : ℕ × Dyadic = (x.0, dyadic_of x.1) in let there = h k d (omega (arith, l, length-code ms)) in
    omega (arith, there, ap (λ (y : ℕ × Dyadic). y.0) (code-pair ms k x d l e))

-- one pair more
pub one_more : (marks : List Mark) (ms : List (ℕ × Dy)) (k : ℕ) (x : ℕ × Dy) (ys : List Pair) (y : Pair) → k < length ms → x ≡ get_or ms k x → y ≡ marked_pair marks x.0 x.1 →
    ys ≡ take k (marked_pairs marks (multipliers_of ms)) → ys ++ (y ∷ []) ≡ take (k + 1) (marked_pairs marks (multipliers_of ms))
one_more marks ms k x ys y h e f g =
    let xs = marked_pairs marks (multipliers_of ms) in
    ap₂ (λ (zs : List Pair) (z : Pair). zs ++ (z ∷ [])) g (f ∙ sym (pair_of_code marks ms k x y h e)) ∙ sym (take_more xs k y (omega (arith, h, length_pairs marks ms)))

-- ---- combinations of the same pairs leave the same

same-multipliers : (marks marks' : List Mark) (ms ms' : Multipliers) → marked_pairs marks ms ≡ marked_pairs marks' ms' → ms ≡ ms'
same-multipliers marks marks' [] [] h = refl
same-multipliers marks marks' [] (x ∷ ms') h = cc
same-multipliers marks marks' (x ∷ ms) [] h = cc
same-multipliers marks marks' ((j, l) ∷ ms) ((j', l') ∷ ms') h =
    let first : pair_at marks (j, l) ≡ pair_at marks' (j', l') = cc in let rest : marked_pairs marks ms ≡ marked_pairs marks' ms' = cc in
    ap₂ (λ (x : ℕ × Dyadic) (xs : Multipliers). x ∷ xs) (ap (λ (p : Pair). (p.atom, p.multiplier)) first) (same-multipliers marks marks' ms ms' rest)

same-allowed : (p : Problem) (m : Dyadic) (marks marks' : List Mark) (ms ms' : Multipliers) → marked_pairs marks ms ≡ marked_pairs marks' ms' →
    allowed_range (marked_range p m marks) ms ≡ allowed_range (marked_range p m marks') ms'
same-allowed p m marks marks' [] [] h = refl
same-allowed p m marks marks' [] (x ∷ ms') h = cc
same-allowed p m marks marks' (x ∷ ms) [] h = cc
same-allowed p m marks marks' ((j, l) ∷ ms) ((j', l') ∷ ms') h =
    let first : pair_at marks (j, l) ≡ pair_at marks' (j', l') = cc in let rest : marked_pairs marks ms ≡ marked_pairs marks' ms' = cc in
    ap₂ (λ (i : Interval) (x : Pair). interval_sum i (interval_product (only x.multiplier) (cond x.is_off (off_range m (atom_at p x.atom).1) (range m (atom_at p x.atom).1))))
    (same-allowed p m marks marks' ms ms' rest) first

pub same_combining : (p : Problem) (s : Loosenings) (space : Space) (marks marks' : List Mark) (ms ms' : Multipliers) → marked_pairs marks ms ≡ marked_pairs marks' ms' →
    combining p s (state_of space marks) ms ≡ combining p s (state_of space marks') ms'
same_combining p s space marks marks' ms ms' h =
    ap₂ (λ (i : Interval) (xs : Multipliers). left_of_space space (middle space) i (expansion p space (middle space) xs)) (same-allowed p (margin_of s) marks marks' ms ms' h) (same-multipliers marks marks' ms ms' h)

-- ---- what is known

pub nothing_noted : (p : Parts) (m : Margins) (space : Space) (v : Voiding) → v.known ≡ false → HasVoiding p m space v
nothing_noted p m space v h = record { empty = λ k marks ms e. absurd (true≢false (sym k ∙ h)) }

-- what a combination tells
pub combination_noted : (p : Parts) (m : Margins) (S : State) (new : Space) (r : Narrowed) (ms : Multipliers) (v v' : Voiding) → IsNarrowed S.space new (combining (problem_of p) (loosenings_of m) S ms) r →
    (r ≢ Empty → v' ≡ v) → (r ≡ Empty → IsNoted S.marks ms v') → HasVoiding p m S.space v → HasVoiding p m S.space v'
combination_noted p m S new Empty ms v v' n other noted h = record {
  empty = λ k marks ms' e.
      same_combining (problem_of p) (loosenings_of m) S.space marks S.marks ms' ms (sym e ∙ noted refl k) ∙ n.0;
}
combination_noted p m S new Same ms v v' n other noted h = subst (HasVoiding p m S.space) (sym (other (λ e. cc))) h
combination_noted p m S new Less ms v v' n other noted h = subst (HasVoiding p m S.space) (sym (other (λ e. cc))) h
