-- Ends that part a state, or find it stuck.
use Rattle.std.proofs.Common.{◌≡◌, ◌⊎◌, inl, inr, ℕ, zero, suc, ◌+◌, ◌<◌, [], ◌∷◌, length, Bool, true, false, not, ◌&&◌, IsTrue, Option, Some, None, refl, sym, ap, ◌∙◌, subst, arith, true≢false, add-one}
use Rattle.dyadic.specs.Rounding.{mid}
use Rattle.dyadic.proofs.Equal.{both_true, both_pass}
use Rattle.interval_model.specs.Space.{real_domain, bool_domain, Space, is_upright, is_undecided, test_axis, widest}
use Rattle.cover_model.specs.Space.{IsGridSpace}
use Rattle.poly_graph.specs.Problem.{Problem, IsProblem}
use Rattle.cover_model.specs.State.{State, Loosenings}
use Rattle.cover_model.specs.Rules.{Line, cut, is_stuck_atom}
use Rattle.cover_model.specs.Honest.{not_shown, settled, is_wide, may_be_cut, is_middle_at, is_small, none_below}
use Rattle.poly_graph.proofs.Bools.{not_both}
use Rattle.cover_model.proofs.Stuck.{some_atom_is_stuck}
use Rattle.cover_rule.specs.declared.refusal.PatchRefusal.{PatchRefusal}
use Rattle.cover_rule.specs.declared.refusal.PatchRefusal.TheVariants.{NotInside, NotStuck, NotHonest, Decided}
use Rattle.cover_rule.specs.Models.{PatchModel}
use Rattle.cover_rule.specs.Patch.{problem_in, loosenings_in, now_in}
use Rattle.cover_rule.specs.Refusals.{unless, then_by, if_ended, is_decided, cut_line, cut_test, cut_refusal, cut_by, ended_if, flip_refusal, stuck_refusal}
use Rattle.cover_rule.proofs.Helds.{neither}
use Rattle.cover_rule.proofs.Cuts.{cut_is, widest_cuts, wide_may}
use Rattle.box_worker.specs.Attempts.{Attempts, CutAttempt, CutAttemptAt, WidestAttempt, Continues, IsDue}
use Rattle.box_worker.specs.Ended.{leaves_some, is_left}
use Rattle.box_worker.proofs.Conjuncts.{some_none, open_not_ended}
use Rattle.box_worker.proofs.Small.{small_reals, small_unless_wide}

is-false : (b : Bool) → (IsTrue b → ⊥) → b ≡ false
is-false true f = absurd (f refl)
is-false false f = refl

-- ---- flips

undecided-not-decided : (i : ℕ) (space : Space) → IsTrue (test_axis is_undecided i space) → test_axis is_decided i space ≡ false
undecided-not-decided i [] h = refl
undecided-not-decided zero (real_domain l h ∷ space) k = refl
undecided-not-decided zero (bool_domain f t ∷ space) k = ap not k
undecided-not-decided (suc i) (d ∷ space) k = undecided-not-decided i space k

flip-passes : (P : PatchModel) → P.kept.end ≡ None → (d u h : Bool) → d ≡ false → IsTrue u → IsTrue h →
    then_by (if_ended P.kept) (then_by (unless (not d) Decided) (then_by (unless u NotInside) (unless h NotHonest))) ≡ None
flip-passes P e false true true x y z = ap (λ (o : Option PatchRefusal). then_by o None) (open_not_ended P e)
flip-passes P e true u h x y z = absurd (true≢false x)
flip-passes P e false false h x y z = absurd (true≢false (sym y))
flip-passes P e false true false x y z = absurd (true≢false (sym z))

pub flip_refused : (P Q done : PatchModel) (i : ℕ) → IsDue P → Attempts (flip_refusal P i) P done Q false → test_axis is_undecided i (now_in P).space ≡ false
flip_refused P Q done i due a = is-false (test_axis is_undecided i (now_in P).space)
    (λ h. some_none (flip_refusal P i) a.0
    (flip-passes P due.open_end (test_axis is_decided i (now_in P).space) (test_axis is_undecided i (now_in P).space) (not_shown (problem_in P) (loosenings_in P) (now_in P) && settled (problem_in P) (loosenings_in P) (now_in P))
    (undecided-not-decided i (now_in P).space h) h
    (both_pass (not_shown (problem_in P) (loosenings_in P) (now_in P)) (settled (problem_in P) (loosenings_in P) (now_in P)) due.shown due.settled)))

-- ---- cuts

cut-passes : (P : PatchModel) → P.kept.end ≡ None → (l : Line) (o : Option Line) → o ≡ Some l → cut_test P (Some l) ≡ None → then_by (if_ended P.kept) (cut_test P o) ≡ None
cut-passes P e l o h k = ap (λ (x : Option PatchRefusal). then_by x (cut_test P o)) (open_not_ended P e) ∙ ap (cut_test P) h ∙ k

-- where the widest axis is not cut, it is not wide
pub widest_refused : (P Q : PatchModel) → IsDue P → WidestAttempt P Q false → small_reals P.margins.least_bits (now_in P).space ≡ true
widest_refused P Q due a =
    let space = (now_in P).space in let w = P.margins.least_bits in let s = loosenings_in P in
    let shown = not_shown (problem_in P) s (now_in P) in let ready = settled (problem_in P) s (now_in P) in
    small_unless_wide w space (λ axis e. is-false (is_wide w axis (widest space)) (λ wide.
    let r = widest_cuts space axis e in let l = r.0 in let h = r.1 in let cuts = r.2 in
    let b : CutAttempt axis P Q false = subst (λ (o : Option ℕ). CutAttemptAt o P Q false) e a in
    some_none (cut_refusal P axis) b.0 (cut-passes P due.open_end (cut axis (mid l h)) (cut_line axis space) cuts.line
    (ap (λ (b : Bool). unless b NotHonest)
    (both_pass (shown && ready && may_be_cut w s axis space) (is_middle_at axis (mid l h) space)
    (both_pass (shown && ready) (may_be_cut w s axis space) (both_pass shown ready due.shown due.settled) (wide_may w s axis space l h cuts e wide)) cuts.middle)))))

cut-done : (P : PatchModel) (axis : ℕ) → cut_refusal P axis ≡ None → Continues P (cut_by P axis) × IsTrue (is_left (cut_by P axis).kept.end)
cut-done P axis e = by-line (cut_line axis (now_in P).space) refl (neither (if_ended P.kept) (cut_test P (cut_line axis (now_in P).space)) e).1
  where
    by-line : (o : Option Line) → cut_line axis (now_in P).space ≡ o → cut_test P o ≡ None → Continues P (ended_if P o) × IsTrue (is_left (ended_if P o).kept.end)
    by-line None q k = cc
    by-line (Some l) q k = (record { problem = refl; margins = refl; first = refl; quoted = refl }, subst (λ (x : Line). IsTrue (leaves_some x)) (sym (cut_is axis (now_in P).space l q).is) refl)

unchanged : (P : PatchModel) → Continues P P
unchanged P = record { problem = refl; margins = refl; first = refl; quoted = refl }

-- what an attempt to cut an axis comes to, if there is one
pub cut_continues : (o : Option ℕ) (P Q : PatchModel) (b : Bool) → CutAttemptAt o P Q b → Continues P Q
cut_continues None P Q b h = subst (Continues P) (sym h.1) (unchanged P)
cut_continues (Some axis) P Q true h = subst (Continues P) (sym h.1) (cut-done P axis h.0).0
cut_continues (Some axis) P Q false h = subst (Continues P) (sym h.1) (unchanged P)

pub cut_parted : (o : Option ℕ) (P Q : PatchModel) (b : Bool) → CutAttemptAt o P Q b → b ≡ true → IsTrue (is_left Q.kept.end)
cut_parted None P Q b h e = absurd (true≢false (sym e ∙ h.0))
cut_parted (Some axis) P Q true h e = subst (λ (X : PatchModel). IsTrue (is_left X.kept.end)) (sym h.1) (cut-done P axis h.0).1
cut_parted (Some axis) P Q false h e = absurd (true≢false (sym e))

pub cut_same : (o : Option ℕ) (P Q : PatchModel) (b : Bool) → CutAttemptAt o P Q b → b ≡ false → Q ≡ P
cut_same None P Q b h e = h.1
cut_same (Some axis) P Q true h e = absurd (true≢false e)
cut_same (Some axis) P Q false h e = h.1

-- ---- stuck states

stuck-passes : (P : PatchModel) → P.kept.end ≡ None → (x h : Bool) → IsTrue x → IsTrue h → then_by (if_ended P.kept) (then_by (unless x NotStuck) (unless h NotHonest)) ≡ None
stuck-passes P e true true x y = ap (λ (o : Option PatchRefusal). then_by o None) (open_not_ended P e)
stuck-passes P e false h x y = absurd (true≢false (sym x))
stuck-passes P e true false x y = absurd (true≢false (sym y))

pub stuck_refused : (P Q done : PatchModel) (j : ℕ) → IsDue P → IsTrue (is_small P.margins.least_bits (now_in P).space) → none_below (problem_in P) (loosenings_in P) (now_in P) j ≡ true →
    Attempts (stuck_refusal P j) P done Q false → none_below (problem_in P) (loosenings_in P) (now_in P) (j + 1) ≡ true
stuck_refused P Q done j due small below a =
    let p = problem_in P in let s = loosenings_in P in let S = now_in P in let t = is_small P.margins.least_bits S.space in
    let none : is_stuck_atom p s S j ≡ false = is-false (is_stuck_atom p s S j)
    (λ h. some_none (stuck_refusal P j) a.0 (stuck-passes P due.open_end (is_stuck_atom p s S j && t) (not_shown p s S && settled p s S && t && none_below p s S j)
    (both_pass (is_stuck_atom p s S j) t h small)
    (both_pass (not_shown p s S && settled p s S && t) (none_below p s S j)
    (both_pass (not_shown p s S && settled p s S) t (both_pass (not_shown p s S) (settled p s S) due.shown due.settled) small) below))) in
    rw add-one (both_pass (not (is_stuck_atom p s S j)) (none_below p s S j) (ap not none) below)

not-stuck : (p : Problem) (s : Loosenings) (S : State) (k j : ℕ) → IsTrue (none_below p s S k) → j < k → IsTrue (not (is_stuck_atom p s S j))
not-stuck p s S zero j h l = absurd (omega arith)
not-stuck p s S (suc k) j h l = elim (cases j k l) [
  | inl e ↦ subst (λ (i : ℕ). IsTrue (not (is_stuck_atom p s S i))) (sym e) (both_true (not (is_stuck_atom p s S k)) (none_below p s S k) h).0
  | inr m ↦ not-stuck p s S k j (both_true (not (is_stuck_atom p s S k)) (none_below p s S k) h).1 m
]
  where
    cases : (j k : ℕ) → j < suc k → (j ≡ k) ⊎ (j < k)
    cases j k l = grind arith

-- some atom is
pub some_is_stuck : (P : PatchModel) → IsProblem (problem_in P) → IsGridSpace (now_in P).space → IsTrue (is_upright (now_in P).space) → IsDue P → IsTrue (is_small P.margins.least_bits (now_in P).space) →
    none_below (problem_in P) (loosenings_in P) (now_in P) (length (problem_in P).atoms) ≡ true → ⊥
some_is_stuck P g grid upright due small none =
    let r = some_atom_is_stuck (problem_in P) g (loosenings_in P) (now_in P) P.margins.least_bits grid upright due.shown small in
    not_both (is_stuck_atom (problem_in P) (loosenings_in P) (now_in P) r.0) r.2 (not-stuck (problem_in P) (loosenings_in P) (now_in P) (length (problem_in P).atoms) r.0 none r.1)
