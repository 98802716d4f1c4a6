-- What a patch answers: for each step and each end the first refusal, and the patch after it where there is none.
use Rattle.std.specs.Prelude.{◌≡◌, ◌≢◌, ◌<◌, ℕ, zero, suc, List, [], ◌∷◌, ◌++◌, Option, Some, None, Bool, true, false, not, ◌&&◌, ◌||◌, cond, nat_eq, nat_le, is_none, length, Result, Ok, Err}
use Rattle.dyadic.specs.Fraction.{at_most, difference_of}
use Rattle.dyadic.specs.Rounding.{Dyadic, exact, two_to_minus, mid}
use Rattle.interval_model.specs.Space.{Domain, real_domain, bool_domain, Space, can_be_halved, middle, test_axis, is_undecided, widest}
use Rattle.ival.specs.BestViews.{axis_of}
use Rattle.square_model.specs.Positive.{Multipliers, all_numbers, is_positive, most_numbers}
use Rattle.cover_model.specs.Combination.{marked_range}
use Rattle.poly_graph.specs.Problem.{Problem}
use Rattle.cover_model.specs.State.{State, Loosenings, margin_of, undecided, with_yes, with_no, with_space, may, covers}
use Rattle.cover_model.specs.Rules.{Block, Line, has_version_5, are_groups, one_holds, can_part, either_group, either, can_combine, narrow_by, end_by, Narrowing, by_range, by_off_range, by_combination, void_by, void_squares, unit, ban, make_false, by, cut, flip, case, stuck, is_stuck_atom}
use Rattle.cover_model.specs.Honest.{is_honest, may_be_cut, is_middle_at, is_small, is_some_space}
use Rattle.cover_rule.specs.declared.refusal.PatchRefusal.{PatchRefusal}
use Rattle.cover_rule.specs.declared.refusal.PatchRefusal.TheVariants.{NotYes, NotForced, NotCovered, NotFalse, NotInside, NotStuck, NotHonest, Ended, IsVoid, Decided, NotNo, NotCombinable, NotGroups, TooLong, Memory}
use Rattle.cover_data.specs.Models.{LemmaModel, KeptModel}
use Rattle.cover_rule.specs.Models.{PatchModel}
use Rattle.cover_rule.specs.Patch.{problem_in, loosenings_in, now_in, stepped, ended_by, with_kept, can_narrow_in, narrowed_in, narrowed_space}

-- ---- refusals in their order

abbrev pub unless : Bool → PatchRefusal → Option PatchRefusal
unless true e = None
unless false e = Some e

-- the first, where there is one, else the second
abbrev pub then_by : Option PatchRefusal → Option PatchRefusal → Option PatchRefusal
then_by None o = o
then_by (Some e) o = Some e

-- a patch that has ended takes nothing more
abbrev pub if_ended : KeptModel → Option PatchRefusal
if_ended k = unless (is_none k.end) Ended

abbrev pub honestly : PatchModel → Line → Option PatchRefusal
honestly P l = unless (is_honest (problem_in P) P.margins.least_bits (loosenings_in P) (now_in P) l) NotHonest

-- ---- steps

-- why the patch's present state may not be narrowed by it
abbrev pub why_not : Narrowing → PatchRefusal
why_not (by_range j) = NotYes
why_not (by_off_range j) = NotNo
why_not (by_combination ms) = NotCombinable

abbrev pub narrow_refusal : PatchModel → Narrowing → Option PatchRefusal
narrow_refusal P n = then_by (if_ended P.kept) (then_by (unless (can_narrow_in P n) (why_not n)) (unless (is_some_space (narrowed_in P n)) IsVoid))

abbrev pub narrowed_by : PatchModel → Narrowing → PatchModel
narrowed_by P n = with_kept P (stepped P.kept (narrow_by n) P.kept.quoted (with_space (now_in P) (narrowed_space P n)))

abbrev pub unit_refusal : PatchModel → ℕ → Option PatchRefusal
unit_refusal P j = then_by (if_ended P.kept) (then_by (unless (undecided (now_in P) j) Decided) (unless (not (may (problem_in P) (loosenings_in P) (with_no (now_in P) j))) NotForced))

abbrev pub forced_by : PatchModel → ℕ → PatchModel
forced_by P j = with_kept P (stepped P.kept (unit j) P.kept.quoted (with_yes (now_in P) j))

abbrev pub ban_refusal : KeptModel → ℕ → LemmaModel → Option PatchRefusal
ban_refusal k j L = then_by (if_ended k) (then_by (unless (undecided k.reached j) Decided) (unless (covers L.state (with_yes k.reached j)) NotCovered))

abbrev pub banned : KeptModel → ℕ → LemmaModel → KeptModel
banned k j L = stepped k (ban j L.id) (k.quoted ++ (L ∷ [])) (with_no k.reached j)

abbrev pub banned_by : PatchModel → ℕ → LemmaModel → PatchModel
banned_by P j L = with_kept P (banned P.kept j L)

-- ---- ends that close

abbrev pub void_refusal : PatchModel → Narrowing → Option PatchRefusal
void_refusal P n = then_by (if_ended P.kept) (then_by (unless (can_narrow_in P n) (why_not n)) (unless (not (is_some_space (narrowed_in P n))) NotFalse))

-- the line takes memory of its own
abbrev pub takes_memory : Narrowing → Bool
takes_memory (by_range j) = false
takes_memory (by_off_range j) = false
takes_memory (by_combination ms) = true

-- the version has ends by squares, and these atoms may be combined
abbrev pub can_square : Problem → Loosenings → State → Multipliers → Bool
can_square p s S ms = has_version_5 s && can_combine p s S ms

abbrev pub can_square_in : PatchModel → Multipliers → Bool
can_square_in P ms = can_square (problem_in P) (loosenings_in P) (now_in P) ms

-- so many numbers fit a line
abbrev pub fits_line : Multipliers → List Block → Bool
fits_line ms bs = nat_le (all_numbers ms bs) most_numbers

-- the combination without the blocks is above what the atoms allow
abbrev pub is_positive_at : Problem → Loosenings → State → Multipliers → List Block → Bool
is_positive_at p s S ms bs = is_positive p (marked_range p (margin_of s) S.marks) S.space (middle S.space) ms bs

abbrev pub is_positive_in : PatchModel → Multipliers → List Block → Bool
is_positive_in P ms bs = is_positive_at (problem_in P) (loosenings_in P) (now_in P) ms bs

-- before the blocks are looked at
abbrev pub squaring_refusal : PatchModel → Multipliers → List Block → Option PatchRefusal
squaring_refusal P ms bs = then_by (if_ended P.kept) (then_by (unless (can_square_in P ms) NotCombinable) (unless (fits_line ms bs) TooLong))

abbrev pub squares_refusal : PatchModel → Multipliers → List Block → Option PatchRefusal
squares_refusal P ms bs = then_by (squaring_refusal P ms bs) (unless (is_positive_in P ms bs) NotFalse)

abbrev pub false_refusal : PatchModel → Option PatchRefusal
false_refusal P = then_by (if_ended P.kept) (unless (not (may (problem_in P) (loosenings_in P) (now_in P))) NotFalse)

abbrev pub by_refusal : KeptModel → LemmaModel → Option PatchRefusal
by_refusal k L = then_by (if_ended k) (unless (covers L.state k.reached) NotCovered)

-- the patch ended by a line that quotes no lemma
abbrev pub ended_with : PatchModel → Line → PatchModel
ended_with P l = with_kept P (ended_by P.kept l P.kept.quoted)

-- ended by a lemma
abbrev pub covered : KeptModel → LemmaModel → KeptModel
covered k L = ended_by k (by L.id) (k.quoted ++ (L ∷ []))

abbrev pub covered_by : PatchModel → LemmaModel → PatchModel
covered_by P L = with_kept P (covered P.kept L)

-- ---- ends that branch, and the end of a stuck state

abbrev pub is_axis : ℕ → Option ℕ → Bool
is_axis axis None = false
is_axis axis (Some best) = nat_eq axis best

-- the first axis of greatest side among those that can be halved
abbrev pub is_widest : ℕ → Space → Bool
is_widest axis space = is_axis axis (axis_of (widest space))

-- the middle of a Real axis that can be halved, none of another domain
abbrev pub half_of : Domain → Option Dyadic
half_of (real_domain l h) = cond (can_be_halved (real_domain l h)) (Some (mid l h)) None
half_of (bool_domain f t) = None

abbrev pub half_at : ℕ → Space → Option Dyadic
half_at axis [] = None
half_at zero (d ∷ space) = half_of d
half_at (suc axis) (d ∷ space) = half_at axis space

abbrev pub cut_of : ℕ → Option Dyadic → Option Line
cut_of axis None = None
cut_of axis (Some c) = Some (cut axis c)

-- the cut of the axis at its middle, none where it is no Real one that can be halved
abbrev pub cut_line : ℕ → Space → Option Line
cut_line axis space = cut_of axis (half_at axis space)

abbrev pub cut_test : PatchModel → Option Line → Option PatchRefusal
cut_test P None = Some NotInside
cut_test P (Some l) = honestly P l

abbrev pub cut_refusal : PatchModel → ℕ → Option PatchRefusal
cut_refusal P axis = then_by (if_ended P.kept) (cut_test P (cut_line axis (now_in P).space))

abbrev pub ended_if : PatchModel → Option Line → PatchModel
ended_if P None = P
ended_if P (Some l) = ended_with P l

abbrev pub cut_by : PatchModel → ℕ → PatchModel
cut_by P axis = ended_if P (cut_line axis (now_in P).space)

-- a Bool axis with one value left, or none
abbrev pub is_decided : Domain → Bool
is_decided (real_domain l h) = false
is_decided (bool_domain f t) = not (f && t)

abbrev pub flip_refusal : PatchModel → ℕ → Option PatchRefusal
flip_refusal P i = then_by (if_ended P.kept) (then_by (unless (not (test_axis is_decided i (now_in P).space)) Decided) (then_by (unless (test_axis is_undecided i (now_in P).space) NotInside) (honestly P (flip i))))

abbrev pub case_refusal : PatchModel → ℕ → Option PatchRefusal
case_refusal P j = then_by (if_ended P.kept) (then_by (unless (undecided (now_in P) j) Decided) (honestly P (case j)))

-- the version has branches by groups, and these are two
abbrev pub has_groups : Loosenings → List ℕ → List ℕ → Bool
has_groups s js ks = has_version_5 s && are_groups js ks

abbrev pub one_holds_in : PatchModel → List ℕ → List ℕ → Bool
one_holds_in P js ks = one_holds (problem_in P) (loosenings_in P) (now_in P) js ks

abbrev pub either_refusal : PatchModel → List ℕ → List ℕ → Option PatchRefusal
either_refusal P js ks = then_by (if_ended P.kept) (then_by (unless (has_groups (loosenings_in P) js ks) NotGroups)
    (then_by (unless (can_part (now_in P) (either_group js ks)) Decided) (then_by (unless (one_holds_in P js ks) NotForced) (honestly P (either js ks)))))

abbrev pub stuck_refusal : PatchModel → ℕ → Option PatchRefusal
stuck_refusal P j = then_by (if_ended P.kept) (then_by (unless (is_stuck_atom (problem_in P) (loosenings_in P) (now_in P) j && is_small P.margins.least_bits (now_in P).space) NotStuck) (honestly P (stuck j)))

-- ---- answers

-- the answer of a call: done, where nothing refuses it; else the first refusal, or out of memory, and the patch is as it was
abbrev pub PatchAnswer : {X : Type 0} → Option PatchRefusal → X → X → X → Result (Unit {0}) PatchRefusal → Type 0
PatchAnswer refusal old done new (Ok u) = (refusal ≡ None) × (new ≡ done)
PatchAnswer refusal old done new (Err Memory) = (refusal ≡ None) × (new ≡ old)
PatchAnswer refusal old done new (Err e) = (refusal ≡ Some e) × (new ≡ old)

-- the same of a call that takes no memory: done, or the first refusal
abbrev pub EndAnswer : {X : Type 0} → Option PatchRefusal → X → X → X → Result (Unit {0}) PatchRefusal → Type 0
EndAnswer refusal old done new (Ok u) = (refusal ≡ None) × (new ≡ done)
EndAnswer refusal old done new (Err e) = (refusal ≡ Some e) × (new ≡ old)

-- the same of one that takes memory or not
abbrev pub AnswerIf : {X : Type 0} → Bool → Option PatchRefusal → X → X → X → Result (Unit {0}) PatchRefusal → Type 0
AnswerIf true refusal old done new r = PatchAnswer refusal old done new r
AnswerIf false refusal old done new r = EndAnswer refusal old done new r

-- what is told of the refusal by tests of which the last takes memory: where that is out, that the first ones do not refuse it
abbrev pub IsTold : Option PatchRefusal → Option PatchRefusal → Result (Unit {0}) PatchRefusal → Type 0
IsTold first refusal (Ok u) = refusal ≡ None
IsTold first refusal (Err Memory) = first ≡ None
IsTold first refusal (Err e) = refusal ≡ Some e

-- the same of a call that makes such tests
abbrev pub TestAnswer : {X : Type 0} → Option PatchRefusal → Option PatchRefusal → X → X → X → Result (Unit {0}) PatchRefusal → Type 0
TestAnswer first refusal old done new (Ok u) = (refusal ≡ None) × (new ≡ done)
TestAnswer first refusal old done new (Err Memory) = (first ≡ None) × (new ≡ old)
TestAnswer first refusal old done new (Err e) = (refusal ≡ Some e) × (new ≡ old)

-- a step that narrows the space to this one, where that is less, and nothing where the space stays
abbrev pub IfLessStep : Option Space → Option PatchRefusal → PatchModel → PatchModel → PatchModel → Result Bool PatchRefusal → Type 0
IfLessStep narrow refusal P done Q (Ok true) = (narrow ≢ Some (now_in P).space) × PatchAnswer refusal P done Q (Ok tt)
IfLessStep narrow refusal P done Q (Ok false) = (narrow ≡ Some (now_in P).space) × PatchAnswer refusal P P Q (Ok tt)
IfLessStep narrow refusal P done Q (Err e) = PatchAnswer refusal P done Q (Err e)

-- ---- the calls on a patch P, each with its answer and the patch Q after it

abbrev pub NarrowStep : PatchModel → Narrowing → PatchModel → Result (Unit {0}) PatchRefusal → Type 0
NarrowStep P n Q r = PatchAnswer (narrow_refusal P n) P (narrowed_by P n) Q r

abbrev pub NarrowIfLessStep : PatchModel → Narrowing → PatchModel → Result Bool PatchRefusal → Type 0
NarrowIfLessStep P n Q r = IfLessStep (narrowed_in P n) (narrow_refusal P n) P (narrowed_by P n) Q r

abbrev pub UnitStep : PatchModel → ℕ → PatchModel → Result (Unit {0}) PatchRefusal → Type 0
UnitStep P j Q r = PatchAnswer (unit_refusal P j) P (forced_by P j) Q r

abbrev pub BanStep : PatchModel → ℕ → LemmaModel → PatchModel → Result (Unit {0}) PatchRefusal → Type 0
BanStep P j L Q r = PatchAnswer (ban_refusal P.kept j L) P (banned_by P j L) Q r

abbrev pub VoidEnd : PatchModel → Narrowing → PatchModel → Result (Unit {0}) PatchRefusal → Type 0
VoidEnd P n Q r = AnswerIf (takes_memory n) (void_refusal P n) P (ended_with P (end_by (void_by n))) Q r

abbrev pub SquaresEnd : PatchModel → Multipliers → List Block → PatchModel → Result (Unit {0}) PatchRefusal → Type 0
SquaresEnd P ms bs Q r = TestAnswer (squaring_refusal P ms bs) (squares_refusal P ms bs) P (ended_with P (void_squares ms bs)) Q r

abbrev pub FalseEnd : PatchModel → PatchModel → Result (Unit {0}) PatchRefusal → Type 0
FalseEnd P Q r = EndAnswer (false_refusal P) P (ended_with P make_false) Q r

abbrev pub LemmaEnd : PatchModel → LemmaModel → PatchModel → Result (Unit {0}) PatchRefusal → Type 0
LemmaEnd P L Q r = PatchAnswer (by_refusal P.kept L) P (covered_by P L) Q r

abbrev pub CutEnd : PatchModel → ℕ → PatchModel → Result (Unit {0}) PatchRefusal → Type 0
CutEnd P axis Q r = EndAnswer (cut_refusal P axis) P (cut_by P axis) Q r

abbrev pub FlipEnd : PatchModel → ℕ → PatchModel → Result (Unit {0}) PatchRefusal → Type 0
FlipEnd P i Q r = EndAnswer (flip_refusal P i) P (ended_with P (flip i)) Q r

abbrev pub CaseEnd : PatchModel → ℕ → PatchModel → Result (Unit {0}) PatchRefusal → Type 0
CaseEnd P j Q r = EndAnswer (case_refusal P j) P (ended_with P (case j)) Q r

abbrev pub EitherEnd : PatchModel → List ℕ → List ℕ → PatchModel → Result (Unit {0}) PatchRefusal → Type 0
EitherEnd P js ks Q r = EndAnswer (either_refusal P js ks) P (ended_with P (either js ks)) Q r

abbrev pub StuckEnd : PatchModel → ℕ → PatchModel → Result (Unit {0}) PatchRefusal → Type 0
StuckEnd P j Q r = EndAnswer (stuck_refusal P j) P (ended_with P (stuck j)) Q r

-- the same of a run alone, for what quotes a lemma
abbrev pub RunBanStep : KeptModel → ℕ → LemmaModel → KeptModel → Result (Unit {0}) PatchRefusal → Type 0
RunBanStep k j L k' r = PatchAnswer (ban_refusal k j L) k (banned k j L) k' r

abbrev pub RunLemmaEnd : KeptModel → LemmaModel → KeptModel → Result (Unit {0}) PatchRefusal → Type 0
RunLemmaEnd k L k' r = PatchAnswer (by_refusal k L) k (covered k L) k' r

-- the axis is a Real one with these ends, whose middle lies strictly between them
pub record CutsAt (space : Space) (axis : ℕ) (l h : Dyadic) : Type 0 where
  pub inside : axis < length space
  pub line : cut_line axis space ≡ Some (cut axis (mid l h))
  pub middle : is_middle_at axis (mid l h) space ≡ true
  pub may : (w : ℕ) (s : Loosenings) → may_be_cut w s axis space ≡
      (not (at_most (difference_of (exact h) (exact l)) (exact (two_to_minus w))) && (has_version_5 s || is_widest axis space))
