-- What an accepted least value says of points.
use Rattle.std.proofs.Common.{◌≡◌, ℕ, ◌<◌, List, [], ◌∷◌, Bool, true, false, cond, IsTrue, Option, Some, None, refl, sym, ◌∙◌, subst, true≢false, length}
use Rattle.dyadic.specs.Fraction.{Fraction}
use Rattle.dyadic.specs.Point.{Coordinate, IsPoint}
use Rattle.dyadic.specs.Rounding.{Dyadic, exact, at, above_all, end_of, end_at_most}
use Rattle.dyadic.proofs.Equal.{both_true}
use Rattle.interval_model.specs.Interval.{Interval, nothing, between}
use Rattle.interval_model.specs.Space.{Space}
use Rattle.interval_model.proofs.Holds.{Holds, within_holds}
use Rattle.poly_graph.specs.Problem.{Problem, IsProblem, sorts_of_problem, in_declared_box, term_of}
use Rattle.poly_graph.specs.Term.{Term, term_value}
use Rattle.cover_model.specs.State.{State, Loosenings, delta_of, atom_enclosure, IsPointOf, MeetsAt, MeetsForm}
use Rattle.cover_model.specs.Rules.{Line, open_line}
use Rattle.cover_model.specs.Derivation.{Among, here, later}
use Rattle.cover_model.proofs.May.{atom_enclosed}
use Rattle.cover_model.proofs.Shown.{single_inside, single_sorted}
use Rattle.cover_line.specs.Words.{word_of}
use Rattle.cert_read.specs.CertLine.{CertLine, lower, goal, cover, point_word, rule_line, over}
use Rattle.cert_model.specs.Due.{CertFault, Standing, at_point, left_open, Due, kind_due, nothing_due, Next, on, faulty, BadHeader, RuleFails, OverFails, names_well, coordinates, is_shown}
use Rattle.cert_model.specs.Accepted.{next, ruled_line}
use Rattle.cert_model.specs.Derived.{AreDerived, states_of, IsCover, AreNear, AreSingle}
use Rattle.cert_model.specs.Least.{LeastDue, header_due, lower_due, cover_due, in_cover_due, covered_due, in_point_due, shown_due, Least, least, lower_end, not_below, is_over, upper_end, upper_at, tree_space, leaves_open, in_header, in_cover, in_point, searched, can_limit, over_line, leaf_line, cover_line, least_next, IsGoalAccepted}
use Rattle.cert_model.specs.LeastLaws.{IsNotBelow}
use Rattle.cert_model.proofs.Invariant.{IfOn, cond_on}
use Rattle.cert_model.proofs.Header.{known, AllSame, next_same}
use Rattle.cert_model.proofs.Derives.{Fine, derived_grow, next_fine}
use Rattle.cert_model.proofs.Means.{derived_lemmas, tree_catches, shown_means}
use Rattle.cert_model.proofs.OverLeaves.{AreOver, OverDue, LeavesOver, over_next}
use Rattle.cert_model.proofs.LeastCourse.{least_is}
use Rattle.cert_model.specs.Limited.{is_limit, limited}
use Rattle.cert_model.proofs.Limited.{limited_problem, limited_term, limited_meets}

module _ (p : Problem) (g : ℕ) (room : Bool) (b : Option ℕ) where
  abbrev FineDue : Problem → Due → Type 0
  FineDue q d = Fine q (λ s lemmas. AreDerived q s [] lemmas) d

  -- the bound can be a limit in the bits of the cover, where it has such
  abbrev pub MayLimit : Option Dyadic → Option ℕ → Type 0
  MayLimit low None = Unit {0}
  MayLimit low (Some k) = IsTrue (can_limit p room low k)

  -- a cover whose states are all over
  abbrev pub IsOverCover : Loosenings → Option Dyadic → List Standing → Type 0
  IsOverCover s low left = (bits : Option ℕ) × MayLimit low bits × IsCover (searched p g low bits) s left × AreOver (searched p g low bits) g low left

  abbrev pub IsShownPoint : Loosenings → Option Space → Type 0
  IsShownPoint s None = Unit {0}
  IsShownPoint s (Some space) = AreSingle p.axes space × IsTrue (is_shown p s (at_point space))

  abbrev pub IsLeast : Loosenings → Least → Type 0
  IsLeast s x = IsOverCover s x.lower x.over × IsShownPoint s x.point

  -- a line of the point is due, behind such a cover
  abbrev PointDue : Option Dyadic → List Standing → Due → Type 0
  PointDue low left d = (s : Loosenings) × (known d ≡ Some s) × IsOverCover s low left × FineDue p d

  abbrev FineLeast : LeastDue → Type 0
  FineLeast (cover_due s low bits) = MayLimit low bits
  FineLeast (in_cover_due low bits d) = MayLimit low bits × FineDue (searched p g low bits) d × OverDue (searched p g low bits) g low d
  FineLeast (covered_due s low left) = IsOverCover s low left
  FineLeast (in_point_due low left d) = PointDue low left d
  FineLeast (shown_due s x) = IsLeast s x
  FineLeast d = Unit {0}

  header-on : (x : Next) → IfOn FineLeast (in_header x)
  header-on (on (kind_due s)) = tt
  header-on (on _) = tt
  header-on (faulty f) = tt

  -- ---- the cover

  module _ (low : Option Dyadic) (bits : Option ℕ) (may : MayLimit low bits) where
    abbrev q : Problem
    q = searched p g low bits

    cover-on : (x : Next) → IfOn (FineDue q) x → IfOn (OverDue q g low) x → IfOn FineLeast (in_cover low bits x)
    cover-on (on (nothing_due s lemmas (left_open left))) h k = (bits, may, record { lemmas = lemmas; derived = h.0; tree = h.1 }, k)
    cover-on (on _) h k = (may, h, k)
    cover-on (faulty f) h k = tt

    plain-line : (d : Due) (l : CertLine) → LeavesOver q g low d l → FineDue q d → OverDue q g low d → IfOn FineLeast (in_cover low bits (next q b d l))
    plain-line d l e h k = cover-on (next q b d l) (next_fine q b (λ s lemmas. AreDerived q s [] lemmas) (derived_grow q) d l h) (over_next q g low b d l e k)

    ruled-on : (t : Bool) (f : CertFault) → IfOn FineLeast (in_cover low bits (ruled_line t (faulty f)))
    ruled-on true f = tt
    ruled-on false f = tt

    leaf-on : (d : Due) (l : Line) (o : Option Space) → tree_space q d ≡ o → FineDue q d → OverDue q g low d → IfOn FineLeast (leaf_line q b low bits d l o)
    leaf-on d l None e h k = plain-line d (rule_line l) (λ space e' q. let f : ◌≡◌ {A = Option Space} None (Some space) = sym e ∙ e' in cc) h k
    leaf-on d l (Some space) e h k = ruled-on (names_well q l) (RuleFails (word_of l))

    tree-on : (d : Due) (l : Line) (t : Bool) → leaves_open l ≡ t → FineDue q d → OverDue q g low d → IfOn FineLeast (cond t (leaf_line q b low bits d l (tree_space q d)) (in_cover low bits (next q b d (rule_line l))))
    tree-on d l true e h k = leaf-on d l (tree_space q d) refl h k
    tree-on d l false e h k = plain-line d (rule_line l) (λ space e' q. absurd (true≢false (sym q ∙ e))) h k

    over-on : (d : Due) (o : Option Space) → tree_space q d ≡ o → FineDue q d → OverDue q g low d → IfOn FineLeast (over_line q b g low bits d o)
    over-on d None e h k = plain-line d over tt h k
    over-on d (Some space) e h k = cond_on FineLeast (is_over q g low space) (in_cover low bits (next q b d (rule_line open_line))) (faulty OverFails)
        (λ i. plain-line d (rule_line open_line) (λ space' e' o. subst (λ (x : Space). IsTrue (is_over q g low x)) (let f : ◌≡◌ {A = Option Space} (Some space) (Some space') = sym e ∙ e' in cc) i) h k) (tt {0})

    cover-line-on : (d : Due) (l : CertLine) → FineDue q d → OverDue q g low d → IfOn FineLeast (cover_line q g b low bits d l)
    cover-line-on d over h k = over-on d (tree_space q d) refl h k
    cover-line-on d (rule_line l) h k = tree-on d l (leaves_open l) refl h k
    cover-line-on d l h k = plain-line d l tt h k

  -- ---- the point

  point-on : (s : Loosenings) (low : Option Dyadic) (left : List Standing) → IsOverCover s low left → (x : Next) → IfOn (λ d. known d ≡ Some s) x → IfOn (FineDue p) x → IfOn FineLeast (in_point low left x)
  point-on s low left c (on (nothing_due s' lemmas (at_point space))) e h =
      let same : s ≡ s' = cc in (subst (λ (t : Loosenings). IsOverCover t low left) same c, (h.1, h.2))
  point-on s low left c (on d) e h = (s, e, c, h)
  point-on s low left c (faulty f) e h = tt

  same-known : (s : Loosenings) (o : Option Loosenings) → o ≡ Some s → (x : Next) → AllSame o x → IfOn (λ d. known d ≡ Some s) x
  same-known s o e x h = subst (λ (o' : Option Loosenings). AllSame o' x) e h

  point-line : (low : Option Dyadic) (left : List Standing) (d : Due) (l : CertLine) → PointDue low left d → IfOn FineLeast (in_point low left (next p b d l))
  point-line low left d l h = point-on h.0 low left h.2 (next p b d l) (same-known h.0 (known d) h.1 (next p b d l) (next_same p b d l))
      (next_fine p b (λ s lemmas. AreDerived p s [] lemmas) (derived_grow p) d l h.3)

  -- ---- each line

  fine-step : (d : LeastDue) (l : CertLine) → FineLeast d → IfOn FineLeast (least_next p g room b d l)
  fine-step (header_due d) l h = header-on (next p b d l)
  fine-step (lower_due s) (lower low) h = tt
  fine-step (lower_due s) _ h = tt
  fine-step (cover_due s low None) (goal k) h = cond_on FineLeast (can_limit p room low k) (on (cover_due s low (Some k))) (faulty BadHeader) (λ e. e) (tt {0})
  fine-step (cover_due s low None) (cover n) h = plain-line low None h (kind_due s) (cover n) tt tt tt
  fine-step (cover_due s low (Some k)) (cover n) h = plain-line low (Some k) h (kind_due s) (cover n) tt tt tt
  fine-step (cover_due s low None) _ h = tt
  fine-step (cover_due s low (Some k)) _ h = tt
  fine-step (in_cover_due low bits d) l h = cover-line-on low bits h.0 d l h.1 h.2
  fine-step (covered_due s low left) point_word h = point-line low left (kind_due s) point_word (s, refl, h, tt)
  fine-step (covered_due s low left) _ h = tt
  fine-step (in_point_due low left d) l h = point-line low left d l h
  fine-step (shown_due s x) l h = tt

  pub least_value : (bytes : List ℕ) (s : Loosenings) (x : Least) → IsGoalAccepted p g room b bytes s (least x) → IsLeast s x
  least_value bytes s x e = least_is p g room b FineLeast tt fine-step (λ s low fits five. tt) IsLeast (λ s low left h. (h, tt)) (λ s x h. h) bytes s x e

-- ---- points of an over cover

module _ (p : Problem) (q : IsProblem p) (g : ℕ) (low : Option Dyadic) (s : Loosenings) (point : List Coordinate) where
  over-holds : (S : State) → IsPointOf p s S point → IsTrue (is_over p g low S.space) → IsNotBelow p g low point
  over-holds S i h = let v : Fraction = term_value point (term_of p g) in
      (both_true (end_at_most (end_of (lower_end low)) (at v)) (end_at_most (at v) (end_of above_all)) (within_holds (atom_enclosure p S.space g) (not_below low) v h (atom_enclosed p q S.space point i.sorted i.inside g).1)).0

  among-holds : (left : List Standing) → AreOver p g low left → Among p s point (states_of left) → IsNotBelow p g low point
  among-holds [] h a = elim a [ ]
  among-holds (x ∷ left) h (here i) = over-holds x.state i h.0
  among-holds (x ∷ left) h (later a) = among-holds left h.1 a

  plain-holds : (left : List Standing) → IsCover p s left → AreOver p g low left → IsPoint (sorts_of_problem p) point → IsTrue (in_declared_box p point) → MeetsForm p s point → IsNotBelow p g low point
  plain-holds left c h i d m = among-holds left h (tree_catches p q s c.lemmas (derived_lemmas p q s c.lemmas c.derived) left c.tree point i d m)

-- ---- points of a cover with a limit

-- what holds where a test passes and where it fails
by-test : (R : Type 0) (t : Bool) → (IsTrue t → R) → ((IsTrue t → ⊥) → R) → R
by-test R true f h = f refl
by-test R false f h = h (λ e. true≢false (sym e))

module _ (p : Problem) (q : IsProblem p) (g : ℕ) (there : g < length p.atoms) (room : Bool) (b : Option ℕ) (s : Loosenings) (point : List Coordinate)
    (i : IsPoint (sorts_of_problem p) point) (inside : IsTrue (in_declared_box p point)) (m : MeetsForm p s point) where
  -- where the goal is below the limit, the point meets the form of the problem with the limit, so the cover says that it is not
  limited-holds : (k : ℕ) (d : Dyadic) → IsTrue (is_limit p k d) → (left : List Standing) → IsCover (limited p g k d) s left → AreOver (limited p g k d) g (Some d) left → IsNotBelow p g (Some d) point
  limited-holds k d fits left c h = by-test (IsNotBelow p g (Some d) point) (end_at_most (end_of (lower_end (Some d))) (at (term_value point (term_of p g)))) (λ e. e)
      (λ never. subst (λ (t : Term). IsTrue (end_at_most (end_of (lower_end (Some d))) (at (term_value point t)))) (limited_term p q g there k d fits g there).0
      (plain-holds (limited p g k d) (limited_problem p q g there k d fits) g (Some d) s point left c h i inside (limited_meets p q g there k d fits s point never m)))

  covered-holds : (low : Option Dyadic) (bits : Option ℕ) → MayLimit p g room b low bits → (left : List Standing) → IsCover (searched p g low bits) s left → AreOver (searched p g low bits) g low left → IsNotBelow p g low point
  covered-holds None None may left c h = plain-holds p q g None s point left c h i inside m
  covered-holds (Some d) None may left c h = plain-holds p q g (Some d) s point left c h i inside m
  covered-holds None (Some k) may left c h = absurd (true≢false (sym may))
  covered-holds (Some d) (Some k) may left c h = limited-holds k d (both_true room (is_limit p k d) may).1 left c h

pub lower_holds : (p : Problem) → IsProblem p → (g : ℕ) → g < length p.atoms → (room : Bool) (bound : Option ℕ) (bytes : List ℕ) (s : Loosenings) (x : Least) → IsGoalAccepted p g room bound bytes s (least x) →
    (point : List Coordinate) → IsPoint (sorts_of_problem p) point → IsTrue (in_declared_box p point) → MeetsForm p s point → IsNotBelow p g x.lower point
lower_holds p q g n room bound bytes s x e point i d m =
    let a = (least_value p g room bound bytes s x e).0 in covered-holds p q g n room bound s point i d m x.lower a.0 a.1 x.over a.2 a.3

-- ---- the point

upper-holds : (i : Interval) (v : Fraction) → Holds i v → IsTrue (end_at_most (at v) (end_of (upper_end i)))
upper-holds nothing v h = absurd (true≢false (sym h))
upper-holds (between l u) v h = (both_true (end_at_most (end_of l) (at v)) (end_at_most (at v) (end_of u)) h).1

pub upper_holds : (p : Problem) → IsProblem p → (g : ℕ) → g < length p.atoms → (room : Bool) (bound : Option ℕ) (bytes : List ℕ) (s : Loosenings) (x : Least) → IsGoalAccepted p g room bound bytes s (least x) →
    (space : Space) → x.point ≡ Some space →
    IsPoint (sorts_of_problem p) (coordinates space) × MeetsAt p (delta_of s) (coordinates space) × AreNear (exact (delta_of s)) p.axes (coordinates space) ×
    IsTrue (end_at_most (at (term_value (coordinates space) (term_of p g))) (end_of (upper_at p g space)))
upper_holds p q g n room bound bytes s x e space f =
    let h : AreSingle p.axes space × IsTrue (is_shown p s (at_point space)) = subst (λ (o : Option Space). IsShownPoint p g room bound s o) f (least_value p g room bound bytes s x e).1 in
    let m = shown_means p q s space h.0 h.1 in (
      m.0,
      m.1,
      m.2,
      upper-holds (atom_enclosure p space g) (term_value (coordinates space) (term_of p g))
          (atom_enclosed p q space (coordinates space) (single_sorted p.axes space h.0) (single_inside p.axes space h.0) g).1,
    )
