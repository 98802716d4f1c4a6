-- What a line of the main tree leaves open or stuck is left at the end of a cover.
use Rattle.std.proofs.Common.{◌≡◌, ◌⊎◌, inl, inr, ℕ, suc, List, [], ◌∷◌, ◌++◌, Bool, true, false, cond, true≢false, Option, Some, None, refl, sym}
use Rattle.interval_model.specs.Space.{Space}
use Rattle.poly_graph.specs.Problem.{Declared, real_between, any_bool, Axis, Problem}
use Rattle.cover_line.specs.Words.{word_of}
use Rattle.cover_model.specs.State.{State, Loosenings, root_state}
use Rattle.cover_model.specs.Rules.{Line, stuck, Left, closed, one, two, stays, can_stay, when, rule, stay_by}
use Rattle.cert_read.specs.CertLine.{CertLine, rule_line, over, end_word}
use Rattle.cert_model.specs.Due.{CertFault, RuleFails, Standing, left_open, Due, axis_due, coordinate_due, root_due, tree_due, end_due, nothing_due, Next, on, faulty, names_well, after_rule, tree_goes_on, is_crossed_box}
use Rattle.cert_model.specs.Accepted.{next, ruled_line, axis_line, coordinate_line, root_line, Course, stopped, reached, course_next, course_of_lines}
use Rattle.cert_model.specs.Least.{tree_space, leaves_open}
use Rattle.cert_model.proofs.Invariant.{IfOn}

-- ---- what is left so far

abbrev pub is_any : List Standing → Bool
is_any [] = false
is_any (x ∷ xs) = true

-- a line of the main tree left its state open or stuck
abbrev pub has_left : Due → Bool
has_left (tree_due s lemmas S pending done) = is_any done
has_left (end_due s lemmas (left_open left)) = is_any left
has_left (nothing_due s lemmas (left_open left)) = is_any left
has_left d = false

abbrev pub HasLeft : Due → Type 0
HasLeft d = has_left d ≡ true

pub no_left : {X : Type 0} → false ≡ true → X
no_left h = absurd (true≢false (sym h))

any-more : (done : List Standing) (x : Standing) → is_any (done ++ (x ∷ [])) ≡ true
any-more [] x = refl
any-more (y ∷ done) x = refl

goes-on : (s : Loosenings) (lemmas pending : List State) (done : List Standing) → is_any done ≡ true → HasLeft (tree_goes_on s lemmas pending done)
goes-on s lemmas [] done h = h
goes-on s lemmas (S ∷ pending) done h = h

ruled-on : (P : Due → Type 0) (t : Bool) (x : Next) → IfOn P x → IfOn P (ruled_line t x)
ruled-on P true x h = h
ruled-on P false x h = tt

after-keeps : (s : Loosenings) (lemmas : List State) (o : Option Left) (f : CertFault) (x : Standing) (pending : List State) (done : List Standing) → is_any done ≡ true →
    IfOn HasLeft (after_rule o f x pending done (tree_goes_on s lemmas))
after-keeps s lemmas None f x pending done h = tt
after-keeps s lemmas (Some closed) f x pending done h = goes-on s lemmas pending done h
after-keeps s lemmas (Some stays) f x pending done h = goes-on s lemmas pending (done ++ (x ∷ [])) (any-more done x)
after-keeps s lemmas (Some (one S')) f x pending done h = h
after-keeps s lemmas (Some (two S' S'')) f x pending done h = h

-- a line that leaves its own state, or fails
abbrev StaysOrFails : Option Left → Type 0
StaysOrFails None = Unit {0}
StaysOrFails (Some stays) = Unit {0}
StaysOrFails (Some l) = ⊥

after-stays : (s : Loosenings) (lemmas : List State) (o : Option Left) (f : CertFault) (x : Standing) (pending : List State) (done : List Standing) → StaysOrFails o →
    IfOn HasLeft (after_rule o f x pending done (tree_goes_on s lemmas))
after-stays s lemmas None f x pending done h = tt
after-stays s lemmas (Some stays) f x pending done h = goes-on s lemmas pending (done ++ (x ∷ [])) (any-more done x)
after-stays s lemmas (Some closed) f x pending done h = absurd h
after-stays s lemmas (Some (one S')) f x pending done h = absurd h
after-stays s lemmas (Some (two S' S'')) f x pending done h = absurd h

when-stays : (t : Bool) → StaysOrFails (when t stays)
when-stays true = tt
when-stays false = tt

open-stays : (p : Problem) (s : Loosenings) (lemmas : List State) (S : State) (m : Line) → leaves_open m ≡ true → StaysOrFails (rule p s lemmas S m)
open-stays p s lemmas S (stay_by t) h = when-stays (can_stay p s S t)
open-stays p s lemmas S _ h = no_left h

module _ (p : Problem) (b : Option ℕ) where
  -- what is left stays so
  pub left_stays : (d : Due) (l : CertLine) → HasLeft d → IfOn HasLeft (next p b d l)
  left_stays (tree_due s lemmas S pending done) (rule_line m) h =
      ruled-on HasLeft (names_well p m) _ (after-keeps s lemmas (rule p s lemmas S m) (RuleFails (word_of m)) (record { state = S; does = m }) pending done h)
  left_stays (tree_due s lemmas S pending done) _ h = tt
  left_stays (end_due s lemmas (left_open left)) end_word h = h
  left_stays (end_due s lemmas (left_open left)) _ h = tt
  left_stays (nothing_due s lemmas (left_open left)) _ h = tt
  left_stays _ l h = no_left h

  -- no line `over` stands in a certificate of one check
  abbrev pub Never : Due → Type 0
  Never d = ⊥

  no-axis : (s : Loosenings) (k : ℕ) (lemmas : List State) (a : Declared) (axes : List Axis) (space : Space) → IfOn Never (axis_line p s k lemmas a axes space over)
  no-axis s k lemmas (real_between lo hi) axes space = tt
  no-axis s k lemmas any_bool axes space = tt

  no-coordinate : (s : Loosenings) (a : Declared) (axes : List Axis) (space : Space) → IfOn Never (coordinate_line s a axes space over)
  no-coordinate s (real_between lo hi) axes space = tt
  no-coordinate s any_bool axes space = tt

  pub no_over : (d : Due) → IfOn Never (next p b d over)
  no_over (axis_due s k lemmas a axes space) = no-axis s k lemmas a.declared axes space
  no_over (coordinate_due s a axes space) = no-coordinate s a.declared axes space
  no_over _ = tt

  -- a line that leaves its state open or stuck stands in no tree of a state, or leaves something
  tree-leaves : (s : Loosenings) (lemmas : List State) (S : State) (pending : List State) (done : List Standing) (m : Line) → leaves_open m ≡ true →
      IfOn HasLeft (next p b (tree_due s lemmas S pending done) (rule_line m))
  tree-leaves s lemmas S pending done m h =
      ruled-on HasLeft (names_well p m) _ (after-stays s lemmas (rule p s lemmas S m) (RuleFails (word_of m)) (record { state = S; does = m }) pending done (open-stays p s lemmas S m h))

  root-leaves : (t : Bool) (s : Loosenings) (lemmas : List State) (m : Line) → leaves_open m ≡ true → (cond t None (Some (root_state p).space) ≡ None) ⊎ IfOn HasLeft (root_line t p s lemmas m)
  root-leaves true s lemmas m h = inl refl
  root-leaves false s lemmas m h = inr (tree-leaves s lemmas (root_state p) [] [] m h)

  pub leaves : (d : Due) (m : Line) → leaves_open m ≡ true → (tree_space p d ≡ None) ⊎ IfOn HasLeft (next p b d (rule_line m))
  leaves (root_due s lemmas) m h = root-leaves (is_crossed_box p) s lemmas m h
  leaves (tree_due s lemmas S pending done) m h = inr (tree-leaves s lemmas S pending done m h)
  leaves _ m h = inl refl

  -- so what is left is left at the end
  abbrev pub AtEnd : Course → Type 0
  AtEnd (stopped f n) = Unit {0}
  AtEnd (reached d n) = HasLeft d

  next-ends : (x : Next) (n : ℕ) (k : Due → Course) → IfOn HasLeft x → ((d : Due) → HasLeft d → AtEnd (k d)) → AtEnd (course_next x n k)
  next-ends (on d) n k h f = f d h
  next-ends (faulty e) n k h f = tt

  pub ends_left : (ls : List CertLine) (n : ℕ) (d : Due) → HasLeft d → AtEnd (course_of_lines p b n d ls)
  ends_left [] n d h = h
  ends_left (l ∷ ls) n d h = next-ends (next p b d l) (suc n) (λ d'. course_of_lines p b (suc n) d' ls) (left_stays d l h) (λ d' h'. ends_left ls (suc n) d' h')
