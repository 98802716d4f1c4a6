-- The lines of an accepted cover's lemmas lead under a later version to the same lemmas, also where more are announced.
use Rattle.std.proofs.Common.{◌≡◌, inl, inr, ◌⊎◌, ℕ, suc, ◌≤◌, List, [], ◌∷◌, ◌++◌, Bool, true, false, cond, Option, Some, None, refl, ap, sym, ◌∙◌, subst, length, nat_eq, nat_lt, eqb→eq, arith}
use Rattle.std.specs.Bool.{passes}
use Rattle.std.proofs.Math.Facts.{leb_yes}
use Rattle.std.proofs.lemmas.Bool.{le-leb}
use Rattle.poly_graph.specs.Problem.{Declared, real_between, any_bool, Axis, Problem, crosses}
use Rattle.cover_model.specs.State.{State, Loosenings, in_version, root_state}
use Rattle.interval_model.specs.Space.{Space}
use Rattle.cover_model.specs.Rules.{Line, Left, closed, one, two, stays, rule}
use Rattle.cover_line.specs.Words.{word_of}
use Rattle.cert_read.specs.CertLine.{CertLine, tree_word, end_word, lemma, real_interval, bool_value, yes_list, no_list, rule_line, crossing, line}
use Rattle.cert_model.specs.Due.{CertFault, BadNumber, Missing, NotShown, RuleFails, Standing, left_open, Due, next_due, axis_due, yes_due, no_due, lemma_due, root_due, tree_due, end_due, nothing_due, Next, on, faulty, given, names_well, after_rule, after_lemma_rule, tree_goes_on, lemma_goes_on, axis_next, is_crossed_box, is_shown, state_of}
use Rattle.cert_model.specs.Accepted.{next, ruled_line, tree_line, root_line, no_crossing, axis_line, Course, reached, course_next, course_of_lines}
use Rattle.cert_model.specs.Standing.{Stands, stands_at, standing_next, standing_of_lines}
use Rattle.cover_model.proofs.Later.{rule_later}

-- where a test's next is not faulty, the test holds
pub given_goes : (t : Bool) (d : Due) (f : CertFault) (n : ℕ) (k : Due → Course) (e : Due) (m : ℕ) → course_next (given t d f) n k ≡ reached e m → (t ≡ true) × (k d ≡ reached e m)
given_goes true d f n k e m h = (refl, h)
given_goes false d f n k e m h = cc

-- ---- courses that lead to others, with no line of the main tree between

module _ (p : Problem) (b : Option ℕ) where
  pub record Leads (d : Due) (ls : List CertLine) (d' : Due) (ls' : List CertLine) : Type 0 where
    pub to : (n : ℕ) → (m : ℕ) × (course_of_lines p b n d ls ≡ course_of_lines p b m d' ls')
    pub quiet : standing_of_lines p b d ls ≡ standing_of_lines p b d' ls'

  pub stay : (d : Due) (ls : List CertLine) → Leads d ls d ls
  stay d ls = record { to = λ n. (n, refl); quiet = refl }

  pub through : {d d' d'' : Due} {ls ls' ls'' : List CertLine} → Leads d ls d' ls' → Leads d' ls' d'' ls'' → Leads d ls d'' ls''
  through f g = record { to = λ n. let x = f.to n in let y = g.to x.0 in (y.0, x.1 ∙ y.1); quiet = f.quiet ∙ g.quiet }

  pub one_line : (d : Due) (l : CertLine) (ls : List CertLine) (d' : Due) → next p b d l ≡ on d' → stands_at p d (line l) ≡ [] → Leads d (l ∷ ls) d' ls
  one_line d l ls d' e q = record {
    to = λ n. (suc n, ap (λ (x : Next). course_next x (suc n) (λ y. course_of_lines p b (suc n) y ls)) e);
    quiet = ap (λ (xs : List Stands). xs ++ standing_next (next p b d l) (λ y. standing_of_lines p b y ls)) q ∙ ap (λ (x : Next). standing_next x (λ y. standing_of_lines p b y ls)) e;
  }

-- ---- no second line `tree`

-- the line `tree` was taken
abbrev IsPast : Due → Type 0
IsPast (root_due s lemmas) = Unit {0}
IsPast (tree_due s lemmas S pending done) = Unit {0}
IsPast (end_due s lemmas v) = Unit {0}
IsPast (nothing_due s lemmas v) = Unit {0}
IsPast d = ⊥

abbrev PastNext : Next → Type 0
PastNext (on d) = IsPast d
PastNext (faulty f) = Unit {0}

ruled-past : (t : Bool) (x : Next) → PastNext x → PastNext (ruled_line t x)
ruled-past true x h = h
ruled-past false x h = tt

tree-past : (s : Loosenings) (lemmas pending : List State) (done : List Standing) → IsPast (tree_goes_on s lemmas pending done)
tree-past s lemmas [] done = tt
tree-past s lemmas (S ∷ pending) done = tt

after-past : (o : Option Left) (f : CertFault) (x : Standing) (s : Loosenings) (lemmas pending : List State) (done : List Standing) → PastNext (after_rule o f x pending done (tree_goes_on s lemmas))
after-past None f x s lemmas pending done = tt
after-past (Some closed) f x s lemmas pending done = tree-past s lemmas pending done
after-past (Some stays) f x s lemmas pending done = tree-past s lemmas pending (done ++ (x ∷ []))
after-past (Some (one S')) f x s lemmas pending done = tt
after-past (Some (two S' S'')) f x s lemmas pending done = tt

module _ (p : Problem) (b : Option ℕ) where
  line-past : (s : Loosenings) (lemmas : List State) (S : State) (pending : List State) (done : List Standing) (l : Line) → PastNext (tree_line p s lemmas S pending done l)
  line-past s lemmas S pending done l = ruled-past (names_well p l) _ (after-past (rule p s lemmas S l) (RuleFails (word_of l)) (record { state = S; does = l }) s lemmas pending done)

  root-past : (t : Bool) (s : Loosenings) (lemmas : List State) (l : Line) → PastNext (root_line t p s lemmas l)
  root-past true s lemmas l = ruled-past (names_well p l) (faulty (RuleFails (word_of l))) (tt {0})
  root-past false s lemmas l = line-past s lemmas (root_state p) [] [] l

  crossing-past : (t : Bool) (s : Loosenings) (lemmas : List State) (i : ℕ) → PastNext (cond t (on (end_due s lemmas (left_open []))) (no_crossing p i))
  crossing-past true s lemmas i = tt
  crossing-past false s lemmas i = tt

  given-past : (t : Bool) (d : Due) (f : CertFault) → IsPast d → PastNext (given t d f)
  given-past true d f h = h
  given-past false d f h = tt

  next-past : (d : Due) (l : CertLine) → IsPast d → PastNext (next p b d l)
  next-past (root_due s lemmas) (crossing i) h = crossing-past (crosses p i) s lemmas i
  next-past (root_due s lemmas) (rule_line l) h = root-past (is_crossed_box p) s lemmas l
  next-past (root_due s lemmas) _ h = tt
  next-past (tree_due s lemmas S pending done) (rule_line l) h = line-past s lemmas S pending done l
  next-past (tree_due s lemmas S pending done) _ h = tt
  next-past (end_due s lemmas v) end_word h = given-past (is_shown p s v) (nothing_due s lemmas v) NotShown (tt {0})
  next-past (end_due s lemmas v) _ h = tt
  next-past (nothing_due s lemmas v) _ h = tt
  next-past _ l h = absurd h

  past-course : (x : Next) (n m : ℕ) (k : Due → Course) (e : Due) → PastNext x → ((d : Due) → IsPast d → k d ≡ reached e m → ⊥) → course_next x n k ≡ reached e m → ⊥
  past-course (on d) n m k e h f z = f d h z
  past-course (faulty f') n m k e h f z = cc

  no-tree : (ls rest : List CertLine) (n m : ℕ) (d e : Due) → IsPast d → course_of_lines p b n d (ls ++ (tree_word ∷ rest)) ≡ reached e m → ⊥
  no-tree [] rest n m (root_due s lemmas) e h z = cc
  no-tree [] rest n m (tree_due s lemmas S pending done) e h z = cc
  no-tree [] rest n m (end_due s lemmas v) e h z = cc
  no-tree [] rest n m (nothing_due s lemmas v) e h z = cc
  no-tree [] rest n m _ e h z = absurd h
  no-tree (l ∷ ls) rest n m d e h z = past-course (next p b d l) (suc n) m _ e (next-past d l h) (λ d' h' z'. no-tree ls rest (suc n) m d' e h' z') z

-- ---- the lemmas

-- where the one leaves something, the other leaves the same
abbrev SameIfSome : Option Left → Option Left → Type 0
SameIfSome None y = Unit {0}
SameIfSome (Some x) y = y ≡ Some x

if-some : (o u : Option Left) → ((x : Left) → o ≡ Some x → u ≡ Some x) → SameIfSome o u
if-some None u h = tt
if-some (Some x) u h = h x refl

module _ (p : Problem) (b : Option ℕ) (s : Loosenings) (v : ℕ) (newer : s.version ≤ v) (k j : ℕ) (fewer : k ≤ j) where
  -- the same is due in a lemma, where k lemmas were announced, and under version v where j were
  data Section : Due → Due → Type 0 where
    at_next : (lemmas : List State) → Section (next_due s k lemmas) (next_due (in_version v s) j lemmas)
    at_axis : (lemmas : List State) (a : Axis) (axes : List Axis) (space : Space) → Section (axis_due s k lemmas a axes space) (axis_due (in_version v s) j lemmas a axes space)
    at_yes : (lemmas : List State) (space : Space) → Section (yes_due s k lemmas space) (yes_due (in_version v s) j lemmas space)
    at_no : (lemmas : List State) (space : Space) (is : List ℕ) → Section (no_due s k lemmas space is) (no_due (in_version v s) j lemmas space is)
    at_lemma : (lemmas : List State) (L S : State) (pending : List State) → Section (lemma_due s k lemmas L S pending) (lemma_due (in_version v s) j lemmas L S pending)

  -- where the one goes on, so does the other, or the lemmas are complete
  abbrev Along : Next → Next → Type 0
  Along (faulty f) y = Unit {0}
  Along (on d) y = ((d' : Due) × (y ≡ on d') × Section d d') ⊎ IsPast d

  axis-along : (lemmas : List State) (axes : List Axis) (space : Space) → Along (on (axis_next s k lemmas axes space)) (on (axis_next (in_version v s) j lemmas axes space))
  axis-along lemmas [] space = inl (yes_due (in_version v s) j lemmas space, refl, at_yes lemmas space)
  axis-along lemmas (a ∷ axes) space = inl (axis_due (in_version v s) j lemmas a axes space, refl, at_axis lemmas a axes space)

  axis-given : (t : Bool) (f : CertFault) (lemmas : List State) (axes : List Axis) (space : Space) → Along (given t (axis_next s k lemmas axes space) f) (given t (axis_next (in_version v s) j lemmas axes space) f)
  axis-given true f lemmas axes space = axis-along lemmas axes space
  axis-given false f lemmas axes space = tt

  given-along : (t : Bool) (d d' : Due) (f : CertFault) → Section d d' → Along (given t d f) (given t d' f)
  given-along true d d' f h = inl (d', refl, h)
  given-along false d d' f h = tt

  past-along : (t : Bool) (d : Due) (f : CertFault) (y : Next) → IsPast d → Along (given t d f) y
  past-along true d f y h = inr h
  past-along false d f y h = tt

  less-along : (t t' : Bool) (x y z : Next) → (t ≡ true → t' ≡ true) → Along x y → Along (cond t x (faulty Missing)) (cond t' y z)
  less-along true t' x y z h a = subst (λ (u : Bool). Along x (cond u y z)) (sym (h refl)) a
  less-along false t' x y z h a = tt

  less-too : (n : ℕ) → nat_lt n k ≡ true → nat_lt n j ≡ true
  less-too n h = let low : suc n ≤ k = leb_yes (passes (nat_lt n k) h) in le-leb (suc n) j (omega (arith, low, fewer))

  axis-line : (lemmas : List State) (a : Declared) (axes : List Axis) (space : Space) (l : CertLine) → Along (axis_line p s k lemmas a axes space l) (axis_line p (in_version v s) j lemmas a axes space l)
  axis-line lemmas (real_between lo hi) axes space (real_interval l u) = axis-given _ BadNumber lemmas axes _
  axis-line lemmas any_bool axes space (bool_value w) = axis-along lemmas axes _
  axis-line lemmas _ axes space _ = tt

  lemma-along : (lemmas : List State) (L : State) (pending : List State) → Along (on (lemma_goes_on s k lemmas L pending)) (on (lemma_goes_on (in_version v s) j lemmas L pending))
  lemma-along lemmas L [] = inl (next_due (in_version v s) j (lemmas ++ (L ∷ [])), refl, at_next (lemmas ++ (L ∷ [])))
  lemma-along lemmas L (S ∷ pending) = inl (lemma_due (in_version v s) j lemmas L S pending, refl, at_lemma lemmas L S pending)

  after-same : (o : Option Left) (f : CertFault) (lemmas : List State) (L : State) (pending : List State) →
      Along (after_lemma_rule o f pending (lemma_goes_on s k lemmas L)) (after_lemma_rule o f pending (lemma_goes_on (in_version v s) j lemmas L))
  after-same None f lemmas L pending = tt
  after-same (Some closed) f lemmas L pending = lemma-along lemmas L pending
  after-same (Some stays) f lemmas L pending = tt
  after-same (Some (one S')) f lemmas L pending = lemma-along lemmas L (S' ∷ pending)
  after-same (Some (two S' S'')) f lemmas L pending = lemma-along lemmas L (S' ∷ S'' ∷ pending)

  after-along : (o u : Option Left) → SameIfSome o u → (f : CertFault) (lemmas : List State) (L : State) (pending : List State) →
      Along (after_lemma_rule o f pending (lemma_goes_on s k lemmas L)) (after_lemma_rule u f pending (lemma_goes_on (in_version v s) j lemmas L))
  after-along None u h f lemmas L pending = tt
  after-along (Some x) u h f lemmas L pending =
      subst (λ (y : Option Left). Along (after_lemma_rule (Some x) f pending (lemma_goes_on s k lemmas L)) (after_lemma_rule y f pending (lemma_goes_on (in_version v s) j lemmas L)))
      (sym h) (after-same (Some x) f lemmas L pending)

  ruled-along : (t : Bool) (x y : Next) → Along x y → Along (ruled_line t x) (ruled_line t y)
  ruled-along true x y h = h
  ruled-along false x y h = tt

  next-along : (d d' : Due) (l : CertLine) → Section d d' → Along (next p b d l) (next p b d' l)
  next-along _ _ (lemma i) (at_next lemmas) = less-along (nat_lt (length lemmas) k) (nat_lt (length lemmas) j) _ _ (faulty Missing) (less-too (length lemmas)) (axis-given (nat_eq i (length lemmas)) BadNumber lemmas p.axes [])
  next-along _ _ tree_word (at_next lemmas) = past-along (nat_eq (length lemmas) k) (root_due s lemmas) Missing _ (tt {0})
  next-along _ _ _ (at_next lemmas) = tt
  next-along _ _ l (at_axis lemmas a axes space) = axis-line lemmas a.declared axes space l
  next-along _ _ (yes_list js) (at_yes lemmas space) = given-along _ (no_due s k lemmas space js) (no_due (in_version v s) j lemmas space js) BadNumber (at_no lemmas space js)
  next-along _ _ _ (at_yes lemmas space) = tt
  next-along _ _ (no_list js) (at_no lemmas space is) = given-along _ (lemma_due s k lemmas (state_of p space is js) (state_of p space is js) []) (lemma_due (in_version v s) j lemmas (state_of p space is js) (state_of p space is js) []) BadNumber
      (at_lemma lemmas (state_of p space is js) (state_of p space is js) [])
  next-along _ _ _ (at_no lemmas space is) = tt
  next-along _ _ (rule_line l) (at_lemma lemmas L S pending) = ruled-along (names_well p l) _ _
      (after-along (rule p s lemmas S l) (rule p (in_version v s) lemmas S l) (if-some (rule p s lemmas S l) (rule p (in_version v s) lemmas S l) (rule_later p s v newer lemmas S l)) (RuleFails (word_of l)) lemmas L pending)
  next-along _ _ _ (at_lemma lemmas L S pending) = tt

  first-quiet : (d d' : Due) (l : CertLine) → Section d d' → stands_at p d (line l) ≡ []
  first-quiet _ _ l (at_next lemmas) = refl
  first-quiet _ _ l (at_axis lemmas a axes space) = refl
  first-quiet _ _ l (at_yes lemmas space) = refl
  first-quiet _ _ l (at_no lemmas space is) = refl
  first-quiet _ _ l (at_lemma lemmas L S pending) = refl

  second-quiet : (d d' : Due) (l : CertLine) → Section d d' → stands_at p d' (line l) ≡ []
  second-quiet _ _ l (at_next lemmas) = refl
  second-quiet _ _ l (at_axis lemmas a axes space) = refl
  second-quiet _ _ l (at_yes lemmas space) = refl
  second-quiet _ _ l (at_no lemmas space is) = refl
  second-quiet _ _ l (at_lemma lemmas L S pending) = refl

  -- ---- up to the line `tree`

  -- all lemmas stand, and the same lines lead to them where more follow
  pub record Ends (d d' : Due) (ls rest : List CertLine) : Type 0 where
    pub lemmas : List State
    pub count : length lemmas ≡ k
    pub old : Leads p b d (ls ++ (tree_word ∷ rest)) (next_due s k lemmas) (tree_word ∷ rest)
    pub new : (more : List CertLine) → Leads p b d' (ls ++ more) (next_due (in_version v s) j lemmas) more

  no-axis-tree : (lemmas : List State) (a : Declared) (axes : List Axis) (space : Space) (n m : ℕ) (f : Due → Course) (e : Due) → course_next (axis_line p s k lemmas a axes space tree_word) n f ≡ reached e m → ⊥
  no-axis-tree lemmas (real_between lo hi) axes space n m f e z = cc
  no-axis-tree lemmas any_bool axes space n m f e z = cc

  at-tree : (rest : List CertLine) (n m : ℕ) (d d' e : Due) → Section d d' → course_of_lines p b n d (tree_word ∷ rest) ≡ reached e m → Ends d d' [] rest
  at-tree rest n m _ _ e (at_next lemmas) z = record {
    lemmas = lemmas;
    count = eqb→eq (length lemmas) k (passes _ (given_goes (nat_eq (length lemmas) k) (root_due s lemmas) Missing (suc n) _ e m z).0);
    old = stay p b (next_due s k lemmas) (tree_word ∷ rest);
    new = λ more. stay p b (next_due (in_version v s) j lemmas) more;
  }
  at-tree rest n m _ _ e (at_axis lemmas a axes space) z = absurd (no-axis-tree lemmas a.declared axes space (suc n) m _ e z)
  at-tree rest n m _ _ e (at_yes lemmas space) z = cc
  at-tree rest n m _ _ e (at_no lemmas space is) z = cc
  at-tree rest n m _ _ e (at_lemma lemmas L S pending) z = cc

  by-next : (l : CertLine) (ls rest : List CertLine) (n m : ℕ) (d d' e : Due) → Section d d' → (x : Next) → next p b d l ≡ x → Along x (next p b d' l) →
      ((f f' : Due) → Section f f' → course_of_lines p b (suc n) f (ls ++ (tree_word ∷ rest)) ≡ reached e m → Ends f f' ls rest) →
      course_next x (suc n) (λ f. course_of_lines p b (suc n) f (ls ++ (tree_word ∷ rest))) ≡ reached e m → Ends d d' (l ∷ ls) rest
  by-next l ls rest n m d d' e h (faulty f) q a ih z = cc
  by-next l ls rest n m d d' e h (on f) q (inr a) ih z = absurd (no-tree p b ls rest (suc n) m f e a z)
  by-next l ls rest n m d d' e h (on f) q (inl a) ih z = let r = ih f a.0 a.2 z in record {
    lemmas = r.lemmas;
    count = r.count;
    old = through p b (one_line p b d l (ls ++ (tree_word ∷ rest)) f q (first-quiet d d' l h)) r.old;
    new = λ more. through p b (one_line p b d' l (ls ++ more) a.0 a.1 (second-quiet d d' l h)) (r.new more);
  }

  section-ends : (ls rest : List CertLine) (n m : ℕ) (d d' e : Due) → Section d d' → course_of_lines p b n d (ls ++ (tree_word ∷ rest)) ≡ reached e m → Ends d d' ls rest
  section-ends [] rest n m d d' e h z = at-tree rest n m d d' e h z
  section-ends (l ∷ ls) rest n m d d' e h z = by-next l ls rest n m d d' e h (next p b d l) refl (next-along d d' l h) (λ f f' h' z'. section-ends ls rest (suc n) m f f' e h' z') z

  -- the lines of all lemmas, where the line `tree` follows and all is taken
  pub lemmas_end : (ls rest : List CertLine) (n m : ℕ) (e : Due) → course_of_lines p b n (next_due s k []) (ls ++ (tree_word ∷ rest)) ≡ reached e m →
      Ends (next_due s k []) (next_due (in_version v s) j []) ls rest
  lemmas_end ls rest n m e z = section-ends ls rest n m (next_due s k []) (next_due (in_version v s) j []) e (at_next []) z
