-- What comes of a line does not rest on what the code does not keep: the states that stay, of a value its point, of a part what it has kept.
use Rattle.std.proofs.Common.{◌≡◌, ℕ, zero, suc, List, [], ◌∷◌, ◌++◌, map, length, take, Bool, true, false, ◌&&◌, nat_le, Option, Some, None, refl, ap, ap₂, sym, ◌∙◌, arith}
use Rattle.std.proofs.lemmas.List.{map-append}
use Rattle.poly_graph.specs.Problem.{Problem}
use Rattle.poly_graph.specs.ProblemViews.{Parts, problem_of}
use Rattle.problem_session.specs.Session.{problems_of}
use Rattle.cover_model.specs.State.{State, Loosenings}
use Rattle.cover_model.specs.Rules.{Left, closed, one, two, stays, rule}
use Rattle.cover_line.specs.Words.{word_of}
use Rattle.cert_read.specs.CertLine.{CertLine, cover, keep, point_word, end_word, rule_line, Parsed, too_long, bad_line, bad_number, line}
use Rattle.cert_model.specs.Due.{CertFault, BadHeader, KeepFails, RuleFails, Value, version_due, kind_due, next_due, given, Standing, at_point, left_open, Due, tree_due, end_due, nothing_due, Next, on, faulty, names_well, after_rule, tree_goes_on}
use Rattle.cert_model.specs.Accepted.{most_lemmas, next, ruled_line}
use Rattle.cert_model.specs.Session.{Part, SessionDue, SessionNext, header_due, checks_due, part_due, keep_due, first_due, inside_due, all_done, kept_by, next_part, in_header, inside, in_part, none_complete, session_next}
use Rattle.cert_check.specs.Dues.{blanks, lean_left, lean_value, lean, lean_next, next_map}
use Rattle.cert_check.specs.Work.{Work, alone, together, Checks, started, work_next, work_step, brief, lean_part, spent, lean_session, lean_work}

pub length_blanks : (n : ℕ) → length (blanks n) ≡ n
length_blanks zero = refl
length_blanks (suc n) = let e = length_blanks n in omega (arith, e)

lean-twice : (left : List Standing) → lean_left left ≡ lean_left (lean_left left)
lean-twice left = ap blanks (sym (length_blanks (length left)))

length-more : (left : List Standing) (x : Standing) → length (left ++ (x ∷ [])) ≡ suc (length left)
length-more [] x = refl
length-more (y ∷ left) x = let e = length-more left x in omega (arith, e)

lean-more : (left : List Standing) (x : Standing) → lean_left (left ++ (x ∷ [])) ≡ lean_left (lean_left left ++ (x ∷ []))
lean-more left x = ap blanks (length-more left x ∙ sym (length-more (lean_left left) x ∙ ap suc (length_blanks (length left))))

module _ (s : Loosenings) (lemmas : List State) where
  goes-lean : (pending : List State) (done done' : List Standing) → lean_left done ≡ lean_left done' → lean (tree_goes_on s lemmas pending done) ≡ lean (tree_goes_on s lemmas pending done')
  goes-lean [] done done' e = ap (λ (d : List Standing). end_due s lemmas (left_open d)) e
  goes-lean (S ∷ pending) done done' e = ap (λ (d : List Standing). tree_due s lemmas S pending d) e

  rule-lean : (o : Option Left) (f : CertFault) (x : Standing) (pending : List State) (done : List Standing) →
      lean_next (after_rule o f x pending done (tree_goes_on s lemmas)) ≡ lean_next (after_rule o f x pending (lean_left done) (tree_goes_on s lemmas))
  rule-lean None f x pending done = refl
  rule-lean (Some closed) f x pending done = ap (λ (d : Due). on d) (goes-lean pending done (lean_left done) (lean-twice done))
  rule-lean (Some stays) f x pending done = ap (λ (d : Due). on d) (goes-lean pending (done ++ (x ∷ [])) (lean_left done ++ (x ∷ [])) (lean-more done x))
  rule-lean (Some (one S)) f x pending done = ap (λ (d : Due). on d) (goes-lean (S ∷ pending) done (lean_left done) (lean-twice done))
  rule-lean (Some (two S T)) f x pending done = ap (λ (d : Due). on d) (goes-lean (S ∷ T ∷ pending) done (lean_left done) (lean-twice done))

  ruled-lean : (t : Bool) (o : Option Left) (f : CertFault) (x : Standing) (pending : List State) (done : List Standing) →
      lean_next (ruled_line t (after_rule o f x pending done (tree_goes_on s lemmas))) ≡ lean_next (ruled_line t (after_rule o f x pending (lean_left done) (tree_goes_on s lemmas)))
  ruled-lean true o f x pending done = rule-lean o f x pending done
  ruled-lean false o f x pending done = refl

module _ (p : Problem) (b : Option ℕ) where
  tree-lean : (s : Loosenings) (lemmas : List State) (S : State) (pending : List State) (done : List Standing) (l : CertLine) →
      lean_next (next p b (tree_due s lemmas S pending done) l) ≡ lean_next (next p b (tree_due s lemmas S pending (lean_left done)) l)
  tree-lean s lemmas S pending done (rule_line l) =
      ruled-lean s lemmas (names_well p l) (rule p s lemmas S l) (RuleFails (word_of l)) (record { state = S; does = l }) pending done
  tree-lean s lemmas S pending done _ = refl

  end-lean : (s : Loosenings) (lemmas : List State) (left : List Standing) (l : CertLine) → lean_next (next p b (end_due s lemmas (left_open left)) l) ≡ lean_next (next p b (end_due s lemmas (left_open (lean_left left))) l)
  end-lean s lemmas left end_word = ap (λ (d : List Standing). on (nothing_due s lemmas (left_open d))) (lean-twice left)
  end-lean s lemmas left _ = refl

  -- what comes of a line does not rest on the states that stay
  pub next_lean : (d : Due) (l : CertLine) → lean_next (next p b d l) ≡ lean_next (next p b (lean d) l)
  next_lean (tree_due s lemmas S pending done) l = tree-lean s lemmas S pending done l
  next_lean (end_due s lemmas (left_open left)) l = end-lean s lemmas left l
  next_lean (end_due s lemmas (at_point space)) l = refl
  next_lean (nothing_due s lemmas v) l = refl
  next_lean _ l = refl

-- ---- values and parts

lean-again : (d : Due) → lean d ≡ lean (lean d)
lean-again (tree_due s lemmas S pending done) = ap (λ (l : List Standing). tree_due s lemmas S pending l) (lean-twice done)
lean-again (end_due s lemmas (left_open left)) = ap (λ (l : List Standing). end_due s lemmas (left_open l)) (lean-twice left)
lean-again (nothing_due s lemmas (left_open left)) = ap (λ (l : List Standing). nothing_due s lemmas (left_open l)) (lean-twice left)
lean-again (end_due s lemmas (at_point space)) = refl
lean-again (nothing_due s lemmas (at_point space)) = refl
lean-again _ = refl

brief-twice : (v : Value) → brief v ≡ brief (brief v)
brief-twice (at_point space) = refl
brief-twice (left_open left) = ap (λ (l : List Standing). left_open l) (lean-twice left)

pub brief_lean : (v : Value) → brief v ≡ brief (lean_value v)
brief_lean (at_point space) = refl
brief_lean (left_open left) = ap (λ (l : List Standing). left_open l) (lean-twice left)

pub briefs_twice : (vs : List Value) → map brief vs ≡ map brief (map brief vs)
briefs_twice [] = refl
briefs_twice (v ∷ vs) = ap₂ (λ (x : Value) (xs : List Value). x ∷ xs) (brief-twice v) (briefs_twice vs)

spent-twice : (t : Part) → spent t ≡ spent (spent t)
spent-twice t = ap (λ (vs : List Value). record t { may_keep = []; values = vs }) (briefs_twice t.values)

spent-lean : (t : Part) → spent t ≡ spent (lean_part t)
spent-lean t = ap (λ (vs : List Value). record t { may_keep = []; values = vs }) (briefs_twice t.values)

lean-part-twice : (t : Part) → lean_part t ≡ lean_part (lean_part t)
lean-part-twice t = ap (λ (vs : List Value). record t { values = vs }) (briefs_twice t.values)

-- ---- the end of a part

pub behind_lean : (s : Loosenings) (p : Problem) (lemmas : List State) (vs ws : List Value) (later : List (Problem × Bool)) → map brief vs ≡ map brief ws →
    lean_session (next_part s p lemmas vs later) ≡ lean_session (next_part s p lemmas ws later)
behind_lean s p lemmas vs ws [] e = ap (λ (xs : List Value). all_done s xs) e
behind_lean s p lemmas vs ws ((q, t) ∷ later) e = ap (λ (xs : List Value). part_due s (record { problem = q; may_keep = kept_by t p lemmas q; later = later; values = xs })) e

more-briefs : (vs ws : List Value) (v w : Value) → map brief vs ≡ map brief ws → brief v ≡ brief w → map brief (vs ++ (v ∷ [])) ≡ map brief (ws ++ (w ∷ []))
more-briefs vs ws v w e f =
    map-append brief vs (v ∷ []) ∙ ap₂ (λ (xs : List Value) (x : Value). xs ++ (x ∷ [])) e f ∙ sym (map-append brief ws (w ∷ []))

-- what is due inside a part, or behind it
pub inside_lean : (t : Part) (d : Due) → lean_session (inside t d) ≡ lean_session (inside (spent t) (lean d))
inside_lean t (nothing_due s lemmas v) =
    behind_lean s t.problem lemmas (t.values ++ (v ∷ [])) (map brief t.values ++ (lean_value v ∷ [])) t.later
    (more-briefs t.values (map brief t.values) v (lean_value v) (briefs_twice t.values) (brief_lean v))
inside_lean t d = ap₂ (λ (x : Part) (e : Due). inside_due x e) (spent-twice t) (lean-again d)

pub in_part_lean : (t : Part) (x : Next) → next_map lean_session (in_part t x) ≡ next_map lean_session (in_part (spent t) (lean_next x))
in_part_lean t (on d) = ap (λ (e : SessionDue). on e) (inside_lean t d)
in_part_lean t (faulty f) = refl

in-part-same : (t u : Part) (x y : Next) → spent t ≡ spent u → lean_next x ≡ lean_next y → next_map lean_session (in_part t x) ≡ next_map lean_session (in_part u y)
in-part-same t u x y e f = in_part_lean t x ∙ ap₂ (λ (v : Part) (z : Next). next_map lean_session (in_part v z)) e f ∙ sym (in_part_lean u y)

-- ---- a line of a certificate of several checks

pub in_header_lean : (x : Next) → next_map lean_session (in_header x) ≡ next_map lean_session (in_header (lean_next x))
in_header_lean (on (tree_due s lemmas S pending done)) = ap (λ (d : Due). on (header_due d)) (lean-again (tree_due s lemmas S pending done))
in_header_lean (on (end_due s lemmas v)) = ap (λ (d : Due). on (header_due d)) (lean-again (end_due s lemmas v))
in_header_lean (on (nothing_due s lemmas v)) = ap (λ (d : Due). on (header_due d)) (lean-again (nothing_due s lemmas v))
in_header_lean (on _) = refl
in_header_lean (faulty f) = refl

in-header-same : (x y : Next) → lean_next x ≡ lean_next y → next_map lean_session (in_header x) ≡ next_map lean_session (in_header y)
in-header-same x y e = in_header_lean x ∙ ap (λ (z : Next). next_map lean_session (in_header z)) e ∙ sym (in_header_lean y)

given-lean : (t : Bool) (d e : SessionDue) (f : CertFault) → lean_session d ≡ lean_session e → next_map lean_session (given t d f) ≡ next_map lean_session (given t e f)
given-lean true d e f h = ap (λ (x : SessionDue). on x) h
given-lean false d e f h = refl

module _ (p : Problem) (later : List (Problem × Bool)) (b : Option ℕ) where
  part-line-lean : (s : Loosenings) (t : Part) (l : CertLine) → next_map lean_session (session_next p later b (part_due s t) l) ≡ next_map lean_session (session_next p later b (part_due s (lean_part t)) l)
  part-line-lean s t (cover k) = given-lean (nat_le k most_lemmas) (keep_due s k t) (keep_due s k (lean_part t)) BadHeader (ap (λ (x : Part). keep_due s k x) (lean-part-twice t))
  part-line-lean s t point_word = in-part-same t (lean_part t) (next t.problem b (kind_due s) point_word) (next t.problem b (kind_due s) point_word) (spent-lean t) refl
  part-line-lean s t _ = refl

  keep-line-lean : (s : Loosenings) (k : ℕ) (t : Part) (l : CertLine) → next_map lean_session (session_next p later b (keep_due s k t) l) ≡ next_map lean_session (session_next p later b (keep_due s k (lean_part t)) l)
  keep-line-lean s k t (keep q) = given-lean (nat_le q k && nat_le q (length t.may_keep)) (first_due s k (take q t.may_keep) t) (first_due s k (take q t.may_keep) (lean_part t)) KeepFails
      (ap (λ (x : Part). first_due s k (take q t.may_keep) x) (spent-lean t))
  keep-line-lean s k t _ = refl

  session_lean : (d : SessionDue) (l : CertLine) → next_map lean_session (session_next p later b d l) ≡ next_map lean_session (session_next p later b (lean_session d) l)
  session_lean (header_due version_due) l = refl
  session_lean (header_due (tree_due s lemmas S pending done)) l = in-header-same (next p b (tree_due s lemmas S pending done) l) (next p b (tree_due s lemmas S pending (lean_left done)) l) (tree-lean p b s lemmas S pending done l)
  session_lean (header_due (end_due s lemmas v)) l = in-header-same (next p b (end_due s lemmas v) l) (next p b (end_due s lemmas (lean_value v)) l) (next_lean p b (end_due s lemmas v) l)
  session_lean (header_due (nothing_due s lemmas v)) l = refl
  session_lean (header_due _) l = refl
  session_lean (checks_due s) l = refl
  session_lean (part_due s t) l = part-line-lean s t l
  session_lean (keep_due s k t) l = keep-line-lean s k t l
  session_lean (first_due s k kept t) l =
      in-part-same t (spent t) (none_complete (next t.problem b (next_due s k kept) l)) (none_complete (next t.problem b (next_due s k kept) l)) (spent-twice t) refl
  session_lean (inside_due t d) l = in-part-same t (spent t) (next t.problem b d l) (next t.problem b (lean d) l) (spent-twice t) (next_lean t.problem b d l)
  session_lean (all_done s values) l = refl

-- ---- of one check or of several

alone-next : (x : Next) → next_map lean_work (next_map (λ (d : Due). alone d) x) ≡ next_map (λ (d : Due). alone d) (lean_next x)
alone-next (on d) = refl
alone-next (faulty f) = refl

pub together_next : (x : SessionNext) → next_map lean_work (next_map (λ (d : SessionDue). together d) x) ≡ next_map (λ (d : SessionDue). together d) (next_map lean_session x)
together_next (on d) = refl
together_next (faulty f) = refl

module _ (c : Checks) where
  work-lean : (w : Work) (l : CertLine) → next_map lean_work (work_next c w l) ≡ next_map lean_work (work_next c (lean_work w) l)
  work-lean (alone d) l =
      let p = problem_of c.problem in
      alone-next (next p c.bound d l) ∙ ap (next_map (λ (e : Due). alone e)) (next_lean p c.bound d l) ∙ sym (alone-next (next p c.bound (lean d) l))
  work-lean (together d) l =
      let p = problem_of c.problem in let later = problems_of c.later in
      together_next (session_next p later c.bound d l) ∙ ap (next_map (λ (e : SessionDue). together e)) (session_lean p later c.bound d l)
      ∙ sym (together_next (session_next p later c.bound (lean_session d) l))

  pub step_lean : (w : Work) (l : Parsed) → next_map lean_work (work_step c w l) ≡ next_map lean_work (work_step c (lean_work w) l)
  step_lean w too_long = refl
  step_lean w bad_line = refl
  step_lean w bad_number = refl
  step_lean w (line l) = work-lean w l

pub started_lean : (later : List (Parts × Bool)) → lean_work (started later) ≡ started later
started_lean [] = refl
started_lean (c ∷ later) = refl
