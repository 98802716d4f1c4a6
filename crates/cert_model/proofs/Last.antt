-- Nothing follows the line `end` of an accepted certificate.
use Rattle.std.proofs.Common.{◌≡◌, ℕ, suc, List, [], ◌∷◌, ◌++◌, Bool, true, false, cond, Option, Some, None, refl, ap, sym, ◌∙◌, subst, true≢false, nat_eq, nat_lt, nat_le, length, take}
use Rattle.poly_graph.specs.Problem.{Declared, real_between, any_bool, Axis, Problem, crosses}
use Rattle.cover_model.specs.State.{State, Loosenings, root_state}
use Rattle.interval_model.specs.Space.{Space}
use Rattle.cover_model.specs.Rules.{Left, closed, one, two, stays, rule, Line}
use Rattle.cover_line.specs.Words.{word_of}
use Rattle.cert_read.specs.Lines.{lines_of, lines_so_far}
use Rattle.cert_read.specs.CertLine.{CertLine, version, margin, delta, bound, cover, point_word, tree_word, end_word, lemma, real_interval, real_value, bool_value, says_false, says_true, yes_list, no_list, rule_line, crossing, Parsed, too_long, bad_line, bad_number, line, parsed}
use Rattle.cert_model.specs.Due.{CertFault, RuleFails, Standing, Value, Due, version_due, margin_due, delta_due, bound_due, kind_due, next_due, axis_due, yes_due, no_due, lemma_due, root_due, tree_due, coordinate_due, end_due, nothing_due, Next, on, faulty, given, is_version, names_well, after_rule, after_lemma_rule, tree_goes_on, lemma_goes_on, axis_next, coordinate_next, is_crossed_box, is_shown, same_bound}
use Rattle.cert_model.specs.Accepted.{next, next_parsed, loosenings_fit, ruled_line, tree_line, root_line, axis_line, coordinate_line, IsAccepted, most_lemmas, most_bytes, Course, stopped, reached, course_next, course, Verdict, accepted, refused, at_end, ended, cut_off, verdict_by}
use Rattle.cert_model.specs.Derived.{EndsOnce}
use Rattle.cert_model.proofs.Invariant.{IfOn}

abbrev pub is_done : Due → Bool
is_done (nothing_due s lemmas v) = true
is_done d = false

-- something is due
abbrev GoesOn : Next → Type 0
GoesOn x = IfOn (λ d. is_done d ≡ false) x

given-on : (t : Bool) (d : Due) (f : CertFault) (e : Bool) → is_done d ≡ e → IfOn (λ d'. is_done d' ≡ e) (given t d f)
given-on true d f e h = h
given-on false d f e h = tt

cond-on : (t : Bool) (x y : Next) → GoesOn x → GoesOn y → GoesOn (cond t x y)
cond-on true x y h k = h
cond-on false x y h k = k

ruled-on : (t : Bool) (x : Next) → GoesOn x → GoesOn (ruled_line t x)
ruled-on true x h = h
ruled-on false x h = tt

axis-on : (s : Loosenings) (k : ℕ) (lemmas : List State) (axes : List Axis) (space : Space) → is_done (axis_next s k lemmas axes space) ≡ false
axis-on s k lemmas [] space = refl
axis-on s k lemmas (a ∷ axes) space = refl

coordinate-on : (s : Loosenings) (axes : List Axis) (space : Space) → is_done (coordinate_next s axes space) ≡ false
coordinate-on s [] space = refl
coordinate-on s (a ∷ axes) space = refl

lemma-on : (s : Loosenings) (k : ℕ) (lemmas : List State) (L : State) (pending : List State) → is_done (lemma_goes_on s k lemmas L pending) ≡ false
lemma-on s k lemmas L [] = refl
lemma-on s k lemmas L (S ∷ pending) = refl

tree-on : (s : Loosenings) (lemmas pending : List State) (done : List Standing) → is_done (tree_goes_on s lemmas pending done) ≡ false
tree-on s lemmas [] done = refl
tree-on s lemmas (S ∷ pending) done = refl

after-lemma : (o : Option Left) (f : CertFault) (s : Loosenings) (k : ℕ) (lemmas : List State) (L : State) (pending : List State) → GoesOn (after_lemma_rule o f pending (lemma_goes_on s k lemmas L))
after-lemma None f s k lemmas L pending = tt
after-lemma (Some closed) f s k lemmas L pending = lemma-on s k lemmas L pending
after-lemma (Some stays) f s k lemmas L pending = tt
after-lemma (Some (one S')) f s k lemmas L pending = refl
after-lemma (Some (two S' S'')) f s k lemmas L pending = refl

after-tree : (o : Option Left) (f : CertFault) (x : Standing) (s : Loosenings) (lemmas pending : List State) (done : List Standing) → GoesOn (after_rule o f x pending done (tree_goes_on s lemmas))
after-tree None f x s lemmas pending done = tt
after-tree (Some closed) f x s lemmas pending done = tree-on s lemmas pending done
after-tree (Some stays) f x s lemmas pending done = tree-on s lemmas pending (done ++ (x ∷ []))
after-tree (Some (one S')) f x s lemmas pending done = refl
after-tree (Some (two S' S'')) f x s lemmas pending done = refl

axis-line : (p : Problem) (s : Loosenings) (k : ℕ) (lemmas : List State) (a : Declared) (axes : List Axis) (space : Space) (l : CertLine) → GoesOn (axis_line p s k lemmas a axes space l)
axis-line p s k lemmas (real_between lo hi) axes space (real_interval l u) = given-on _ (axis_next s k lemmas axes _) _ false (axis-on s k lemmas axes _)
axis-line p s k lemmas any_bool axes space (bool_value w) = axis-on s k lemmas axes _
axis-line p s k lemmas _ axes space _ = tt

coordinate-line : (s : Loosenings) (a : Declared) (axes : List Axis) (space : Space) (l : CertLine) → GoesOn (coordinate_line s a axes space l)
coordinate-line s (real_between lo hi) axes space (real_value v) = coordinate-on s axes _
coordinate-line s any_bool axes space (bool_value says_false) = coordinate-on s axes _
coordinate-line s any_bool axes space (bool_value says_true) = coordinate-on s axes _
coordinate-line s _ axes space _ = tt

abbrev is_end : CertLine → Bool
is_end end_word = true
is_end l = false

abbrev is_end_parsed : Parsed → Bool
is_end_parsed (line l) = is_end l
is_end_parsed x = false

end-parsed : (x : Parsed) → is_end_parsed x ≡ true → x ≡ line end_word
end-parsed (line end_word) h = refl
end-parsed _ h = absurd (true≢false (sym h))

module _ (p : Problem) (b : Option ℕ) where
  tree-line : (s : Loosenings) (lemmas : List State) (S : State) (pending : List State) (done : List Standing) (l : Line) → GoesOn (tree_line p s lemmas S pending done l)
  tree-line s lemmas S pending done l = ruled-on (names_well p l) _ (after-tree (rule p s lemmas S l) (RuleFails (word_of l)) (record { state = S; does = l }) s lemmas pending done)

  root-line : (t : Bool) (s : Loosenings) (lemmas : List State) (l : Line) → GoesOn (root_line t p s lemmas l)
  root-line true s lemmas l = ruled-on (names_well p l) (faulty (RuleFails (word_of l))) (tt {0})
  root-line false s lemmas l = tree-line s lemmas (root_state p) [] [] l

  no-axis-end : (s : Loosenings) (k : ℕ) (lemmas : List State) (a : Declared) (axes : List Axis) (space : Space) → IfOn (λ d. is_done d ≡ true) (axis_line p s k lemmas a axes space end_word)
  no-axis-end s k lemmas (real_between lo hi) axes space = tt
  no-axis-end s k lemmas any_bool axes space = tt

  no-coordinate-end : (s : Loosenings) (a : Declared) (axes : List Axis) (space : Space) → IfOn (λ d. is_done d ≡ true) (coordinate_line s a axes space end_word)
  no-coordinate-end s (real_between lo hi) axes space = tt
  no-coordinate-end s any_bool axes space = tt

  -- nothing is due after `end`, and something is after every other line
  after-line : (d : Due) (l : CertLine) → IfOn (λ d'. is_done d' ≡ is_end l) (next p b d l)
  after-line version_due (version n) = given-on (is_version n) (margin_due n) _ false refl
  after-line version_due _ = tt
  after-line (margin_due v) (margin m) = refl
  after-line (margin_due v) _ = tt
  after-line (delta_due v m) (delta n) = given-on (loosenings_fit m n) (bound_due _) _ false refl
  after-line (delta_due v m) _ = tt
  after-line (bound_due s) (bound n) = given-on (same_bound n b) (kind_due s) _ false refl
  after-line (bound_due s) _ = tt
  after-line (kind_due s) (cover k) = given-on (nat_le k most_lemmas) (next_due s k []) _ false refl
  after-line (kind_due s) point_word = coordinate-on s p.axes []
  after-line (kind_due s) _ = tt
  after-line (next_due s k lemmas) (lemma i) = cond-on (nat_lt (length lemmas) k) _ _ (given-on (nat_eq i (length lemmas)) (axis_next s k lemmas p.axes []) _ false (axis-on s k lemmas p.axes [])) (tt {0})
  after-line (next_due s k lemmas) tree_word = given-on (nat_eq (length lemmas) k) (root_due s lemmas) _ false refl
  after-line (next_due s k lemmas) _ = tt
  after-line (axis_due s k lemmas a axes space) end_word = no-axis-end s k lemmas a.declared axes space
  after-line (axis_due s k lemmas a axes space) l = axis-line p s k lemmas a.declared axes space l
  after-line (yes_due s k lemmas space) (yes_list js) = given-on _ (no_due s k lemmas space js) _ false refl
  after-line (yes_due s k lemmas space) _ = tt
  after-line (no_due s k lemmas space is) (no_list js) = given-on _ (lemma_due s k lemmas _ _ []) _ false refl
  after-line (no_due s k lemmas space is) _ = tt
  after-line (lemma_due s k lemmas L S pending) (rule_line l) = ruled-on (names_well p l) _ (after-lemma (rule p s lemmas S l) (RuleFails (word_of l)) s k lemmas L pending)
  after-line (lemma_due s k lemmas L S pending) _ = tt
  after-line (root_due s lemmas) (crossing i) = cond-on (crosses p i) (on (end_due s lemmas _)) _ refl (tt {0})
  after-line (root_due s lemmas) (rule_line l) = root-line (is_crossed_box p) s lemmas l
  after-line (root_due s lemmas) _ = tt
  after-line (tree_due s lemmas S pending done) (rule_line l) = tree-line s lemmas S pending done l
  after-line (tree_due s lemmas S pending done) _ = tt
  after-line (coordinate_due s a axes space) end_word = no-coordinate-end s a.declared axes space
  after-line (coordinate_due s a axes space) l = coordinate-line s a.declared axes space l
  after-line (end_due s lemmas v) end_word = given-on (is_shown p s v) (nothing_due s lemmas v) _ true refl
  after-line (end_due s lemmas v) _ = tt
  after-line (nothing_due s lemmas v) _ = tt

  after-parsed : (d : Due) (x : Parsed) → IfOn (λ d'. is_done d' ≡ is_end_parsed x) (next_parsed p b d x)
  after-parsed d too_long = tt
  after-parsed d bad_line = tt
  after-parsed d bad_number = tt
  after-parsed d (line l) = after-line d l

  -- ---- all lines

  abbrev course_done : Course → Bool
  course_done (stopped f n) = false
  course_done (reached d n) = is_done d

  no-line-after : (s : Loosenings) (lemmas : List State) (v : Value) (x : Parsed) (n : ℕ) (k : Due → Course) → course_done (course_next (next_parsed p b (nothing_due s lemmas v) x) n k) ≡ false
  no-line-after s lemmas v too_long n k = refl
  no-line-after s lemmas v bad_line n k = refl
  no-line-after s lemmas v bad_number n k = refl
  no-line-after s lemmas v (line l) n k = refl

  nothing-after : (ls : List (List ℕ)) (n : ℕ) (d : Due) → is_done d ≡ true → course_done (course p b n d ls) ≡ true → ls ≡ []
  nothing-after [] n d h e = refl
  nothing-after (l ∷ ls) n (nothing_due s lemmas v) h e = absurd (true≢false (sym e ∙ no-line-after s lemmas v (parsed l) (suc n) _))
  nothing-after (l ∷ ls) n _ h e = absurd (true≢false (sym h))

  with-more : (l : List ℕ) (ls : List (List ℕ)) → (parsed l ≡ line end_word → ⊥) → EndsOnce ls → EndsOnce (l ∷ ls)
  with-more l [] h e = absurd e
  with-more l (m ∷ ls) h e = (h, e)

  by-done : (l : List ℕ) (ls : List (List ℕ)) (d : Due) (t : Bool) → is_done d ≡ t → is_done d ≡ is_end_parsed (parsed l) → (is_done d ≡ true → ls ≡ []) → (is_done d ≡ false → EndsOnce ls) → EndsOnce (l ∷ ls)
  by-done l ls d true h a none ih = subst (λ (xs : List (List ℕ)). EndsOnce (l ∷ xs)) (sym (none h)) (end-parsed (parsed l) (sym a ∙ h))
  by-done l ls d false h a none ih = with-more l ls (λ e. true≢false (sym (ap is_end_parsed e) ∙ sym a ∙ h)) (ih h)

  by-next : (l : List ℕ) (ls : List (List ℕ)) (n : ℕ) (x : Next) → IfOn (λ d'. is_done d' ≡ is_end_parsed (parsed l)) x →
      ((d : Due) → course_done (course p b (suc n) d ls) ≡ true → is_done d ≡ false → EndsOnce ls) →
      course_done (course_next x (suc n) (λ d'. course p b (suc n) d' ls)) ≡ true → EndsOnce (l ∷ ls)
  by-next l ls n (on d) a ih e = by-done l ls d (is_done d) refl a (λ h. nothing-after ls (suc n) d h e) (λ h. ih d e h)
  by-next l ls n (faulty f) a ih e = absurd (true≢false (sym e))

  ends-once : (ls : List (List ℕ)) (n : ℕ) (d : Due) → course_done (course p b n d ls) ≡ true → is_done d ≡ false → EndsOnce ls
  ends-once [] n d e h = true≢false (sym e ∙ h)
  ends-once (l ∷ ls) n d e h = by-next l ls n (next_parsed p b d (parsed l)) (after-parsed d (parsed l)) (λ d' e' h'. ends-once ls (suc n) d' e' h') e

  abbrev is_accepted : Verdict → Bool
  is_accepted (accepted s v) = true
  is_accepted (refused f n) = false

  end-done : (d : Due) (n : ℕ) → is_accepted (at_end d n) ≡ true → is_done d ≡ true
  end-done (nothing_due s lemmas v) n e = refl
  end-done _ n e = absurd (true≢false (sym e))

  ended-done : (c : Course) → is_accepted (ended c) ≡ true → course_done c ≡ true
  ended-done (stopped f n) e = absurd (true≢false (sym e))
  ended-done (reached d n) e = end-done d n e

  cut-refused : (c : Course) → is_accepted (cut_off c) ≡ false
  cut-refused (stopped f n) = refl
  cut-refused (reached d n) = refl

  by-length : (t : Bool) (bytes : List ℕ) → is_accepted (verdict_by t p b bytes) ≡ true → EndsOnce (lines_of bytes)
  by-length true bytes e = ends-once (lines_of bytes) 0 version_due (ended-done (course p b 0 version_due (lines_of bytes)) e) refl
  by-length false bytes e = absurd (true≢false (sym e ∙ cut-refused (course p b 0 version_due (lines_so_far (take most_bytes bytes)))))

  pub end_is_last : (bytes : List ℕ) (s : Loosenings) (v : Value) → IsAccepted p b bytes s v → EndsOnce (lines_of bytes)
  end_is_last bytes s v e = by-length (nat_le (length bytes) most_bytes) bytes (ap is_accepted e)
