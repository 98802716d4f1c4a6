-- The texts of certificates of least values are accepted.
use Rattle.std.proofs.Common.{◌≡◌, ℕ, ◌≤◌, List, [], ◌∷◌, ◌++◌, Bool, true, false, cond, IsTrue, Option, Some, None, refl, ap, sym, ◌∙◌, subst, length, arith}
use Rattle.std.proofs.lemmas.Bool.{le-leb}
use Rattle.dyadic.specs.Rounding.{Dyadic}
use Rattle.interval_model.specs.Space.{Space}
use Rattle.poly_graph.specs.Problem.{Problem}
use Rattle.cover_model.specs.State.{Loosenings, root_state}
use Rattle.cover_model.specs.Rules.{open_line}
use Rattle.cover_model.specs.Fits.{IsShownAt}
use Rattle.cover_data.specs.declared.margins.Margins.{Margins}
use Rattle.cover_data.specs.Margins.{AreMargins, loosenings_of}
use Rattle.cert_read.specs.CertLine.{CertLine, goal, cover, tree_word, end_word, over, rule_line}
use Rattle.cert_model.specs.Due.{BadHeader, OverFails, Standing, left_open, version_due, next_due, root_due, end_due, nothing_due, on, faulty, given, is_crossed_box}
use Rattle.cert_model.specs.Accepted.{next, root_line, reached, course_of_lines, most_lemmas, certificate_text}
use Rattle.cert_model.specs.Least.{Least, LeastDue, cover_due, in_cover_due, covered_due, shown_due, in_cover, is_over, searched, can_limit, tree_space, over_line, least_next, plain_due, least_due, least, goal_next, goal_ended, IsGoalAccepted}
use Rattle.cert_model.specs.Laws.{CanBeWritten}
use Rattle.cert_model.specs.SessionLaws.{WrittenEnd, value_of_end, standing_of_end, IsLawfulEnd}
use Rattle.cert_model.specs.Written.{LemmaTree, lemma_states, AreLemmaTrees}
use Rattle.cert_model.proofs.Spells.{verdict_spelled}
use Rattle.cert_model.proofs.Writes.{cover_finishes, Finishes}
use Rattle.cert_text.specs.Parts.{whole_point}
use Rattle.cert_text.specs.Session.{body_lines}
use Rattle.cert_text.proofs.Margins.{margins_fit}
use Rattle.least_text.specs.Lines.{least_header, root_over, over_lines, limited_cover, limited_lines}
use Rattle.least_text.specs.Means.{open_root}
use Rattle.least_text.proofs.Leads.{Leads, through, one_line, header_leads, goal_leads}
use Rattle.least_text.proofs.Covered.{cover_leads}
use Rattle.least_text.proofs.Pointed.{point_leads}

no-limit : (p : Problem) (g : ℕ) (low : Option Dyadic) → searched p g low None ≡ p
no-limit p g None = refl
no-limit p g (Some d) = refl

module _ (p : Problem) (g : ℕ) (room : Bool) (b : Option ℕ) (low : Option Dyadic) (s : Loosenings) where
  -- ---- the root over the bound

  over-step : (q : Problem) → is_crossed_box q ≡ false → is_over q g low (root_state q).space ≡ true →
      over_line q b g low None (root_due s []) (tree_space q (root_due s [])) ≡ on (in_cover_due low None (end_due s [] (left_open (open_root q ∷ []))))
  over-step q h k =
      ap (λ (t : Bool). over_line q b g low None (root_due s []) (cond t None (Some (root_state q).space))) h
      ∙ ap (λ (t : Bool). cond t (in_cover low None (next q b (root_due s []) (rule_line open_line))) (faulty OverFails)) k
      ∙ ap (λ (t : Bool). in_cover low None (root_line t q s [] open_line)) h

  over-leads : (ls : List CertLine) → is_crossed_box p ≡ false → is_over p g low (root_state p).space ≡ true →
      Leads p g room b (least_due (cover_due s low None)) (root_over ++ ls) (least_due (covered_due s low (open_root p ∷ []))) ls
  over-leads ls h k =
      let l3 : List CertLine = end_word ∷ ls in let l2 : List CertLine = over ∷ l3 in let l1 : List CertLine = tree_word ∷ l2 in
      let d0 : LeastDue = cover_due s low None in let d1 : LeastDue = in_cover_due low None (next_due s 0 []) in let d2 : LeastDue = in_cover_due low None (root_due s []) in
      let d3 : LeastDue = in_cover_due low None (end_due s [] (left_open (open_root p ∷ []))) in let d4 : LeastDue = covered_due s low (open_root p ∷ []) in
      let step : least_next p g room b d2 over ≡ on d3 =
      subst (λ (q : Problem). over_line q b g low None (root_due s []) (tree_space q (root_due s [])) ≡ on d3) (sym (no-limit p g low)) (over-step p h k) in
      through p g room b (least_due d0) (least_due d1) (least_due d4) (cover 0 ∷ l1) l1 ls (one_line p g room b d0 (cover 0) l1 d1 refl)
      (through p g room b (least_due d1) (least_due d2) (least_due d4) l1 l2 ls (one_line p g room b d1 tree_word l2 d2 refl)
      (through p g room b (least_due d2) (least_due d3) (least_due d4) l2 l3 ls (one_line p g room b d2 over l3 d3 step)
      (one_line p g room b d3 end_word ls d4 refl)))

  -- ---- a cover of the problem with a limit

  cover-line : (k n : ℕ) (ls : List CertLine) → n ≤ most_lemmas →
      Leads p g room b (least_due (cover_due s low (Some k))) (cover n ∷ ls) (least_due (in_cover_due low (Some k) (next_due s n []))) ls
  cover-line k n ls h = one_line p g room b (cover_due s low (Some k)) (cover n) ls (in_cover_due low (Some k) (next_due s n []))
      (ap (λ (t : Bool). in_cover low (Some k) (given t (next_due s n []) BadHeader)) (le-leb n most_lemmas h))

  limit-leads : (k : ℕ) (q : Problem) (lemmas : List LemmaTree) (end : WrittenEnd) (ls : List CertLine) → can_limit p room low k ≡ true → q ≡ searched p g low (Some k) → length lemmas ≤ most_lemmas →
      AreLemmaTrees q s [] lemmas → IsLawfulEnd q s (lemma_states lemmas) end → value_of_end s q (lemma_states lemmas) end ≡ left_open [] →
      Leads p g room b (least_due (cover_due s low None)) (limited_cover k lemmas end ++ ls) (least_due (covered_due s low [])) ls
  limit-leads k q lemmas end ls can same few trees lawful none =
      let n : ℕ = length lemmas in let body : List CertLine = body_lines 0 lemmas end in
      let found = subst (λ (i : ℕ). Finishes q b s (next_due s i []) body (lemma_states lemmas) (value_of_end s q (lemma_states lemmas) end) (standing_of_end s q (lemma_states lemmas) end)) (omega arith) (cover_finishes q b s [] lemmas end trees lawful) in
      let to = found.to 0 in
      let ends : course_of_lines q b 0 (next_due s n []) body ≡ reached (nothing_due s (lemma_states lemmas) (left_open [])) to.0 = to.1 ∙ ap (λ v. reached (nothing_due s (lemma_states lemmas) v) to.0) none in
      let there : course_of_lines (searched p g low (Some k)) b 0 (next_due s n []) body ≡ reached (nothing_due s (lemma_states lemmas) (left_open [])) to.0 =
      subst (λ (r : Problem). course_of_lines r b 0 (next_due s n []) body ≡ reached (nothing_due s (lemma_states lemmas) (left_open [])) to.0) same ends in
      let d0 : LeastDue = cover_due s low None in let d1 : LeastDue = cover_due s low (Some k) in let d2 : LeastDue = in_cover_due low (Some k) (next_due s n []) in let d3 : LeastDue = covered_due s low [] in
      through p g room b (least_due d0) (least_due d1) (least_due d3) (goal k ∷ cover n ∷ (body ++ ls)) (cover n ∷ (body ++ ls)) ls (goal_leads p g room b s low k (cover n ∷ (body ++ ls)) can)
      (through p g room b (least_due d1) (least_due d2) (least_due d3) (cover n ∷ (body ++ ls)) (body ++ ls) ls (cover-line k n (body ++ ls) few)
      (cover_leads p g room b low (Some k) body ls 0 (next_due s n []) s (lemma_states lemmas) to.0 there))

-- ---- whole texts

module _ (p : Problem) (g : ℕ) (room : Bool) (b : Option ℕ) (m : Margins) (are : AreMargins m) where
  abbrev s : Loosenings
  s = loosenings_of m

  text-accepted : (ls : List CertLine) (v : Least) → CanBeWritten ls → Leads p g room b (plain_due version_due) ls (least_due (shown_due s v)) [] → IsGoalAccepted p g room b (certificate_text ls) s (least v)
  text-accepted ls v can leads = verdict_spelled (goal_next p g room b) goal_ended (plain_due version_due) ls can.0 can.1 ∙ ap goal_ended (leads 0).1

  header-leads : (low : Option Dyadic) (ls : List CertLine) → Leads p g room b (plain_due version_due) (least_header s b low ++ ls) (least_due (cover_due s low None)) ls
  header-leads low ls = header_leads p g room b s low ls (margins_fit m are) are.version_is

  pub over_accepted : (low : Option Dyadic) (x : Space) → is_crossed_box p ≡ false → is_over p g low (root_state p).space ≡ true → IsShownAt p s x →
      CanBeWritten (over_lines s b low x) → IsGoalAccepted p g room b (certificate_text (over_lines s b low x)) s (least (record { lower = low; over = open_root p ∷ []; point = Some x }))
  over_accepted low x h k shown can =
      let left : List Standing = open_root p ∷ [] in
      text-accepted (over_lines s b low x) (record { lower = low; over = left; point = Some x }) can
      (through p g room b (plain_due version_due) (least_due (cover_due s low None)) _ (over_lines s b low x) (root_over ++ whole_point x) [] (header-leads low (root_over ++ whole_point x))
      (through p g room b (least_due (cover_due s low None)) (least_due (covered_due s low left)) _ (root_over ++ whole_point x) (whole_point x) [] (over-leads p g room b low s (whole_point x) h k)
      (point_leads p g room b low left s x shown)))

  pub limited_accepted : (d : Dyadic) (k : ℕ) (q : Problem) (lemmas : List LemmaTree) (end : WrittenEnd) (x : Space) →
      can_limit p room (Some d) k ≡ true → q ≡ searched p g (Some d) (Some k) → length lemmas ≤ most_lemmas →
      AreLemmaTrees q s [] lemmas → IsLawfulEnd q s (lemma_states lemmas) end → value_of_end s q (lemma_states lemmas) end ≡ left_open [] → IsShownAt p s x →
      CanBeWritten (limited_lines s b (Some d) k lemmas end x) →
      IsGoalAccepted p g room b (certificate_text (limited_lines s b (Some d) k lemmas end x)) s (least (record { lower = Some d; over = []; point = Some x }))
  limited_accepted d k q lemmas end x can same few trees lawful none shown written =
      let low : Option Dyadic = Some d in let ls : List CertLine = limited_lines s b low k lemmas end x in let ls' : List CertLine = limited_cover k lemmas end ++ whole_point x in
      text-accepted ls (record { lower = low; over = []; point = Some x }) written
      (through p g room b (plain_due version_due) (least_due (cover_due s low None)) _ ls ls' [] (header-leads low ls')
      (through p g room b (least_due (cover_due s low None)) (least_due (covered_due s low [])) _ ls' (whole_point x) []
      (limit-leads p g room b low s k q lemmas end (whole_point x) can same few trees lawful none)
      (point_leads p g room b low [] s x shown)))
