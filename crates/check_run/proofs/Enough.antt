-- The width that a plan names is enough for `solve`.
use Rattle.std.proofs.Common.{◌≡◌, ◌++◌, inl, inr, ℕ, zero, suc, ◌+◌, List, [], ◌∷◌, Bool, Option, Some, None, refl, ap, sym, subst, ◌∙◌, ap₂, arith, append-nil}
use Rattle.std.specs.Prelude.{slice_get}
use Rattle.std.proofs.lemmas.Option.{none-some}
use Rattle.command_line.specs.declared.request.Options.{Options}
use Rattle.command_line.specs.Words.{Plan, Solve}
use Rattle.poly_graph.specs.Problem.{IsProblem, Problem}
use Rattle.cover_model.specs.State.{Loosenings, in_version}
use Rattle.cert_model.specs.Due.{Value, at_point, left_open}
use Rattle.cert_model.specs.AnswerText.{solve_text, unsat_text, delta_sat_text, budget_text}
use Rattle.width_plan.specs.Plan as width
use Rattle.width_plan.specs.Plan.{IsPlan, least_bits, no_atom, no_axis}
use Rattle.plan_law.specs.Laws.{IsPlannedPart}
use Rattle.plan_law.proofs.Parts.{part_never_answers_width}
use Rattle.cert_model.specs.Session.{AreAccepted}
use Rattle.script_fault.specs.declared.fault.ScriptFault.{ScriptFault}
use Rattle.check_run.specs.ScriptFaults.{fault_text}
use Rattle.script_reading.specs.Faults.{session_fault}
use Rattle.smt_script.specs.Levels.{Asked}
use Rattle.script_reading.specs.Session.{AreBuilt, HasSession, asked_in, carried_in}
use Rattle.check_run.specs.Answer.{loosenings_of, solve_texts, AreAnswers, AreFoundFrom, IsFoundPart}
use Rattle.check_run.specs.Course.{Course}
use Rattle.check_run.specs.Can.{ArePlans, CanSolve, CanBy, OfSession}
use Rattle.check_run.specs.Headline.{AreEnoughFrom, AreOptionsAt, HasOneCheck, IsEnoughAt, NeverUnknownWidth, NeverUnknownWidthAt, unknown_width_word}
use Rattle.check_run.proofs.Apart.{apart}
use Rattle.check_run.proofs.Single.{one_problem, one_value}
use Rattle.check_run.proofs.Versions.{text_again}

-- each check of a script has one problem
abbrev pub SessionIsOne : Type 0
SessionIsOne = (bound : Option ℕ) (text : List ℕ) (ps qs : List (Problem × Bool)) → HasSession bound ps text → HasSession bound qs text → ps ≡ qs

whole-at : (bound : Option ℕ) (asked : List Asked) (said : List Bool) (ps : List (Problem × Bool)) → AreBuilt bound asked said ps → (k : ℕ) (q : Problem × Bool) → slice_get ps k ≡ Some q → IsProblem q.0
whole-at bound asked said [] b k q at = cc
whole-at bound (a ∷ asked) (x ∷ said) (p ∷ ps) b zero q at = let same : p ≡ q = cc in subst (λ (y : Problem × Bool). IsProblem y.0) same b.0.whole
whole-at bound (a ∷ asked) (x ∷ said) (p ∷ ps) b (suc k) q at = whole-at bound asked said ps b.2 k q at
whole-at bound [] [] (p ∷ ps) b k q at = absurd b
whole-at bound [] (x ∷ said) (p ∷ ps) b k q at = absurd b
whole-at bound (a ∷ asked) [] (p ∷ ps) b k q at = absurd b

-- what is found of part k
found-at : (ps : List (Problem × Bool)) (o : Options) (cert : List ℕ) (n k : ℕ) (later : List (Problem × Bool)) (values : List Value) → AreFoundFrom ps o cert n later values → (p : Problem) (e : Bool) (v : Value) →
    slice_get later k ≡ Some (p, e) → slice_get values k ≡ Some v → IsFoundPart ps o cert (n + k) p v
found-at ps o cert n k [] values h p e v at is = cc
found-at ps o cert n k (q ∷ later) [] h p e v at is = cc
found-at ps o cert n zero ((q, x) ∷ later) (w ∷ values) h p e v at is =
    let both : ◌≡◌ {A = Problem × Bool} (q, x) (p, e) = cc in let problem : q ≡ p = ap (λ (y : Problem × Bool). y.0) both in let value : w ≡ v = cc in
    subst (λ (m : ℕ). IsFoundPart ps o cert m p v) (omega arith) (subst (λ (y : Problem). IsFoundPart ps o cert n y v) problem (subst (λ (y : Value). IsFoundPart ps o cert n q y) value h.0))
found-at ps o cert n (suc k) ((q, x) ∷ later) (w ∷ values) h p e v at is =
    subst (λ (m : ℕ). IsFoundPart ps o cert m p v) (omega arith) (found-at ps o cert (suc n) k later values h.1 p e v at is)

module _ (one : SessionIsOne) (words : Plan) (script : List ℕ) (ps : List (Problem × Bool)) (has : HasSession words.bound ps script) (k : ℕ) (p : Problem) (e : Bool) (at : slice_get ps k ≡ Some (p, e))
    (bits : ℕ) (plan : IsPlan p words.delta_bits words.margin_bits (least_bits bits)) where
  -- `solve` takes the same problem
  same-problem : (o : Options) → AreOptionsAt words bits o → (qs : List (Problem × Bool)) → HasSession o.bound qs script → (q : Problem) (x : Bool) → slice_get qs k ≡ Some (q, x) → p ≡ q
  same-problem o is qs also q x there =
      let same : ps ≡ qs = one words.bound script ps qs has (subst (λ (b : Option ℕ). HasSession b qs script) is.bound also) in
      let both : ◌≡◌ {A = Option (Problem × Bool)} (Some (p, e)) (Some (q, x)) = sym at ∙ ap (λ (ys : List (Problem × Bool)). slice_get ys k) same ∙ there in
      let pair : ◌≡◌ {A = Problem × Bool} (p, e) (q, x) = cc in ap (λ (y : Problem × Bool). y.0) pair

  -- the plan is one for its delta and margin
  planned-too : (o : Options) → AreOptionsAt words bits o → (q : Problem) → p ≡ q → IsPlan q o.delta_bits o.margin_bits (least_bits o.least_bits)
  planned-too o is q same =
      let P : Problem → Type 0 = λ x. IsPlan x words.delta_bits words.margin_bits (least_bits bits) in
      let D : ℕ → Type 0 = λ d. IsPlan q d words.margin_bits (least_bits bits) in
      let M : ℕ → Type 0 = λ m. IsPlan q o.delta_bits m (least_bits bits) in
      let W : ℕ → Type 0 = λ w. IsPlan q o.delta_bits o.margin_bits (least_bits w) in
      subst W (sym is.least) (subst M (sym is.margin) (subst D (sym is.delta) (subst P same plan)))

  never-value : (o : Options) → AreOptionsAt words bits o → (qs : List (Problem × Bool)) → HasSession o.bound qs script → (cert : List ℕ) (values : List Value) → AreAnswers qs o cert values →
      (q : Problem) (x : Bool) (v : Value) → slice_get qs k ≡ Some (q, x) → slice_get values k ≡ Some v →
      (rest : List ℕ) → solve_text q o.budget (loosenings_of o) v ≡ unknown_width_word ++ rest → ⊥
  never-value o is qs also cert values answers q x (at_point space) there value rest same = apart (unknown_width_word ++ rest) (delta_sat_text q (loosenings_of o) space) 0 (sym same) refl
  never-value o is qs also cert values answers q x (left_open left) there value rest same =
      let s : Loosenings = in_version answers.version (loosenings_of o) in
      let again = text_again q o.budget answers.version (loosenings_of o) (left_open left) in
      let from_first : 0 + k ≡ k = omega arith in
      let found = subst (λ (j : ℕ). IsFoundPart qs o cert j q (left_open left)) from_first (found-at qs o cert 0 k qs values answers.found q x (left_open left) there value) in
      let part : IsPlannedPart qs o.bound cert s k q left o.least_bits = record {
        values = values;
        accepted = answers.accepted;
        in_force = x;
        problem = there;
        whole = whole-at o.bound (asked_in o.bound script) (carried_in o.bound script) qs also.built k (q, x) there;
        value = value;
        plan = planned-too o is q (same-problem o is qs also q x there);
        honest = found.honest;
      } in
      elim (part_never_answers_width qs o.bound cert s k q left o.least_bits o.budget part) [
        | inl h ↦ apart (unknown_width_word ++ rest) (unsat_text s) 2 (sym same ∙ sym again ∙ h) refl
        | inr h ↦ apart (unknown_width_word ++ rest) (budget_text o.budget) 8 (sym same ∙ sym again ∙ h) refl
      ]

  pub never_at : NeverUnknownWidthAt words bits script k
  never_at o is qs also cert values answers q x v there value rest same = never-value o is qs also cert values answers q x v there value rest same

-- ---- courses of a script with one check

pub texts_one : (budget : ℕ) (s : Loosenings) (ps : List (Problem × Bool)) (values : List Value) (p : Problem) (e : Bool) (v : Value) → ps ≡ (p, e) ∷ [] → values ≡ v ∷ [] → solve_texts budget s ps values ≡ solve_text p budget s v
texts_one budget s ps values p e v f g = ap₂ (solve_texts budget s) f g ∙ append-nil (solve_text p budget s v)

module _ (words : Plan) (script : List ℕ) (bits : ℕ) (never : NeverUnknownWidthAt words bits script 0) (single : HasOneCheck script) where
  never-so : (o : Options) → AreOptionsAt words bits o → (qs : List (Problem × Bool)) → HasSession o.bound qs script → (name : List ℕ) (tail : Course) → CanSolve qs o name tail →
      (rest : List ℕ) → tail.answer ≡ unknown_width_word ++ rest → ⊥
  never-so o is qs also name tail can rest e =
      let s : Loosenings = in_version can.2.version (loosenings_of o) in
      let x = one_problem o.bound script single qs also in
      let accepts = subst (λ (ys : List (Problem × Bool)). AreAccepted ys o.bound can.0 s can.1) x.only can.2.accepted in
      let y = one_value x.problem x.extends o.bound can.0 s can.1 accepts in
      never o is qs also can.0 can.1 can.2 x.problem x.extends y.value (ap (λ (ys : List (Problem × Bool)). slice_get ys 0) x.only) (ap (λ (vs : List Value). slice_get vs 0) y.only) rest
      (sym (texts_one o.budget (loosenings_of o) qs can.1 x.problem x.extends y.value x.only y.only) ∙ sym (ap (λ (c : Course). c.answer) can.3) ∙ e)

  never-by : (asked : Solve) → AreOptionsAt words bits asked.options → (f : Option ScriptFault) (tail : Course) →
      CanBy f (OfSession asked.options.bound script (λ qs. CanSolve qs asked.options asked.cert)) tail → (rest : List ℕ) → tail.answer ≡ unknown_width_word ++ rest → ⊥
  never-by asked is (Some f) tail can rest e = apart (unknown_width_word ++ rest) (fault_text f) 0 (sym e ∙ ap (λ (c : Course). c.answer) can) refl
  never-by asked is None tail can rest e = never-so asked.options is can.0 can.1 asked.cert tail can.2 rest e

never-alone : (words : Plan) (script : List ℕ) (bits : ℕ) → NeverUnknownWidthAt words bits script 0 → NeverUnknownWidth words bits script
never-alone words script bits never single asked is cert_in parts course can rest e =
    never-by words script bits never single asked is (session_fault asked.options.bound script) can.0 can.1 rest (sym (ap (λ (c : Course). c.answer) can.2) ∙ e)

-- a script with one check has no check behind the first
none-behind : (bound : Option ℕ) (script : List ℕ) (ps : List (Problem × Bool)) → HasSession bound ps script → HasOneCheck script → (k : ℕ) (q : Problem × Bool) → slice_get ps (suc k) ≡ Some q → ⊥
none-behind bound script ps has single k q at =
    let x = one_problem bound script single ps has in
    let none : slice_get ((x.problem, x.extends) ∷ []) (suc k) ≡ Some q = sym (ap (λ (ys : List (Problem × Bool)). slice_get ys (suc k)) x.only) ∙ at in
    absurd (none-some q none)

alone-at : (words : Plan) (script : List ℕ) (ps : List (Problem × Bool)) → HasSession words.bound ps script → (k : ℕ) (q : Problem × Bool) → slice_get ps k ≡ Some q → (bits : ℕ) → NeverUnknownWidthAt words bits script k → NeverUnknownWidth words bits script
alone-at words script ps has zero q at bits never = never-alone words script bits never
alone-at words script ps has (suc k) q at bits never = λ single. absurd (none-behind words.bound script ps has single k q at)

-- ---- all checks

module _ (one : SessionIsOne) (words : Plan) (script : List ℕ) (ps : List (Problem × Bool)) (has : HasSession words.bound ps script) where
  enough-at : (k : ℕ) (p : Problem) (e : Bool) → slice_get ps k ≡ Some (p, e) → (answer : width.Answer) → IsPlan p words.delta_bits words.margin_bits answer → IsEnoughAt words script k answer
  enough-at k p e at (least_bits bits) plan =
      let never = never_at one words script ps has k p e at bits plan in (never, alone-at words script ps has k (p, e) at bits never)
  enough-at k p e at (no_atom atom) plan = tt
  enough-at k p e at (no_axis axis) plan = tt

  enough-from : (k : ℕ) (later : List (Problem × Bool)) (answers : List width.Answer) → ((j : ℕ) → slice_get ps (k + j) ≡ slice_get later j) → ArePlans later words.delta_bits words.margin_bits answers →
      AreEnoughFrom words script k answers
  enough-from k [] [] f h = tt
  enough-from k [] (answer ∷ answers) f h = absurd h
  enough-from k ((p, e) ∷ later) [] f h = absurd h
  enough-from k ((p, e) ∷ later) (answer ∷ answers) f h =
      let here : k ≡ k + 0 = omega arith in
      (enough-at k p e (ap (slice_get ps) here ∙ f 0) answer h.0, enough-from (suc k) later answers (next k (p, e) later f) h.1)
    where
      next : (k : ℕ) (q : Problem × Bool) (later : List (Problem × Bool)) → ((j : ℕ) → slice_get ps (k + j) ≡ slice_get (q ∷ later) j) → (j : ℕ) → slice_get ps (suc k + j) ≡ slice_get later j
      next k q later f j = let same : suc k + j ≡ k + suc j = omega arith in ap (slice_get ps) same ∙ f (suc j)

  pub are_enough : (answers : List width.Answer) → ArePlans ps words.delta_bits words.margin_bits answers → AreEnoughFrom words script 0 answers
  are_enough answers h = enough-from 0 ps answers (λ j. let same : 0 + j ≡ j = omega arith in ap (slice_get ps) same) h
