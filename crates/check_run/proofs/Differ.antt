-- What tells answers apart, and statuses.
use Rattle.std.proofs.Common.{◌≡◌, ℕ, List, [], ◌∷◌, ◌++◌, Bool, true, false, get_or, nat_eq, Option, Some, None, refl, sym, ◌∙◌}
use Rattle.std.specs.Prelude.{IsSomeAnd}
use Rattle.std.proofs.lemmas.List.{append_cancel_left}
use Rattle.poly_graph.specs.Problem.{Problem}
use Rattle.interval_model.specs.Space.{Space}
use Rattle.cover_model.specs.State.{Loosenings}
use Rattle.cert_model.specs.Due.{Standing, Value, at_point, left_open}
use Rattle.cert_model.specs.Accepted.{IsAccepted}
use Rattle.cert_model.specs.AnswerText.{solve_text, check_text, unsat_text, delta_sat_text, budget_text, width_text, has_open}
use Rattle.headline.proofs.Headline.{delta_sat_is}
use Rattle.script_reading.specs.Reader.{commands_of, IsBuilt}
use Rattle.check_run.specs.declared.status.Status.{Status}
use Rattle.check_run.specs.declared.status.Status.TheVariants.{Answered, CertRefused, ScriptRefused}
use Rattle.check_run.specs.Course.{appended}
use Rattle.check_run.specs.Headline.{IsDeltaSat, delta_sat_word, confirmed_unsat_word, confirmed_delta_sat_word}
use Rattle.check_run.proofs.Apart.{apart}

-- ---- texts that differ

-- an answer that was written is the one that is read there
pub written-is : (told : Option (List ℕ)) (new : Option (List ℕ)) (text answer : List ℕ) → IsSomeAnd told (λ before. new ≡ Some (before ++ text)) → new ≡ appended told answer → text ≡ answer
written-is None new text answer h e = absurd h
written-is (Some before) new text answer h e = append_cancel_left before text answer (let same : ◌≡◌ {A = Option (List ℕ)} (Some (before ++ text)) (Some (before ++ answer)) = sym h ∙ e in cc)

-- so does it of what is answered where something is left
pub apart-left : (p : Problem) (s : Loosenings) (budget : ℕ) (x : Standing) (rest : List Standing) (t : List ℕ) (k : ℕ) → t ≡ solve_text p budget s (left_open (x ∷ rest)) →
    nat_eq (get_or t k 0) (get_or (budget_text budget) k 0) ≡ false → ((j : ℕ) → nat_eq (get_or t k 0) (get_or (width_text p x.state j) k 0) ≡ false) →
    (b : Bool) → has_open (x ∷ rest) ≡ b → ⊥
apart-left p s budget x rest t k e f g true h = let e' = rw h at e in apart _ _ k e' f
apart-left p s budget x rest t k e f g false h = let e' = rw h at e in apart _ _ k e' (g _)

-- unsat is said of a cover that leaves nothing alone
pub says-unsat : (p : Problem) (s : Loosenings) (budget : ℕ) (v : Value) → unsat_text s ≡ solve_text p budget s v → v ≡ left_open []
says-unsat p s budget (at_point space) e = absurd (apart (unsat_text s) (delta_sat_text p s space) 0 e refl)
says-unsat p s budget (left_open []) e = refl
says-unsat p s budget (left_open (x ∷ rest)) e = absurd (apart-left p s budget x rest (unsat_text s) 2 e refl (λ j. refl) (has_open (x ∷ rest)) refl)

-- delta-sat is said of a point alone
pub says-delta-sat : (p : Problem) (s : Loosenings) (budget : ℕ) (rest : List ℕ) (v : Value) → delta_sat_word ++ rest ≡ solve_text p budget s v → (space : Space) × (v ≡ at_point space)
says-delta-sat p s budget rest (at_point space) e = (space, refl)
says-delta-sat p s budget rest (left_open []) e = absurd (apart _ _ 0 e refl)
says-delta-sat p s budget rest (left_open (x ∷ left)) e = absurd (apart-left p s budget x left (delta_sat_word ++ rest) 0 e refl (λ j. refl) (has_open (x ∷ left)) refl)

pub confirms-unsat : (s : Loosenings) (rest : List ℕ) (v : Value) → confirmed_unsat_word ++ rest ≡ check_text s v → v ≡ left_open []
confirms-unsat s rest (at_point space) e = absurd (apart _ _ 10 e refl)
confirms-unsat s rest (left_open []) e = refl
confirms-unsat s rest (left_open (x ∷ left)) e = absurd (apart _ _ 0 e refl)

pub confirms-delta-sat : (s : Loosenings) (rest : List ℕ) (v : Value) → confirmed_delta_sat_word ++ rest ≡ check_text s v → (space : Space) × (v ≡ at_point space)
confirms-delta-sat s rest (at_point space) e = (space, refl)
confirms-delta-sat s rest (left_open []) e = absurd (apart _ _ 10 e refl)
confirms-delta-sat s rest (left_open (x ∷ left)) e = absurd (apart _ _ 0 e refl)

-- ---- statuses

pub refused-not : (x : Status) → x ≡ ScriptRefused → x ≡ Answered → ⊥
refused-not x e f = let same : ◌≡◌ {A = Status} ScriptRefused Answered = sym e ∙ f in cc

pub certificate-refused-not : (x : Status) → x ≡ CertRefused → x ≡ Answered → ⊥
certificate-refused-not x e f = let same : ◌≡◌ {A = Status} CertRefused Answered = sym e ∙ f in cc

pub answered-not : (x : Status) → x ≡ Answered → x ≡ CertRefused → ⊥
answered-not x e f = let same : ◌≡◌ {A = Status} Answered CertRefused = sym e ∙ f in cc

pub script-refused-not : (x : Status) → x ≡ ScriptRefused → x ≡ CertRefused → ⊥
script-refused-not x e f = let same : ◌≡◌ {A = Status} ScriptRefused CertRefused = sym e ∙ f in cc

-- ---- points

pub delta-so : (bound : Option ℕ) (script : List ℕ) (p : Problem) (cert : List ℕ) (s : Loosenings) (space : Space) → IsBuilt bound script p → IsAccepted p bound cert s (at_point space) → IsDeltaSat bound (commands_of bound script) s space
delta-so bound script p cert s space built accepts =
    let means = delta_sat_is bound (commands_of bound script) p built.whole built.problem cert s space accepts in record { satisfies = means.0; near = means.1 }
