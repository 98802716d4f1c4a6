-- The certificate that answers a script's checks, whoever's search found it.
use Rattle.std.specs.Prelude.{◌≡◌, ◌≤◌, ℕ, suc, List, [], ◌∷◌, ◌++◌, Bool, IsTrue, cond, length, not, nat_eq, codes, decimal}
use Rattle.std.specs.List.{take_while}
use Rattle.command_line.specs.declared.request.Options.{Options}
use Rattle.poly_graph.specs.Problem.{Problem}
use Rattle.cover_model.specs.State.{Loosenings, in_version}
use Rattle.cert_model.specs.Due.{Standing, Value, at_point, left_open}
use Rattle.cert_model.specs.Accepted.{IsAccepted}
use Rattle.cert_model.specs.AnswerText.{has_open, solve_text, text_line}
use Rattle.cert_model.specs.Least.{is_lines_version}
use Rattle.cert_model.specs.Session.{AreAccepted, IsHonestPart, is_session_version, part_branches}
use Rattle.cert_model.specs.Standing.{IsHonest, branches}

-- the margin and delta of the words, in the version in which a search begins
abbrev pub loosenings_of : Options → Loosenings
loosenings_of options = record { margin_bits = options.margin_bits; delta_bits = options.delta_bits; version = 2 }

-- a version in which the answers of so many checks are written: 2 or 5 of one, 3 or 5 of several
abbrev pub is_answer_version : ℕ → ℕ → Bool
is_answer_version n v = cond (nat_eq n 1) (is_lines_version v) (is_session_version v)

-- ---- one check

-- The cover is honest at the least width; it has at most as many branches as the budget, and exactly as many where a state is open.
pub record IsHonestCover (p : Problem) (options : Options) (cert : List ℕ) (left : List Standing) : Type 0 where
  pub honest : IsHonest p options.bound options.least_bits cert
  pub within : branches p options.bound cert ≤ options.budget
  pub spent : IsTrue (has_open left) → branches p options.bound cert ≡ options.budget

abbrev pub IsFound : Problem → Options → List ℕ → Value → Type 0
IsFound p options cert (at_point space) = Unit {0}
IsFound p options cert (left_open left) = IsHonestCover p options cert left

-- The certificate is accepted with the words' bound, margin and delta, in version 2 or 5, and has this value: a point, or what an honest
-- cover leaves.
pub record IsAnswer (p : Problem) (options : Options) (cert : List ℕ) (value : Value) : Type 0 where
  pub version : ℕ
  pub is_version : IsTrue (is_lines_version version)
  pub accepted : IsAccepted p options.bound cert (in_version version (loosenings_of options)) value
  pub found : IsFound p options cert value

-- ---- any number of checks

-- Part k, one of p, is honest at the least width; it has at most as many branches as the budget, and exactly as many where a state is open.
pub record IsHonestPartOf (ps : List (Problem × Bool)) (options : Options) (cert : List ℕ) (k : ℕ) (p : Problem) (left : List Standing) : Type 0 where
  pub honest : IsHonestPart ps options.bound options.least_bits cert k p
  pub within : part_branches ps options.bound cert k ≤ options.budget
  pub spent : IsTrue (has_open left) → part_branches ps options.bound cert k ≡ options.budget

abbrev pub IsFoundPart : List (Problem × Bool) → Options → List ℕ → ℕ → Problem → Value → Type 0
IsFoundPart ps options cert k p (at_point space) = Unit {0}
IsFoundPart ps options cert k p (left_open left) = IsHonestPartOf ps options cert k p left

-- the parts from k on, one for each of these problems, have these values
abbrev pub AreFoundFrom : List (Problem × Bool) → Options → List ℕ → ℕ → List (Problem × Bool) → List Value → Type 0
AreFoundFrom ps options cert k [] [] = Unit {0}
AreFoundFrom ps options cert k ((p, e) ∷ later) (v ∷ values) = IsFoundPart ps options cert k p v × AreFoundFrom ps options cert (suc k) later values
AreFoundFrom ps options cert k _ _ = ⊥

-- The certificate is accepted with the words' bound, margin and delta, in a version for so many checks, and has these values, one for
-- each problem: a point, or what an honest cover leaves. The budget is for each check.
pub record AreAnswers (ps : List (Problem × Bool)) (options : Options) (cert : List ℕ) (values : List Value) : Type 0 where
  pub version : ℕ
  pub is_version : IsTrue (is_answer_version (length ps) version)
  pub accepted : AreAccepted ps options.bound cert (in_version version (loosenings_of options)) values
  pub found : AreFoundFrom ps options cert 0 ps values

-- the answers of solve, one after the other
abbrev pub solve_texts : ℕ → Loosenings → List (Problem × Bool) → List Value → List ℕ
solve_texts budget s ((p, e) ∷ ps) (v ∷ values) = solve_text p budget s v ++ solve_texts budget s ps values
solve_texts budget s _ _ = []

-- ---- demo

-- the first line of a text
abbrev pub first_line : List ℕ → List ℕ
first_line text = take_while (λ (b : ℕ). not (nat_eq b 10)) text

-- the answer of demo: so many bytes of script and so many atoms, and the first line of what solve answers
abbrev pub demo_text : ℕ → ℕ → List ℕ → List ℕ
demo_text bytes atoms answer = text_line (codes "script " ++ decimal bytes ++ codes " atoms " ++ decimal atoms ++ codes " answer " ++ first_line answer)
