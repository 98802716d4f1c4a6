-- The lines of a certificate's main tree with their states; honest certificates, and the number of branches.
--
-- The standing of a line is the state where it is written: a box with its marks, which the lines before it left.
-- A certificate is honest where each line of its main tree stands where it is called for: a branch, and a state that is left
-- open or stuck, where the form may hold and is not shown to hold at the middle of the box; a branch, and a stuck state, where
-- each atom that the form needs is marked yes and none of them empties the box; a cut at the middle of a widest side, above
-- the least width; a stuck state in a box that is down to the least width, by its first stuck atom. What is accepted need
-- not be honest: honesty says that the search did not give up early.
use Rattle.std.specs.Prelude.{ℕ, ◌+◌, List, [], ◌∷◌, ◌++◌, Bool, true, false, Option, IsTrue, All}
use Rattle.cover_model.specs.Rules.{Line}
use Rattle.cert_read.specs.Lines.{lines_of}
use Rattle.cert_read.specs.CertLine.{CertLine, rule_line, Parsed, line, parsed}
use Rattle.poly_graph.specs.Problem.{Problem}
use Rattle.cover_model.specs.State.{State, Loosenings, root_state}
use Rattle.cover_model.specs.Honest.{is_honest, branch_count}
use Rattle.cert_model.specs.Due.{Standing, Due, version_due, root_due, tree_due, NextOf, on, faulty, is_crossed_box}
use Rattle.cert_model.specs.Accepted.{next, next_parsed}

-- a line of the main tree with its state, and the margin and delta of the header
pub record Stands : Type 0 where
  pub loosenings : Loosenings
  pub line : Standing

abbrev pub stands : Loosenings → State → Line → Stands
stands s S l = record { loosenings = s; line = record { state = S; does = l } }

abbrev pub at_root : Bool → Problem → Loosenings → Line → List Stands
at_root true p s l = []
at_root false p s l = stands s (root_state p) l ∷ []

-- a line of the main tree, where such a one is due
abbrev pub stands_at : Problem → Due → Parsed → List Stands
stands_at p (root_due s lemmas) (line (rule_line l)) = at_root (is_crossed_box p) p s l
stands_at p (tree_due s lemmas S pending done) (line (rule_line l)) = stands s S l ∷ []
stands_at p _ _ = []

abbrev pub standing_next : {D : Type 0} → NextOf D → (D → List Stands) → List Stands
standing_next (faulty f) k = []
standing_next (on d) k = k d

-- the lines of a main tree from where d is due, where `stood` says which line is one
abbrev pub standing_by : {D : Type 0} → (D → Parsed → NextOf D) → (D → Parsed → List Stands) → D → List (List ℕ) → List Stands
standing_by step stood d [] = []
standing_by step stood d (l ∷ ls) = stood d (parsed l) ++ standing_next (step d (parsed l)) (λ d'. standing_by step stood d' ls)

-- the same of lines that are well formed
abbrev pub lines_standing : {D : Type 0} → (D → CertLine → NextOf D) → (D → Parsed → List Stands) → D → List CertLine → List Stands
lines_standing step stood d [] = []
lines_standing step stood d (l ∷ ls) = stood d (line l) ++ standing_next (step d l) (λ d'. lines_standing step stood d' ls)

abbrev pub standing_from : Problem → Option ℕ → Due → List (List ℕ) → List Stands
standing_from p b d ls = standing_by (next_parsed p b) (stands_at p) d ls

abbrev pub standing_of_lines : Problem → Option ℕ → Due → List CertLine → List Stands
standing_of_lines p b d ls = lines_standing (next p b) (stands_at p) d ls

-- the lines of the main tree, in order, each where it stands
abbrev pub standing : Problem → Option ℕ → List ℕ → List Stands
standing p b bytes = standing_from p b version_due (lines_of bytes)

-- each line of the main tree is honest, where w is the number of bits of the least width
abbrev pub IsHonest : Problem → Option ℕ → ℕ → List ℕ → Type 0
IsHonest p b w bytes = All (λ (x : Stands). IsTrue (is_honest p w x.loosenings x.line.state x.line.does)) (standing p b bytes)

abbrev pub branches_of : List Stands → ℕ
branches_of [] = 0
branches_of (x ∷ rest) = branch_count x.line.does + branches_of rest

-- the number of branch lines
abbrev pub branches : Problem → Option ℕ → List ℕ → ℕ
branches p b bytes = branches_of (standing p b bytes)
