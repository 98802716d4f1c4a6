-- The code's lines of trees as the definitions see them.
use Rattle.std.specs.Prelude.{◌≡◌, List, [], map, Option, Some, None}
use Rattle.cover_model.specs.Rules as rules
use Rattle.cover_model.specs.Rules.{Line, rule}
use Rattle.cover_model.specs.State as model
use Rattle.cover_model.specs.State.{Loosenings}
use Rattle.poly_graph.specs.ProblemViews.{Parts, problem_of}
use Rattle.cover_line.specs.Views.{line_of as rule_of}
use Rattle.cert_read.specs.CertLine.{CertLine, rule_line, over, crossing, lemma, tree_word, end_word}
use Rattle.cert_check.specs.declared.said.TreeLine.{TreeLine}
use Rattle.cert_check.specs.declared.said.TreeLine.TheVariants as said
use Rattle.cert_check.specs.declared.left.Left.{Left}
use Rattle.cert_check.specs.declared.left.Left.TheVariants.{Closed, One, Two, Stays}
use Rattle.cert_check.specs.declared.state.State.{State}
use Rattle.cert_check.specs.States.{state_of}

-- neither a line of a tree nor one that begins a lemma, the main tree or the end
abbrev pub IsOther : CertLine → Type 0
IsOther (rule_line l) = ⊥
IsOther over = ⊥
IsOther (crossing i) = ⊥
IsOther (lemma i) = ⊥
IsOther tree_word = ⊥
IsOther end_word = ⊥
IsOther l = Unit {0}

abbrev pub IsSaid : TreeLine → CertLine → Type 0
IsSaid (said.Lemma i) l = l ≡ lemma i
IsSaid said.Tree l = l ≡ tree_word
IsSaid said.End l = l ≡ end_word
IsSaid (said.Crossing i) l = l ≡ crossing i
IsSaid (said.Rule r) l = l ≡ rule_line (rule_of r.now)
IsSaid said.Over l = l ≡ over
IsSaid said.Other l = IsOther l

abbrev pub left_of : Left → rules.Left
left_of Closed = rules.closed
left_of (One S) = rules.one (state_of S)
left_of (Two S T) = rules.two (state_of S) (state_of T)
left_of Stays = rules.stays

-- none, where the rule's condition fails
abbrev pub lefts : Option Left → Option rules.Left
lefts None = None
lefts (Some l) = Some (left_of l)

-- what a rule leaves of a state, where these lemmas stand; none, where its condition fails
abbrev pub IsLeftBy : Line → Parts → Loosenings → List model.State → State → Option Left → Type 0
IsLeftBy r p s lemmas S left = lefts left ≡ rule (problem_of p) s lemmas (state_of S) r

-- the same for a rule that asks for nothing but the state
abbrev pub IsLeftAnywhere : Line → State → Option Left → Type 0
IsLeftAnywhere r S left = (p : Parts) (s : Loosenings) → IsLeftBy r p s [] S left
