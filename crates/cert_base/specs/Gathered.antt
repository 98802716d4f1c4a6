-- What is gathered of a certificate's lines, one after the other, by where each stands.
use Rattle.std.specs.Prelude.{◌≡◌, ℕ, List, [], ◌∷◌, ◌++◌, Bool, true, false, cond, Option, Some, None, map, length}
use Rattle.poly_graph.specs.Problem.{Problem}
use Rattle.cover_model.specs.State.{State, Loosenings, root_state}
use Rattle.cover_model.specs.Rules.{Line}
use Rattle.cert_read.specs.CertLine.{CertLine, version, margin, delta, bound, cover, tree_word, end_word, lemma, real_interval, bool_value, yes_list, no_list, rule_line}
use Rattle.cert_model.specs.Due.{Standing, Value, at_point, left_open, Due, version_due, margin_due, delta_due, bound_due, kind_due, next_due, axis_due, yes_due, no_due, lemma_due, root_due, tree_due, coordinate_due, end_due, nothing_due, is_crossed_box}
use Rattle.cert_model.specs.Written.{rule_lines}
use Rattle.cert_resumed.specs.Resumed.{is_leaving}
use Rattle.cert_check.specs.Courses.{Stand, elsewhere, at_root, at_state}

-- the lines of the lemmas with their trees, those of the main tree, and the states that stay
pub record Gathered : Type 0 where
  pub lemma_lines : List CertLine
  pub main : List Line
  pub left : List State

abbrev pub nothing_yet : Gathered
nothing_yet = record { lemma_lines = []; main = []; left = [] }

-- ---- one line

-- where a line belongs
pub data Place : Type 0 where
  nowhere in_lemmas : Place
  -- with the state that stays there
  in_tree : Option State → Place

-- where no line of the main tree is due, the line is one of a lemma's
abbrev pub is_of_lemma : CertLine → Bool
is_of_lemma (lemma i) = true
is_of_lemma (real_interval l h) = true
is_of_lemma (bool_value w) = true
is_of_lemma (yes_list js) = true
is_of_lemma (no_list js) = true
is_of_lemma (rule_line l) = true
is_of_lemma l = false

-- the state at the root; none where the declared box is empty
abbrev pub state_at_root : Bool → Problem → Option State
state_at_root true p = None
state_at_root false p = Some (root_state p)

-- the state where a line stands, if the line leaves it
abbrev pub if_leaving : Line → Option State → Option State
if_leaving l o = cond (is_leaving l) o None

abbrev pub place : Problem → Stand → CertLine → Place
place p elsewhere l = cond (is_of_lemma l) in_lemmas nowhere
place p at_root (rule_line l) = in_tree (if_leaving l (state_at_root (is_crossed_box p) p))
place p at_root l = nowhere
place p (at_state S) (rule_line l) = in_tree (if_leaving l (Some S))
place p (at_state S) l = nowhere

abbrev pub with_state : List State → Option State → List State
with_state left None = left
with_state left (Some S) = left ++ (S ∷ [])

abbrev pub gather : Place → CertLine → Gathered → Gathered
gather nowhere l g = g
gather in_lemmas l g = record g { lemma_lines = g.lemma_lines ++ (l ∷ []) }
gather (in_tree o) (rule_line l) g = record g { main = g.main ++ (l ∷ []); left = with_state g.left o }
gather (in_tree o) l g = g

-- ---- what is gathered where something is due

abbrev pub standing_states : List Standing → List State
standing_states xs = map (λ (x : Standing). x.state) xs

abbrev pub heading : Loosenings → Option ℕ → ℕ → List CertLine
heading s b k = version s.version ∷ margin s.margin_bits ∷ delta s.delta_bits ∷ bound b ∷ cover k ∷ []

-- no more than these lines were taken, and none of them was gathered
pub record IsHead (head ls : List CertLine) (g : Gathered) : Type 0 where
  pub taken : ls ≡ head
  pub nothing : g ≡ nothing_yet

-- behind the head of a cover with so many lemmas the lines of lemmas were taken
pub record IsInLemmas (s : Loosenings) (b : Option ℕ) (k : ℕ) (ls : List CertLine) (g : Gathered) : Type 0 where
  pub taken : ls ≡ heading s b k ++ g.lemma_lines
  pub main : g.main ≡ []
  pub left : g.left ≡ []

-- behind them those of the main tree, and then these
pub record IsInTree (s : Loosenings) (b : Option ℕ) (k : ℕ) (more ls : List CertLine) (g : Gathered) : Type 0 where
  pub taken : ls ≡ heading s b k ++ (g.lemma_lines ++ (tree_word ∷ (rule_lines g.main ++ more)))

-- where states stayed; in an empty box none does
pub record IsWhole (s : Loosenings) (b : Option ℕ) (k : ℕ) (more ls : List CertLine) (done : List Standing) (g : Gathered) : Type 0 where
  pub left : g.left ≡ standing_states done
  pub tree : ¬ (done ≡ []) → IsInTree s b k more ls g

abbrev pub Gathers : Option ℕ → Due → List CertLine → Gathered → Type 0
Gathers b version_due ls g = IsHead [] ls g
Gathers b (margin_due v) ls g = IsHead (version v ∷ []) ls g
Gathers b (delta_due v m) ls g = IsHead (version v ∷ margin m ∷ []) ls g
Gathers b (bound_due s) ls g = IsHead (version s.version ∷ margin s.margin_bits ∷ delta s.delta_bits ∷ []) ls g
Gathers b (kind_due s) ls g = IsHead (version s.version ∷ margin s.margin_bits ∷ delta s.delta_bits ∷ bound b ∷ []) ls g
Gathers b (next_due s k lemmas) ls g = IsInLemmas s b k ls g
Gathers b (axis_due s k lemmas a axes space) ls g = IsInLemmas s b k ls g
Gathers b (yes_due s k lemmas space) ls g = IsInLemmas s b k ls g
Gathers b (no_due s k lemmas space js) ls g = IsInLemmas s b k ls g
Gathers b (lemma_due s k lemmas L S pending) ls g = IsInLemmas s b k ls g
Gathers b (root_due s lemmas) ls g = IsInTree s b (length lemmas) [] ls g × (g.left ≡ [])
Gathers b (tree_due s lemmas S pending done) ls g = IsInTree s b (length lemmas) [] ls g × (g.left ≡ standing_states done)
Gathers b (coordinate_due s a axes space) ls g = Unit {0}
Gathers b (end_due s lemmas (at_point space)) ls g = Unit {0}
Gathers b (end_due s lemmas (left_open done)) ls g = IsWhole s b (length lemmas) [] ls done g
Gathers b (nothing_due s lemmas (at_point space)) ls g = Unit {0}
Gathers b (nothing_due s lemmas (left_open done)) ls g = IsWhole s b (length lemmas) (end_word ∷ []) ls done g
