-- Why a search for a least value ends.
--
-- It is many searches: the first one of the problem itself, and each later one of the problem with a limit of the goal. What a search did is
-- told by its cover, as a certificate has it: lemmas with their trees, and a tree of lines at the root of the declared box.
use Rattle.std.specs.Prelude.{◌≡◌, ◌≢◌, ℕ, suc, ◌+◌, List, [], All, true, false, Option, Some, None, IfSome, IsTrue, sum_by}
use Rattle.command_line.specs.declared.request.Options.{Options}
use Rattle.dyadic.specs.Rounding.{Dyadic, ext_at_most, finite}
use Rattle.interval_model.specs.Space.{Space}
use Rattle.poly_graph.specs.Problem.{Problem}
use Rattle.cover_model.specs.Fits.{IsShownAt}
use Rattle.cover_model.specs.State.{Loosenings, in_version, root_state}
use Rattle.cover_model.specs.Rules.{open_line}
use Rattle.cover_model.specs.Honest.{is_honest}
use Rattle.cover_model.specs.Derivation.{Tree}
use Rattle.cert_model.specs.AnswerText.{has_open}
use Rattle.cert_model.specs.Due.{Standing}
use Rattle.cert_model.specs.Laws.{IsLawfulCover}
use Rattle.cert_model.specs.Least.{can_limit, is_lines_version, lower_end, upper_at}
use Rattle.cert_model.specs.Limited.{limited}
use Rattle.cert_model.specs.Written.{IsHonestTree, LemmaTree, lemma_states, left_standing, tree_branches, tree_standing}
use Rattle.goal_limit.specs.Limits.{has_room}
use Rattle.goal_limit.specs.Lows.{root_low}
use Rattle.goal_limit.specs.Tries.{Span, is_between}
use Rattle.check_run.specs.Answer.{loosenings_of}

-- ---- what a search did

-- the line is open, or honest at a least width of 2^-w
abbrev pub IsHonestButOpen : Problem → Loosenings → ℕ → Standing → Type 0
IsHonestButOpen p s w x = (x.does ≡ open_line → ⊥) → IsTrue (is_honest p w s x.state x.does)

-- a lawful cover, of whose tree each line but an open one is honest
pub record HonestCover (p : Problem) (s : Loosenings) (w : ℕ) : Type 0 where
  pub lemmas : List LemmaTree
  pub tree : Tree
  pub lawful : IsLawfulCover p s [] lemmas tree
  pub honest : All (IsHonestButOpen p s w) (tree_standing p s (lemma_states lemmas) (root_state p) tree)

-- the states that it leaves, each with its line
abbrev pub left_by : (p : Problem) (s : Loosenings) (w : ℕ) → HonestCover p s w → List Standing
left_by p s w c = left_standing p s (lemma_states c.lemmas) (root_state p) c.tree

-- in this version, with the margin, the delta and the least width of the words
abbrev pub CoverFor : Problem → ℕ → Options → Type 0
CoverFor p v options = HonestCover p (in_version v (loosenings_of options)) options.least_bits

-- open lines are honest too
abbrev pub IsHonestThroughout : (p : Problem) (s : Loosenings) (w : ℕ) → HonestCover p s w → Type 0
IsHonestThroughout p s w c = IsHonestTree p w s (lemma_states c.lemmas) (root_state p) c.tree

-- a point at which the problem is sure, with the delta of the words
abbrev pub IsSureAt : Problem → Options → Space → Type 0
IsSureAt p options x = IsShownAt p (loosenings_of options) x

module _ (p : Problem) (g : ℕ) (options : Options) where
  -- With a limit of the goal, the term of atom g, in version 2 or 5: it found a point, or each line of its cover is honest.
  pub record LimitSearch : Type 0 where
    pub version : ℕ
    pub is_version : IsTrue (is_lines_version version)
    pub bits : ℕ
    pub limit : Dyadic
    pub takes : can_limit p (has_room p) (Some limit) bits ≡ true
    pub cover : CoverFor (limited p g bits limit) version options
    pub point : Option Space
    pub sure : IfSome point (IsSureAt (limited p g bits limit) options)
    pub honest : point ≡ None → IsHonestThroughout (limited p g bits limit) (in_version version (loosenings_of options)) options.least_bits cover

  -- the states that it leaves
  abbrev pub left_of : LimitSearch → List Standing
  left_of x = left_by (limited p g x.bits x.limit) (in_version x.version (loosenings_of options)) options.least_bits x.cover

  -- the first one found this point
  pub record Searches : Type 0 where
    pub version : ℕ
    pub is_version : IsTrue (is_lines_version version)
    pub first : CoverFor p version options
    pub start : Space
    pub sure : IsSureAt p options start
    pub later : List LimitSearch

  -- each branch costs one of the budget, and each later search one besides
  abbrev pub cost_of : Searches → ℕ
  cost_of x = tree_branches x.first.tree + sum_by (λ (y : LimitSearch). suc (tree_branches y.cover.tree)) x.later

  -- The limit of a search lies between the lower end of the goal over the declared box and its value at a sure point.
  pub record IsLimitBetween (limit : Dyadic) : Type 0 where
    pub best : Space
    pub sure : IsSureAt p options best
    pub between : is_between (record { low = root_low p g; high = upper_at p g best; gap = 0 }) (finite limit) ≡ true

  -- What a search found is in these bounds: where it leaves nothing, the lower one is not below its limit; where it found a point, the upper one is
  -- not above the goal there.
  pub record IsUsed (bounds : Span) (x : LimitSearch) : Type 0 where
    pub between : IsLimitBetween x.limit
    pub closed : x.point ≡ None → left_of x ≡ [] → ext_at_most (finite x.limit) (lower_end bounds.low) ≡ true
    pub found : IfSome x.point (λ y. ext_at_most bounds.high (upper_at p g y) ≡ true)

  -- the same of all searches
  pub record AreUsed (bounds : Span) (x : Searches) : Type 0 where
    pub first : ext_at_most bounds.high (upper_at p g x.start) ≡ true
    pub later : All (IsUsed bounds) x.later

  -- A search with a limit between the bounds left boxes, none of them open: they have the least width, and the limit or an atom is not decided.
  pub record IsNarrow (bounds : Span) : Type 0 where
    pub limit_search : LimitSearch
    pub between : is_between bounds (finite limit_search.limit) ≡ true
    pub none_open : has_open (left_of limit_search) ≡ false
    pub some_left : left_of limit_search ≢ []
