-- Assertions that are to be written.
use Rattle.std.specs.Prelude.{◌<◌, ℕ, List, [], ◌∷◌, false, cond, codes, Option, Some, slice_index_or}
use Rattle.std.specs.List.{AllByRecursion}
use Rattle.script_model.specs.Sexp.{Place, Sexp}
use Rattle.script_model.specs.Script.{Command, claim, minimize}
use Rattle.script_roots.specs.Fresh.{Table}
use Rattle.script_roots.specs.Rewritten.{spelled, two_of}
use Rattle.script_roots.specs.Tree.{Tree}
use Rattle.smt_sexp.specs.Views.{place_of}
use Rattle.root_rewriting.specs.Nodes.{tree_at}
use Rattle.ival.specs.declared.ends.Ival.{Ival}
use Rattle.ival.specs.declared.ends.Ival.TheVariants.{Empty, Between}
use Rattle.script_fault.specs.declared.place.Place as code
use Rattle.root_rewriting.specs.declared.unfold.assertions.Assertion.{Assertion}
use Rattle.root_rewriting.specs.Limits.{limit_at}
use Rattle.root_rewriting.specs.Opened.{symbol_at}
use Rattle.root_rewriting.specs.declared.claims.Limit.{Limit}
use Rattle.root_rewriting.specs.declared.claims.Limit.TheVariants.{Whole, Low, High}
use Rattle.root_rewriting.specs.declared.drafts.Content.{Content}
use Rattle.root_rewriting.specs.declared.drafts.Content.TheVariants.{Tree as OfTree, AtLeast, AtMost, Square, Product}
use Rattle.root_rewriting.specs.declared.drafts.Draft.{Draft}

-- the constant with a number, among these names
abbrev pub constant_at : List (List ℕ) → Place → ℕ → Sexp
constant_at names at i = symbol_at at (slice_index_or names i [])

-- what is asserted, where constants with these names stand for the trees of a table
abbrev pub expression_of : List (List ℕ) → Table → List Tree → Place → Content → Sexp
expression_of names table ts at (OfTree k) = spelled table (tree_at ts k)
expression_of names table ts at (AtLeast i limit) = two_of at (codes ">=") (constant_at names at i) (limit_at at limit)
expression_of names table ts at (AtMost i limit) = two_of at (codes "<=") (constant_at names at i) (limit_at at limit)
expression_of names table ts at (Square i k) = two_of at (codes "=") (two_of at (codes "*") (constant_at names at i) (constant_at names at i)) (spelled table (tree_at ts k))
expression_of names table ts at (Product i d k) =
    two_of at (codes "=") (two_of at (codes "*") (constant_at names at i) (spelled table (tree_at ts d))) (spelled table (tree_at ts k))

abbrev pub draft_command : List (List ℕ) → Table → List Tree → Draft → Command
draft_command names table ts d = let e = expression_of names table ts (place_of d.place) d.content in cond d.is_goal (minimize (place_of d.place) e) (claim (place_of d.place) e)

-- ---- drafts, as they are made

abbrev pub claim_draft : code.Place → Content → Draft
claim_draft place content = record { place = place; is_goal = false; content = content }

abbrev pub drafts_of_root : code.Place → ℕ → Option ℕ → ℕ → List Draft
drafts_of_root place i bound k =
    claim_draft place (AtLeast i (Whole (Some 0))) ∷ claim_draft place (AtMost i (Whole bound)) ∷ claim_draft place (Square i k) ∷ []

abbrev pub drafts_between : code.Place → ℕ → Limit → Limit → List Draft
drafts_between place i low high = claim_draft place (AtLeast i low) ∷ claim_draft place (AtMost i high) ∷ []

abbrev pub drafts_of_range : code.Place → ℕ → Ival → List Draft
drafts_of_range place i Empty = drafts_between place i (Whole (Some 0)) (Whole (Some 0))
drafts_of_range place i (Between ends) = drafts_between place i (Low ends.low) (High ends.high)

abbrev pub draft_of : Assertion → Draft
draft_of a = record { place = a.place; is_goal = a.is_goal; content = OfTree a.tree }

-- ---- their places

-- so many trees and so many names are there
abbrev pub IsContentBelow : ℕ → ℕ → Content → Type 0
IsContentBelow trees names (OfTree k) = k < trees
IsContentBelow trees names (AtLeast i limit) = i < names
IsContentBelow trees names (AtMost i limit) = i < names
IsContentBelow trees names (Square i k) = (i < names) × (k < trees)
IsContentBelow trees names (Product i d k) = (i < names) × (d < trees) × (k < trees)

abbrev pub AreDraftsBelow : ℕ → ℕ → List Draft → Type 0
AreDraftsBelow trees names ds = AllByRecursion (λ (d : Draft). IsContentBelow trees names d.content) ds
