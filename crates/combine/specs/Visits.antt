-- What a visited node adds to an expansion.
use Rattle.std.specs.Prelude.{◌≡◌, ℕ, List, length, Option, Some}
use Rattle.interval_model.specs.Interval.{Interval, interval_product}
use Rattle.poly_graph.specs.declared.node.Node.{Node}
use Rattle.poly_graph.specs.Term
use Rattle.poly_graph.specs.Views.{node_of}
use Rattle.cover_model.specs.Combination.{Part, nought_alone, Expansion, with_part, off_centre, squared_rest, product_rest, expanded, swept}
use Rattle.ival.specs.declared.ends.Ival.{Ival}
use Rattle.ival.specs.declared.row_parts.Rows.{Rows}
use Rattle.ival.specs.Options.{option_at, option_of}
use Rattle.ival.specs.RowViews.{rows_of}
use Rattle.ival.specs.Views.{interval_of}
use Rattle.combine.specs.declared.combination.Enclosures.{Enclosures}
use Rattle.combine.specs.declared.gathered.Gathered.{Gathered}
use Rattle.combine.specs.Parts.{expansion_of, expansion_with}

abbrev pub difference_at : Enclosures → ℕ → Interval
difference_at e k = off_centre (rows_of e.rows.now) (rows_of e.centre_rows.now) k

-- node k has one value, at the centre too
abbrev pub IsFixed : Enclosures → ℕ → Type 0
IsFixed e k = difference_at e k ≡ nought_alone

-- nothing is left over of the product of nodes a and b with this coefficient
abbrev pub IsExact : Enclosures → Ival → ℕ → ℕ → Type 0
IsExact e w a b = interval_product (interval_of w) (interval_product (difference_at e a) (difference_at e b)) ≡ nought_alone

-- from the old rest to the new one, whatever the parts are
abbrev pub AddsSquare : Enclosures → ℕ → Option Ival → Ival → Ival → Type 0
AddsSquare e n q old new = (parts : List Part) →
    squared_rest (rows_of e.rows.now) (rows_of e.centre_rows.now) n (option_of q) (expansion_with parts (interval_of old)) ≡ expansion_with parts (interval_of new)

abbrev pub AddsProduct : Enclosures → Ival → Node → Ival → Ival → Type 0
AddsProduct e w n old new = (parts : List Part) →
    product_rest (rows_of e.rows.now) (rows_of e.centre_rows.now) (Some (interval_of w)) (node_of n) (expansion_with parts (interval_of old)) ≡ expansion_with parts (interval_of new)

abbrev pub with_variable : ℕ → Ival → Option Ival → Expansion → Expansion
with_variable axis w q e = with_part axis (Some (interval_of w)) (option_of q) e

-- from the old expansion to the new one, node k with these coefficients has been added
abbrev pub IsExpanded : Enclosures → ℕ → Ival → Option Ival → Node → Gathered → Gathered → Type 0
IsExpanded e k w q n old new =
    expansion_of new ≡ expanded (rows_of e.rows.now) (rows_of e.centre_rows.now) k (Some (interval_of w)) (option_of q) (node_of n) (expansion_of old)

-- all nodes have been added, with these adjoints and coefficients of squares
abbrev pub IsSwept : List Term.Node → Enclosures → Rows → Rows → Gathered → Gathered → Type 0
IsSwept nodes e adjoints squares old new =
    expansion_of new ≡ swept nodes (rows_of e.rows.now) (rows_of e.centre_rows.now) (length nodes) (option_at adjoints) (option_at squares) (expansion_of old)
