-- What the calls answer, in values of the code.
use Rattle.std.specs.Prelude.{◌≡◌, ℕ, Bool, List, [], ◌∷◌, ◌++◌, None, OnOk, Result, Vec, map}
use Rattle.std.specs.Global.{Global}
use Rattle.std.specs.declared.alloc.AllocError.{AllocError}
use Rattle.poly_graph.specs.MarkViews.{mark_of}
use Rattle.poly_graph.specs.Marks.{numbers_from}
use Rattle.poly_graph.specs.declared.mark.Mark.{Mark}
use Rattle.cover_model.specs.State.{State}
use Rattle.interval_model.specs.Space.{Space}
use Rattle.poly_graph.specs.ProblemViews.{Parts, problem_of}
use Rattle.cover_line.specs.Views.{rule_word}
use Rattle.cover_line.specs.Words.{Operands}
use Rattle.cover_line.specs.declared.word.Word.{Word}
use Rattle.cover_data.specs.Margins.{loosenings_of, margins_of}
use Rattle.cover_data.specs.declared.margins.Options.{Options}
use Rattle.cert_read.specs.CertLine.{CertLine}
use Rattle.cert_model.specs.Accepted.{certificate_text}
use Rattle.cert_model.specs.Laws.{point_text}
use Rattle.cover_book.specs.declared.node.Node.{Node}
use Rattle.cover_book.specs.Model.{crossed_node}
use Rattle.cover_book.specs.Views.{node_of}
use Rattle.cert_text.specs.Lines.{HasAppended, is_marked, listed}
use Rattle.cert_text.specs.Ruled.{HasRuled}
use Rattle.cert_text.specs.Means.{IsPointCertificate}
use Rattle.cert_text.specs.Parts.{HasNothingNext, IsNextTaken, header_lines, node_left}
use Rattle.cert_text.specs.Stuck.{HasNoStuckState, IsFirstStuckState, IsStuckNode, first_stuck}

-- these lines were appended to the text, unless it is out of memory
abbrev pub Appends : {X : Type 0} → Vec ℕ Global → Vec ℕ Global → List CertLine → Result X AllocError → Type 0
Appends old new ls r = OnOk r (HasAppended old.items ls new.items)

-- the same, but that nothing is said of how the lines are spelled
abbrev pub AppendsText : {X : Type 0} → Vec ℕ Global → Vec ℕ Global → List CertLine → Result X AllocError → Type 0
AppendsText old new ls r = OnOk r (new.items ≡ old.items ++ certificate_text ls)

-- a line of a tree with this first word and these operands was appended
abbrev pub AppendsRuled : {X : Type 0} → Vec ℕ Global → Vec ℕ Global → Word → Operands → Result X AllocError → Type 0
AppendsRuled old new w o r = OnOk r (HasRuled old.items (rule_word w) o new.items)

-- a line of a word and numbers was appended
abbrev pub AppendsList : {X : Type 0} → Vec ℕ Global → Vec ℕ Global → List ℕ → List ℕ → Result X AllocError → Type 0
AppendsList old new word numbers r = OnOk r (new.items ≡ old.items ++ (word ++ (listed numbers ++ (10 ∷ []))))

-- the numbers of the atoms that are marked yes, or of those marked no, as text
abbrev pub marked_numbers : Bool → List Mark → List ℕ
marked_numbers wanted marks = listed (numbers_from (is_marked wanted) 0 (map mark_of marks))

-- the lines of this version, and of the margin, the delta and the bound
abbrev pub header_of : ℕ → Options → List CertLine
header_of v o = header_lines (record (loosenings_of (margins_of o)) { version = v }) o.bound

-- ---- points

-- of these options
abbrev pub text_of_point : Options → Space → List ℕ
text_of_point o x = point_text (loosenings_of (margins_of o)) o.bound x

abbrev pub IsTextOfPoint : Parts → Options → Space → Vec ℕ Global → Type 0
IsTextOfPoint p o x text = IsPointCertificate (problem_of p) o x text.items

-- ---- nodes

-- the last of the nodes that wait is taken, and it is this one
abbrev pub IsTaken : List Node → Vec ℕ Global → Vec ℕ Global → Node → Type 0
IsTaken nodes old new n = IsNextTaken (map node_of nodes) old.items new.items (node_of n)

-- none waits, or the last that does is no node
abbrev pub NoneWaits : List Node → Vec ℕ Global → Type 0
NoneWaits nodes old = HasNothingNext (map node_of nodes) old.items

-- one node alone says that the bounds of this axis cross
abbrev pub IsCrossedAt : List Node → ℕ → Type 0
IsCrossedAt nodes axis = map node_of nodes ≡ crossed_node axis ∷ []

abbrev pub IsNotCrossed : List Node → Type 0
IsNotCrossed nodes = (axis : ℕ) → map node_of nodes ≡ crossed_node axis ∷ [] → ⊥

-- ---- stuck boxes

-- of each tree of these nodes
abbrev pub IsFirstStuckOf : List Node → ℕ → State → Type 0
IsFirstStuckOf nodes atom state = IsFirstStuckState (map node_of nodes) atom state

abbrev pub HasNoStuckBox : List Node → Type 0
HasNoStuckBox nodes = HasNoStuckState (map node_of nodes)

abbrev pub IsStuckAt : Node → ℕ → State → Type 0
IsStuckAt node atom state = IsStuckNode (node_of node) atom state

abbrev pub IsNotStuck : Node → Type 0
IsNotStuck node = first_stuck (node_left (node_of node)) ≡ None
