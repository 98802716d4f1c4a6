-- What a line of a tree leaves of its state, which its first word tells, and the lemma that it names.
use Rattle.std.specs.Prelude.{◌≡◌, ℕ, ◌+◌, ◌-◌, ◌^◌, List, [], ◌∷◌, ◌++◌, codes, decimal, Bool, true, false, min, Option, Some, None, is_some}
use Rattle.cover_line.specs.Words.{RuleWord, pull_word, unit_word, ban_word, push_word, cut_word, flip_word, case_word, either_word, open_word, stuck_word, combine_word}
use Rattle.cover_model.specs.Rules.{Line, narrow_by, end_by, by_lemma, mark_by, ban_atom, branch_by, stay_by, open_state, stuck_atom}
use Rattle.cert_read.specs.CertLine.{CertLine, rule_line}
use Rattle.cert_read.specs.LineText.{line_text}
use Rattle.cert_joined.specs.Covers.{Arity, ends, goes_on, splits, line_by, numbered}
use Rattle.cert_join.specs.declared.line.Left.{Left}
use Rattle.cert_join.specs.declared.line.Left.TheVariants.{One, Two, Nothing, Open, Stuck}

-- the bytes of a line of a tree
abbrev pub rule_text : Line → List ℕ
rule_text l = line_text (rule_line l)

-- ---- what it leaves

-- by its first word
abbrev pub kind_of_word : RuleWord → Left
kind_of_word pull_word = One
kind_of_word unit_word = One
kind_of_word push_word = One
kind_of_word combine_word = One
kind_of_word ban_word = One
kind_of_word cut_word = Two
kind_of_word flip_word = Two
kind_of_word case_word = Two
kind_of_word either_word = Two
kind_of_word open_word = Open
kind_of_word stuck_word = Stuck
kind_of_word w = Nothing

abbrev pub left_kind : Line → Left
left_kind (narrow_by n) = One
left_kind (end_by e) = Nothing
left_kind (mark_by m) = One
left_kind (branch_by b) = Two
left_kind (stay_by open_state) = Open
left_kind (stay_by (stuck_atom j)) = Stuck

-- how many trees such a line has below it
abbrev pub arity_of : Left → Arity
arity_of One = goes_on
arity_of Two = splits
arity_of k = ends

-- whether the state stays
abbrev pub does_stay : Left → Bool
does_stay Open = true
does_stay Stuck = true
does_stay k = false

-- how many states wait behind such a line, where so many waited with its own
abbrev pub waiting_behind : Left → ℕ → ℕ
waiting_behind One before = before
waiting_behind Two before = min (before + 1) (2 ^ 64 - 1)
waiting_behind k before = before - 1

-- ---- the lemma that it names

abbrev pub lemma_named : Line → Option ℕ
lemma_named (end_by (by_lemma i)) = Some i
lemma_named (mark_by (ban_atom j i)) = Some i
lemma_named l = None

abbrev pub lemma_named_in : CertLine → Option ℕ
lemma_named_in (rule_line l) = lemma_named l
lemma_named_in l = None

-- whether a line names one
abbrev pub does_name : CertLine → Bool
does_name l = is_some (lemma_named_in l)

-- the line, where its lemma has another number
abbrev pub renumbered : (ℕ → ℕ) → CertLine → CertLine
renumbered f (rule_line l) = rule_line (line_by f l)
renumbered f l = l

-- what stands before its number
abbrev pub lemma_front : Line → List ℕ
lemma_front (end_by (by_lemma i)) = codes "by "
lemma_front (mark_by (ban_atom j i)) = codes "ban " ++ (decimal j ++ (32 ∷ []))
lemma_front l = []

-- the line behind what was there, with the number that these give its lemma
abbrev pub IsRenumbered : List ℕ → CertLine → List ℕ → List ℕ → Type 0
IsRenumbered numbers l old new = new ≡ old ++ line_text (renumbered (numbered numbers) l)
