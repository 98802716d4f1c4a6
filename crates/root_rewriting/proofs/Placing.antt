-- Assertions that are written one after the other.
use Rattle.std.proofs.Common.{◌≡◌, ◌<◌, ◌≤◌, ◌+◌, ℕ, List, [], ◌∷◌, ◌++◌, length, map, Bool, true, false, cond, Option, Some, refl, ap, ap₂, sym, ◌∙◌, subst, arith, append_assoc}
use Rattle.std.proofs.lemmas.Bool.{lt-ltb, le-ltb}
use Rattle.std.proofs.lemmas.List.{map-append}
use Rattle.script_model.specs.Sexp.{Place, Sexp}
use Rattle.script_model.specs.Script.{Command, claim, minimize}
use Rattle.script_roots.specs.Reached.{first_beyond}
use Rattle.script_roots.specs.Refused.{command_tokens, most_tokens, tokens_from, tokens_of}
use Rattle.smt_sexp.specs.Arena.{expression_at}
use Rattle.smt_sexp.specs.Building.{flat, flat_back, spelled}
use Rattle.smt_sexp.specs.Lexicon.{Unclosed}
use Rattle.smt_sexp.specs.Views.{place_of}
use Rattle.smt_sexp.specs.Writing.{Writes, Written, tokens_in}
use Rattle.smt_sexp.specs.declared.writing.Writer.{Writer}
use Rattle.script_roots.specs.Fresh.{Table}
use Rattle.root_rewriting.specs.Nodes.{trees_in}
use Rattle.root_rewriting.specs.Drafts.{AreDraftsBelow, draft_command}
use Rattle.root_rewriting.specs.Opened.{CanWrite}
use Rattle.root_rewriting.specs.Placing.{InWriting, placed_command}
use Rattle.root_rewriting.specs.Spelling.{AreNamed}
use Rattle.root_rewriting.specs.declared.drafts.Draft.{Draft}
use Rattle.root_rewriting.specs.declared.spelling.Spelling.{Spelling}
use Rattle.root_rewriting.specs.declared.placed.Placed.{Placed}
use Rattle.root_rewriting.proofs.Spelled.{flat_tokens}

-- nothing is written yet
pub writing_begins : (w : Writer) (ps : List Placed) → Written w [] [] → tokens_in w ≡ 0 → ps ≡ [] → (all : List Command) → InWriting w ps all all
writing_begins w ps stands empty none all = record {
  done = [];
  tops = [];
  stands = stands;
  split = refl;
  kept = λ s h. ap (map (placed_command s)) none;
  within = omega (arith, empty);
  counted = ap (λ n. first_beyond most_tokens n (tokens_from all)) (sym empty);
}

-- an assertion or a goal
pub tokens_here : (goal : Bool) (at : Place) (e : Sexp) → command_tokens (cond goal (minimize at e) (claim at e)) ≡ (at, tokens_of e) ∷ []
tokens_here true at e = refl
tokens_here false at e = refl

module _ (w : Writer) (ps : List Placed) (all left : List Command) (command : Command) (at : Place) (e : Sexp) (here : command_tokens command ≡ (at, tokens_of e) ∷ [])
    (i : InWriting w ps all (command ∷ left)) where
  from-here : first_beyond most_tokens 0 (tokens_from all) ≡ first_beyond most_tokens (tokens_in w) ((at, tokens_of e) ∷ tokens_from left)
  from-here = i.counted ∙ ap (λ ns. first_beyond most_tokens (tokens_in w) (ns ++ tokens_from left)) here

  -- there are too many tokens with it
  pub too_many_here : most_tokens < tokens_in w + tokens_of e → first_beyond most_tokens 0 (tokens_from all) ≡ Some at
  too_many_here many = from-here ∙ ap (λ b. cond b (Some at) (first_beyond most_tokens (tokens_in w + tokens_of e) (tokens_from left))) (lt-ltb most_tokens (tokens_in w + tokens_of e) many)

  -- or it is written
  module _ (v : Writer) (qs : List Placed) (p : Placed) (added : qs ≡ ps ++ (p ∷ [])) (writes : Writes w v e)
      (behind : (us : List Unclosed) (tops : List Sexp) → Written w us tops → p.at ≡ length (spelled us tops))
      (same : cond p.is_goal (minimize (place_of p.place) e) (claim (place_of p.place) e) ≡ command) (few : tokens_in v ≤ most_tokens) where
    count : tokens_in v ≡ tokens_in w + tokens_of e
    count = omega (arith, writes.count, flat_tokens e)

    goes-on : first_beyond most_tokens (tokens_in w) ((at, tokens_of e) ∷ tokens_from left) ≡ first_beyond most_tokens (tokens_in v) (tokens_from left)
    goes-on =
        ap (λ b. cond b (Some at) (first_beyond most_tokens (tokens_in w + tokens_of e) (tokens_from left))) (le-ltb most_tokens (tokens_in w + tokens_of e) (omega (arith, few, count))) ∙
        ap (λ n. first_beyond most_tokens n (tokens_from left)) (sym count)

    pub writing_more : InWriting v qs all left
    writing_more = record {
      done = i.done ++ (command ∷ []);
      tops = e ∷ i.tops;
      stands = writes.stands [] i.tops i.stands;
      split = i.split ∙ sym (append_assoc i.done (command ∷ []) left);
      kept = λ s h.
          let found : expression_at s p.at ≡ e = ap (expression_at s) (behind [] i.tops i.stands) ∙ h [] i.tops e refl in
          let one : placed_command s p ≡ command = ap (λ x. cond p.is_goal (minimize (place_of p.place) x) (claim (place_of p.place) x)) found ∙ same in
          ap (map (placed_command s)) added ∙ map-append (placed_command s) ps (p ∷ []) ∙
          ap₂ (λ xs ys. xs ++ ys) (i.kept s (λ later before x is. h (e ∷ later) before x (ap (λ us. e ∷ us) is))) (ap (λ x. x ∷ []) one);
      within = few;
      counted = from-here ∙ goes-on;
    }

-- ---- as far as it came

pub record WritingSoFar (s : Spelling) (drafts rest : List Draft) (w : Writer) (ps : List Placed) : Type 0 where
  pub below : AreDraftsBelow (length s.trees.now) (length s.names.now) rest
  pub writes : (table : Table) → AreNamed table s →
      InWriting w ps (map (draft_command s.names.now table (trees_in s.trees.now)) drafts) (map (draft_command s.names.now table (trees_in s.trees.now)) rest)

-- there is room for more
pub can_go_on : (w : Writer) (ps : List Placed) (all left : List Command) → InWriting w ps all left → CanWrite w 0
can_go_on w ps all left i = record { us = []; tops = i.tops; written = i.stands; room = omega (arith, i.within) }
