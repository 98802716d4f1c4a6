use Rattle.std.proofs.Common.{◌≡◌, ◌∙◌, ◌++◌, ℕ, List, [], Option, map, ap₂, sym, subst}
use Rattle.std.specs.Prelude.{IfErr, IfOk}
use Rattle.script_model.specs.Script.{Command}
use Rattle.script_roots.specs.Fresh.{Table}
use Rattle.script_roots.specs.Reached.{first_beyond}
use Rattle.script_roots.specs.Refused.{most_tokens, tokens_from}
use Rattle.script_roots.specs.Rewritten.{assertion, claims_of_all}
use Rattle.root_rewriting.specs.Nodes.{trees_in}
use Rattle.root_rewriting.specs.Drafts.{draft_command}
use Rattle.root_rewriting.specs.Placing.{InWriting, IsTooLarge}
use Rattle.root_rewriting.specs.Spelling.{NameTrees, fresh_name}
use Rattle.root_rewriting.specs.Table.{entry_of}
use Rattle.root_rewriting.proofs.rewrite.written.Goals as goal

pub write_all-requires-clause-named : goal.write_all-requires-clause-named
write_all-requires-clause-named c =
    let ts = trees_in c.args.asserted.now.trees in
    let T : Table = map (entry_of ts) c.args.table.now in (
      T,
      subst (λ (ns : List (List ℕ)). NameTrees T ts c.args.classes.now c.as_slice.result.now ns) (sym (c.as_slice-2.ensures.value ∙ c.in_ok-names.ensures))
          (subst (λ (ks : List (Option ℕ)). NameTrees T ts c.args.classes.now ks (map fresh_name c.args.table.now)) (sym c.as_slice.ensures.value) (c.in_ok-numbers.ensures.named ts c.requires.classes)),
    )

pub returns-clause-writes : goal.returns-clause-writes
returns-clause-writes c = λ ranged claims e are.
    let ts = trees_in c.args.asserted.now.trees in
    let T : Table = map (entry_of ts) c.args.table.now in
    let named = subst (λ (ns : List (List ℕ)). NameTrees T ts c.args.classes.now c.as_slice.result.now ns) (sym (c.as_slice-2.ensures.value ∙ c.in_ok-names.ensures))
    (subst (λ (ks : List (Option ℕ)). NameTrees T ts c.args.classes.now ks (map fresh_name c.args.table.now)) (sym c.as_slice.ensures.value) (c.in_ok-numbers.ensures.named ts c.requires.classes)) in
    let all : map (draft_command c.as_slice-2.result.now T ts) c.as_slice-3.result.now ≡ claims_of_all ranged T T ++ map (assertion T) claims =
    ap₂ (λ ns ds. map (draft_command ns T ts) ds) (c.as_slice-2.ensures.value ∙ c.in_ok-names.ensures) c.as_slice-3.ensures.value ∙ c.in_ok-drafts.ensures.drafts ranged T claims e are in
    subst (λ (cs : List Command). IfOk c.write_all.result (λ w. InWriting w.writer w.placed.items cs [])) all (c.write_all.ensures.writes T named)

pub returns-clause-refuses : goal.returns-clause-refuses
returns-clause-refuses c = λ ranged claims e are.
    let ts = trees_in c.args.asserted.now.trees in
    let T : Table = map (entry_of ts) c.args.table.now in
    let named = subst (λ (ns : List (List ℕ)). NameTrees T ts c.args.classes.now c.as_slice.result.now ns) (sym (c.as_slice-2.ensures.value ∙ c.in_ok-names.ensures))
    (subst (λ (ks : List (Option ℕ)). NameTrees T ts c.args.classes.now ks (map fresh_name c.args.table.now)) (sym c.as_slice.ensures.value) (c.in_ok-numbers.ensures.named ts c.requires.classes)) in
    let all : map (draft_command c.as_slice-2.result.now T ts) c.as_slice-3.result.now ≡ claims_of_all ranged T T ++ map (assertion T) claims =
    ap₂ (λ ns ds. map (draft_command ns T ts) ds) (c.as_slice-2.ensures.value ∙ c.in_ok-names.ensures) c.as_slice-3.ensures.value ∙ c.in_ok-drafts.ensures.drafts ranged T claims e are in
    subst (λ (cs : List Command). IfErr c.write_all.result (λ x. IsTooLarge x (first_beyond most_tokens 0 (tokens_from cs)))) all (c.write_all.ensures.refuses T named)
