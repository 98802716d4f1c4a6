use Rattle.std.proofs.Common.{◌∙◌, sym, rules, tests}
use Rattle.std.specs.Borrow.{Bor}
use Rattle.std.proofs.lemmas.Iterator.{YieldsList-from_slice}
use Rattle.std.proofs.lemmas.Iterator.Search.{all_from_yields_List}
use Rattle.std.proofs.lemmas.List.Folds.{list_all-map}
use Rattle.clap.specs.Words.{Text}
use Rattle.command_line.specs.Words.{is_file}
use Rattle.command_line.proofs.read.are_files.Goals as goal

pub returns : goal.returns
returns c =
    all_from_yields_List (λ (s : Bor Text). is_file s.now) _ _ c.all.result c.all.ensures.ran (YieldsList-from_slice c.args.names.now cc) (λ x b q k. search (rules, tests))
    ∙ sym (list_all-map is_file (λ (s : Bor Text). s.now) c.args.names.now)
