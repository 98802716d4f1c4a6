-- How branches of a tree end, as the picture shows it.
use Rattle.std.specs.Prelude.{Option, Some, None}
use Rattle.cover_model.specs.Rules.{end_by, void_by, by_squares, false_form, by_lemma, stay_by, open_state, stuck_atom}
use Rattle.cert_read.specs.CertLine.{CertLine, rule_line}
use Rattle.cover_svg.specs.declared.fate.Fate.{Fate}
use Rattle.cover_svg.specs.declared.fate.Fate.TheVariants.{Void, False, By, Open, Stuck}

-- how a branch ends by the line; none where it goes on
abbrev pub fate_by : CertLine → Option Fate
fate_by (rule_line (end_by (void_by n))) = Some Void
fate_by (rule_line (end_by (by_squares ms bs))) = Some Void
fate_by (rule_line (end_by false_form)) = Some False
fate_by (rule_line (end_by (by_lemma i))) = Some By
fate_by (rule_line (stay_by open_state)) = Some Open
fate_by (rule_line (stay_by (stuck_atom j))) = Some Stuck
fate_by _ = None
