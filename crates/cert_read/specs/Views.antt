-- What the lines of the code stand for.
use Rattle.std.specs.Prelude.{option_map}
use Rattle.dyadic.specs.Views.{dyadic_of}
use Rattle.cover_line.specs.Views as rules
use Rattle.cert_read.specs.declared.line.BoolSet.{BoolSet}
use Rattle.cert_read.specs.declared.line.BoolSet.TheVariants as set
use Rattle.cert_read.specs.declared.line.Line.{Line}
use Rattle.cert_read.specs.declared.line.Line.TheVariants.{Version, Margin, Delta, Bound, Lower, Goal, Checks, Cover, Keep, Point, Tree, End, Lemma, RealInterval, RealValue, Bool, Yes, No, Rule, Over, Empty}
use Rattle.cert_read.specs.CertLine.{BoolWord, says_false, says_true, says_both, CertLine, version, margin, delta, bound, lower, goal, over, checks, cover, keep, point_word, tree_word, end_word, lemma, real_interval, real_value, bool_value, yes_list, no_list, rule_line, crossing}

abbrev pub bool_word_of : BoolSet → BoolWord
bool_word_of set.False = says_false
bool_word_of set.True = says_true
bool_word_of set.Both = says_both

abbrev pub line_of : Line → CertLine
line_of (Version n) = version n
line_of (Margin n) = margin n
line_of (Delta n) = delta n
line_of (Bound b) = bound b
line_of (Lower d) = lower (option_map dyadic_of d)
line_of (Goal k) = goal k
line_of (Checks n) = checks n
line_of (Cover n) = cover n
line_of (Keep n) = keep n
line_of Point = point_word
line_of Tree = tree_word
line_of End = end_word
line_of (Lemma i) = lemma i
line_of (RealInterval l h) = real_interval (dyadic_of l) (dyadic_of h)
line_of (RealValue v) = real_value (dyadic_of v)
line_of (Bool b) = bool_value (bool_word_of b)
line_of (Yes js) = yes_list js.items
line_of (No js) = no_list js.items
line_of (Rule r) = rule_line (rules.line_of r)
line_of Over = over
line_of (Empty axis) = crossing axis
