-- The commands of a form are those of its parts.
use Rattle.std.proofs.Common.{◌≡◌, refl}
use Rattle.script_model.specs.Sexp.{Place, numeral, decimal, symbol, reserved, string, keyword, Sexp, leaf, group, Sexps, none, more}
use Rattle.smt_script.specs.Levels.{command, resets}
use Rattle.smt_script.specs.Commands.{Before, says, one_step, by_word, one_command, sets_logic, echoes, gets_model, gets_values, declares, declares_function, defines, asserts, minimizes, checks, exits, pushes, pops, assumes, drops, restarts, checking, with_end, with_levels, with_nothing, parameters}
use Rattle.smt_script.specs.Forms.{as_symbol, as_any, as_group, as_numeral, as_string}
use Rattle.script_model.specs.Script.{ineffective}
use Rattle.smt_script.specs.Run.{by_first}
use Rattle.smt_script.specs.Shapes.{at_last, declares_name, declares_function_name, defines_name, asserts_term, minimizes_term, sets_name, echoes_text, gets_terms, pushes_levels, pops_levels, assumes_terms, shape_of, with_shape}

pub by_declares : (b : Before) (at : Place) (args : Sexps) → declares_name b at (as_symbol args) ≡ by_word b at declares args
by_declares b at none = refl
by_declares b at (more (group p items) rest) = refl
by_declares b at (more (leaf p (numeral d)) rest) = refl
by_declares b at (more (leaf p (decimal d f)) rest) = refl
by_declares b at (more (leaf p (reserved w)) rest) = refl
by_declares b at (more (leaf p (string t)) rest) = refl
by_declares b at (more (leaf p (keyword k)) rest) = refl
by_declares b at (more (leaf p (symbol f)) none) = refl
by_declares b at (more (leaf p (symbol f)) (more s none)) = refl
by_declares b at (more (leaf p (symbol f)) (more s (more e rest))) = refl

pub by_declares_function : (b : Before) (at : Place) (args : Sexps) → declares_function_name b at (as_symbol args) ≡ by_word b at declares_function args
by_declares_function b at none = refl
by_declares_function b at (more (group p items) rest) = refl
by_declares_function b at (more (leaf p (numeral d)) rest) = refl
by_declares_function b at (more (leaf p (decimal d f)) rest) = refl
by_declares_function b at (more (leaf p (reserved w)) rest) = refl
by_declares_function b at (more (leaf p (string t)) rest) = refl
by_declares_function b at (more (leaf p (keyword k)) rest) = refl
by_declares_function b at (more (leaf p (symbol f)) none) = refl
by_declares_function b at (more (leaf p (symbol f)) (more (leaf q l) rest)) = refl
by_declares_function b at (more (leaf p (symbol f)) (more (group q args) none)) = refl
by_declares_function b at (more (leaf p (symbol f)) (more (group q args) (more s none))) = refl
by_declares_function b at (more (leaf p (symbol f)) (more (group q args) (more s (more e rest)))) = refl

pub by_defines : (b : Before) (at : Place) (args : Sexps) → defines_name b at (as_symbol args) ≡ by_word b at defines args
by_defines b at none = refl
by_defines b at (more (group p items) rest) = refl
by_defines b at (more (leaf p (numeral d)) rest) = refl
by_defines b at (more (leaf p (decimal d f)) rest) = refl
by_defines b at (more (leaf p (reserved w)) rest) = refl
by_defines b at (more (leaf p (string t)) rest) = refl
by_defines b at (more (leaf p (keyword k)) rest) = refl
by_defines b at (more (leaf p (symbol f)) none) = refl
by_defines b at (more (leaf p (symbol f)) (more (leaf q l) rest)) = refl
by_defines b at (more (leaf p (symbol f)) (more (group q params) none)) = refl
by_defines b at (more (leaf p (symbol f)) (more (group q params) (more s none))) = refl
by_defines b at (more (leaf p (symbol f)) (more (group q params) (more s (more body none)))) = refl
by_defines b at (more (leaf p (symbol f)) (more (group q params) (more s (more body (more e rest))))) = refl

pub by_asserts : (b : Before) (at : Place) (args : Sexps) → asserts_term b at (as_any args) ≡ by_word b at asserts args
by_asserts b at none = refl
by_asserts b at (more e none) = refl
by_asserts b at (more e (more e2 rest)) = refl

pub by_minimizes : (b : Before) (at : Place) (args : Sexps) → minimizes_term b at (as_any args) ≡ by_word b at minimizes args
by_minimizes b at none = refl
by_minimizes b at (more t none) = refl
by_minimizes b at (more t (more e rest)) = refl

pub by_sets_logic : (b : Before) (at : Place) (args : Sexps) → sets_name b at (as_symbol args) ≡ by_word b at sets_logic args
by_sets_logic b at none = refl
by_sets_logic b at (more (group p items) rest) = refl
by_sets_logic b at (more (leaf p (numeral d)) rest) = refl
by_sets_logic b at (more (leaf p (decimal d f)) rest) = refl
by_sets_logic b at (more (leaf p (reserved w)) rest) = refl
by_sets_logic b at (more (leaf p (string t)) rest) = refl
by_sets_logic b at (more (leaf p (keyword k)) rest) = refl
by_sets_logic b at (more (leaf p (symbol l)) none) = refl
by_sets_logic b at (more (leaf p (symbol l)) (more e rest)) = refl

pub parameters-more : (e : Sexp) (rest : Sexps) → parameters (more e rest) ≡ with_shape (shape_of e) (parameters rest)
parameters-more (leaf p l) rest = refl
parameters-more (group p none) rest = refl
parameters-more (group p (more (group q items) more_items)) rest = refl
parameters-more (group p (more (leaf q (numeral d)) items)) rest = refl
parameters-more (group p (more (leaf q (decimal d f)) items)) rest = refl
parameters-more (group p (more (leaf q (reserved w)) items)) rest = refl
parameters-more (group p (more (leaf q (string t)) items)) rest = refl
parameters-more (group p (more (leaf q (keyword k)) items)) rest = refl
parameters-more (group p (more (leaf q (symbol x)) none)) rest = refl
parameters-more (group p (more (leaf q (symbol x)) (more s none))) rest = refl
parameters-more (group p (more (leaf q (symbol x)) (more s (more e items)))) rest = refl

pub by_echoes : (b : Before) (at : Place) (args : Sexps) → echoes_text b at (as_string args) ≡ by_word b at echoes args
by_echoes b at none = refl
by_echoes b at (more (group p items) rest) = refl
by_echoes b at (more (leaf p (numeral d)) rest) = refl
by_echoes b at (more (leaf p (decimal d f)) rest) = refl
by_echoes b at (more (leaf p (symbol l)) rest) = refl
by_echoes b at (more (leaf p (reserved w)) rest) = refl
by_echoes b at (more (leaf p (string t)) none) = refl
by_echoes b at (more (leaf p (string t)) (more e rest)) = refl
by_echoes b at (more (leaf p (keyword k)) rest) = refl

pub by_pushes : (b : Before) (at : Place) (args : Sexps) → pushes_levels b at (as_numeral args) ≡ by_word b at pushes args
by_pushes b at none = refl
by_pushes b at (more (group p items) rest) = refl
by_pushes b at (more (leaf p (numeral d)) none) = refl
by_pushes b at (more (leaf p (numeral d)) (more e rest)) = refl
by_pushes b at (more (leaf p (decimal d f)) rest) = refl
by_pushes b at (more (leaf p (symbol l)) rest) = refl
by_pushes b at (more (leaf p (reserved w)) rest) = refl
by_pushes b at (more (leaf p (string t)) rest) = refl
by_pushes b at (more (leaf p (keyword k)) rest) = refl

pub by_pops : (b : Before) (at : Place) (args : Sexps) → pops_levels b at (as_numeral args) ≡ by_word b at pops args
by_pops b at none = refl
by_pops b at (more (group p items) rest) = refl
by_pops b at (more (leaf p (numeral d)) none) = refl
by_pops b at (more (leaf p (numeral d)) (more e rest)) = refl
by_pops b at (more (leaf p (decimal d f)) rest) = refl
by_pops b at (more (leaf p (symbol l)) rest) = refl
by_pops b at (more (leaf p (reserved w)) rest) = refl
by_pops b at (more (leaf p (string t)) rest) = refl
by_pops b at (more (leaf p (keyword k)) rest) = refl

pub by_gets_values : (b : Before) (at : Place) (args : Sexps) → gets_terms b at (as_group args) ≡ by_word b at gets_values args
by_gets_values b at none = refl
by_gets_values b at (more (leaf p l) rest) = refl
by_gets_values b at (more (group p none) none) = refl
by_gets_values b at (more (group p none) (more e rest)) = refl
by_gets_values b at (more (group p (more t ts)) none) = refl
by_gets_values b at (more (group p (more t ts)) (more e rest)) = refl

pub by_assumes : (b : Before) (at : Place) (args : Sexps) → assumes_terms b at (as_group args) ≡ by_word b at assumes args
by_assumes b at none = refl
by_assumes b at (more (leaf p l) rest) = refl
by_assumes b at (more (group p es) none) = refl
by_assumes b at (more (group p es) (more e rest)) = refl

pub by_gets_model : (b : Before) (at : Place) (args : Sexps) → at_last args (says b (one_step (command (ineffective at)))) ≡ by_word b at gets_model args
by_gets_model b at none = refl
by_gets_model b at (more e rest) = refl

pub by_checks : (b : Before) (at : Place) (args : Sexps) → at_last args (checking b at) ≡ by_word b at checks args
by_checks b at none = refl
by_checks b at (more e rest) = refl

pub by_exits : (b : Before) (at : Place) (args : Sexps) → at_last args (says (with_end b) (one_step (command (ineffective at)))) ≡ by_word b at exits args
by_exits b at none = refl
by_exits b at (more e rest) = refl

pub by_drops : (b : Before) (at : Place) (args : Sexps) → at_last args (says (with_levels b 0) (one_step (resets at))) ≡ by_word b at drops args
by_drops b at none = refl
by_drops b at (more e rest) = refl

pub by_restarts : (b : Before) (at : Place) (args : Sexps) → at_last args (says (with_nothing b) (one_step (resets at))) ≡ by_word b at restarts args
by_restarts b at none = refl
by_restarts b at (more e rest) = refl

pub by_one : (b : Before) (at : Place) (items : Sexps) → by_first b at (as_symbol items) ≡ one_command b (group at items)
by_one b at none = refl
by_one b at (more (group p inside) rest) = refl
by_one b at (more (leaf p (numeral d)) rest) = refl
by_one b at (more (leaf p (decimal d f)) rest) = refl
by_one b at (more (leaf p (reserved w)) rest) = refl
by_one b at (more (leaf p (string t)) rest) = refl
by_one b at (more (leaf p (keyword k)) rest) = refl
by_one b at (more (leaf p (symbol w)) rest) = refl
