use Rattle.std.proofs.Common.{◌≡◌, List, [], ◌++◌, length, refl, arith, sym, subst}
use Rattle.script_forms.specs.Walk.{most_size}
use Rattle.script_roots.specs.Fresh.{asserted, asserted_from}
use Rattle.root_rewriting.specs.Ahead.{top_bodies}
use Rattle.root_rewriting.specs.Asserted.{AreAsserted}
use Rattle.root_rewriting.specs.TreeNames.{top_names}
use Rattle.root_rewriting.specs.Nodes.{trees_in}
use Rattle.script_roots.specs.Reached.{first_beyond, reached_from, too_many}
use Rattle.root_rewriting.specs.declared.unfold.assertions.Assertion.{Assertion}
use Rattle.root_rewriting.specs.declared.unfold.top.Top.{Top}
use Rattle.root_rewriting.proofs.unfold.assertions.Progress.new.Goals as goal

pub returns : goal.returns
returns c = λ s script. record {
  done = [];
  are = subst (λ (cs : List Assertion). AreAsserted (trees_in c.new-2.result) cs []) (sym c.new-3.ensures.items) tt;
  split = subst (λ (ts : List Top). asserted script ≡ [] ++ asserted_from (top_names s ts (length ts)) script) (sym c.new.ensures) refl;
  within = omega arith;
  counted = subst (λ (ts : List Top). too_many script ≡ first_beyond most_size 0 (reached_from (top_bodies s ts (length ts)) script)) (sym c.new.ensures) refl;
}
