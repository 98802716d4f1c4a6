use Rattle.root_rewriting.specs.Nodes.{trees_in}
use Rattle.root_rewriting.proofs.Keyed.{next_ok}
use Rattle.root_rewriting.proofs.classes.next_class.Goals as goal

pub key_of-requires : goal.key_of-requires
key_of-requires c = c.look.ensures.1

pub returns : goal.returns
returns c = next_ok (trees_in c.args.trees.now) c.args.classes.now c.requires.classes c.args.of_keys.now c.class_of.new.classes c.requires.keyed c.look.result.now c.look.ensures c.in_ok-key.key c.in_ok-key.ensures c.class_of.result c.class_of.ensures
