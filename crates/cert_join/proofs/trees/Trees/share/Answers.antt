use Rattle.std.proofs.Common.{List, ℕ, subst}
use Rattle.cert_join.specs.Gathered.{lists_of}
use Rattle.cert_join.specs.Due.{AreTaken}
use Rattle.cert_join.proofs.Standing.{shared_state}
use Rattle.cert_join.proofs.trees.Trees.share.Goals as goal

pub returns : goal.returns
returns c k same h e go alike =
    let P : List ℕ → Type 0 = λ z. AreTaken (lists_of c.args.numbers.now) c.args.part z c.args.text.now.items c.args.cursors.now c.take_line.new.text.items c.take_line.new.cursors in
    shared_state k _ _ _ _ _ _ _ _ _ _ same h e go alike c.left_at-left.ensures (subst P c.deref.ensures.value c.in_ok-take_line.ensures) c.in_ok-push_behind.ensures
