use Rattle.cert_model.proofs.Texts
use Rattle.cert_model.proofs.tree_text_is_accepted.Goals as goal

pub returns : goal.returns
returns c = record { accepted = Texts.tree_accepted; standing = Texts.tree_stand; honest = Texts.tree_honest; branches = Texts.tree_branch }
