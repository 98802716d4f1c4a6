use Rattle.poly_graph.proofs.Upwards.{pushed}
use Rattle.poly_graph.proofs.parents.push_at.Goals as goal

pub returns : goal.returns
returns c = pushed (λ v. v.items) c.args.rows.now.items c.args.s c.args.n c.index_mut.result.now c.push.new.self c.requires c.index_mut.ensures.value c.in_ok-push.ensures.items
