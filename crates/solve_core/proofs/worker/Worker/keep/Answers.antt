use Rattle.solve_core.proofs.worker.Worker.keep.Goals as goal

pub returns-clause-waiting : goal.returns-clause-waiting
returns-clause-waiting c = λ b l u h. c.offer.ensures.waiting b (c.put_off-2.ensures.waiting b l (c.put_off.ensures.waiting b u h))
