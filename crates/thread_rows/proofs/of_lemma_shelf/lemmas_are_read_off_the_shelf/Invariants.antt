use Rattle.thread_rows.proofs.of_lemma_shelf.lemmas_are_read_off_the_shelf.Given as goal

abbrev pub ghosts-posted_are_found : goal.ghosts-posted_are_found
ghosts-posted_are_found g a = record { problem = a.problem.now; margins = a.margins.now }
