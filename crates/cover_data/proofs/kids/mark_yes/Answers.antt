use Rattle.cover_data.proofs.kids.mark_yes.Goals as goal
