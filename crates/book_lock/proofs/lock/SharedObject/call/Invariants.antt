use Rattle.std.proofs.Common.{Some}
use Rattle.book_lock.proofs.lock.SharedObject.call.Given as goal

abbrev pub ghosts-leave : goal.ghosts-leave
ghosts-leave g a = record { call = Some a.said.value; reply = Some a.reply.now }
