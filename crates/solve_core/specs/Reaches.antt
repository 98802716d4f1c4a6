-- Books that calls lead to.
use Rattle.cover_book.specs.declared.calls.Call.{Call}
use Rattle.cover_book.specs.declared.calls.Reply.{Reply}
use Rattle.cover_book.specs.Model.{BookModel, raised}
use Rattle.cover_book.specs.Steps.{MayBeCalled, BookStep}

-- calls on a book, each of which meets its condition, lead to another
pub data Reaches (b : BookModel) : BookModel → Type 0 where
  stays : Reaches b b
  calls : {d : BookModel} (c : BookModel) (call : Call) (reply : Reply) → Reaches b c → MayBeCalled c call → BookStep c call reply d → Reaches b d

-- so they do, perhaps with one change to version 5 between them
pub data IsSearched (b : BookModel) : BookModel → Type 0 where
  in_one_version : {d : BookModel} → Reaches b d → IsSearched b d
  in_two_versions : {d : BookModel} (c : BookModel) → Reaches b c → Reaches (raised c) d → IsSearched b d
