-- A call of a life that is made on a book.
use Rattle.scripts.specs.Workspace.{Workspace}
use Rattle.book.specs.Moments.{IsEvent, DoesOnBook, BookEvent}
use Rattle.book.specs.declared.life.call.Answer.{Answer}
use Rattle.book.specs.declared.life.call.Call.{Call}
use Rattle.store.specs.Plain.{PlainBook}

-- It is an event, and happens to the book by the rules.
pub record IsStep (s : PlainBook) (before : Workspace) (k : Call) (a : Answer) (s' : PlainBook) (after : Workspace) : Type 0 where
  pub event : BookEvent
  pub happens : IsEvent before k a event after
  pub does : DoesOnBook s event s'
