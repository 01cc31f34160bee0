use Rattle.small_books.proofs.Table.{small_books_hold}
use Rattle.small_books.proofs.facts.small_books_hold.Goals as goal

pub returns : goal.returns
returns c = small_books_hold
