use Rattle.tests.proofs.script.nested.+full_book_is_too_deep.Given as goal

abbrev pub decreases-full_book_is_too_deep : goal.decreases-full_book_is_too_deep
decreases-full_book_is_too_deep g l = l.more
