-- The number of each refusal of the book, and the value that it carries.
use Rattle.std.specs.Prelude.{ℕ, Some, None, Option}
use Rattle.rows.specs.declared.plain.RowFault.{RowFault}
use Rattle.rows.specs.declared.plain.RowFault.TheVariants.{WrongCounts as row_counts, WrongTarget as row_target}
use Rattle.store.specs.declared.fault.BookFault.{BookFault}
use Rattle.store.specs.declared.fault.BookFault.TheVariants.{NoSuchJob, Blocked, WrongCounts, WrongTarget, TrailFull, GranterBlocked, NoSuchWait, TooDeep, NotInnermost}

-- The number of each refusal.
abbrev pub number : BookFault → ℕ
number NoSuchJob = 1
number Blocked = 2
number WrongCounts = 3
number (WrongTarget place) = 4
number TrailFull = 5
number GranterBlocked = 6
number NoSuchWait = 7
number TooDeep = 8
number NotInnermost = 9

-- The value, where it is a number: the place of the first wrong target, counted from 0. What refusal 9 brings back, a ticket or a
-- ticket id, stands beside the fault.
abbrev pub value : BookFault → Option ℕ
value NoSuchJob = None
value Blocked = None
value WrongCounts = None
value (WrongTarget place) = Some place
value TrailFull = None
value GranterBlocked = None
value NoSuchWait = None
value TooDeep = None
value NotInnermost = None

-- The book's refusal of a request that makes no row.
abbrev pub of_row : RowFault → BookFault
of_row row_counts = WrongCounts
of_row (row_target place) = WrongTarget place
