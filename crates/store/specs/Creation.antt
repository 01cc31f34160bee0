-- What creation makes: a book, by what it fixes.
use Rattle.std.specs.Prelude.{ℕ, min, cond, nat_le}
use Rattle.tables.specs.declared.table.TheConstants.{JOBS_MAX}
use Rattle.groups.specs.declared.store.TheConstants.{TRAIL_MAX}
use Rattle.histories.specs.Rules.{Parameters, fresh_book}
use Rattle.store.specs.Plain.{Fixed, PlainBook, plain}

-- How many jobs a new book has: as many as are asked for, up to 256; none where 0 or more than 256 are.
abbrev pub created : ℕ → ℕ
created jobs = cond (nat_le jobs JOBS_MAX) jobs 0

-- What creation fixes, by what it takes: how many jobs are asked for, the mark, and how many undo records the lent memory holds, of which
-- no more than 1,024 are used.
abbrev pub new_parameters : (jobs mark memory : ℕ) → Parameters Fixed
new_parameters jobs mark memory = record { jobs = created jobs; mark = mark; trail_room = min memory TRAIL_MAX; fixed = tt }

-- The new book.
abbrev pub new_book : (jobs mark memory : ℕ) → PlainBook
new_book jobs mark memory = fresh_book plain (new_parameters jobs mark memory)
