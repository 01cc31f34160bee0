-- The small books: their rows, and some of them as books.
use Rattle.std.specs.Prelude.{ℕ, List, [], ◌∷◌, replicate}
use Rattle.std.specs.List.{range_with_len}
use Rattle.rows.specs.Waiting.{Waiting, idle}
use Rattle.book.specs.Calls.{Call, edits}
use Rattle.book.specs.Plain.{Edit, requests, grants, PlainBook, book_of}

-- The row of a job that needs so many of some targets.
abbrev pub needs : (need : ℕ) (targets : List ℕ) → Waiting
needs need targets = record { need = need; targets = targets }

-- The rows of each book, from job 0 on. One job, which is active.
abbrev pub one_job : List Waiting
one_job = idle ∷ []

-- B2: 0 waits for 1.
abbrev pub b2 : List Waiting
b2 = needs 1 (1 ∷ []) ∷ idle ∷ []

-- B3: two jobs wait for each other.
abbrev pub b3 : List Waiting
b3 = needs 1 (1 ∷ []) ∷ needs 1 (0 ∷ []) ∷ []

-- B4: 0 waits for one of 1 and 2, and 1 for 0.
abbrev pub b4 : List Waiting
b4 = needs 1 (1 ∷ 2 ∷ []) ∷ needs 1 (0 ∷ []) ∷ idle ∷ []

-- B5: 0 waits for both of 1 and 2, and 1 for 0.
abbrev pub b5 : List Waiting
b5 = needs 2 (1 ∷ 2 ∷ []) ∷ needs 1 (0 ∷ []) ∷ idle ∷ []

-- B6: 0 and 2 wait for 1.
abbrev pub b6 : List Waiting
b6 = needs 1 (1 ∷ []) ∷ idle ∷ needs 1 (1 ∷ []) ∷ []

-- B7: 0 waits for three, of which 3 waits for 0.
abbrev pub b7 : List Waiting
b7 = needs 3 (1 ∷ 2 ∷ 3 ∷ []) ∷ needs 1 (2 ∷ []) ∷ idle ∷ needs 1 (0 ∷ []) ∷ []

-- So many active jobs.
abbrev pub idle_jobs : ℕ → List Waiting
idle_jobs jobs = replicate jobs idle

-- Rows as a book with mark 7, a trail of so many records and no open group.
abbrev pub book_with : List Waiting → (trail_room : ℕ) → PlainBook
book_with rows trail_room = book_of (record { rows = rows; groups = []; mark = 7; trail_room = trail_room })

-- B2 as a book whose trail has one record.
abbrev pub b2_book : PlainBook
b2_book = book_with b2 1

-- The targets of a wide request: job 0 and all that follow, so many.
abbrev pub first_jobs : (count : ℕ) → List ℕ
first_jobs count = range_with_len 0 count

-- A request, as a call.
abbrev pub request : (job need : ℕ) (targets : List ℕ) → Call Edit
request job need targets = edits (requests job need targets)

-- A grant, as a call.
abbrev pub grant : (granter waiter : ℕ) → Call Edit
grant granter waiter = edits (grants granter waiter)

-- 1 comes to wait for 0, which makes B3 of B2.
abbrev pub b2_request : Call Edit
b2_request = request 1 1 (0 ∷ [])
