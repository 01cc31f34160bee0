-- The table of small books: what is to come of them. Its parts follow docs/RULES.md.
use Rattle.std.specs.Prelude.{ℕ, ◌+◌, ◌*◌, true, false, List, [], ◌∷◌, ◌++◌, replicate, Some, None, Ok, Err}
use Rattle.carriers.specs.CountedCarriers.{new_carrier}
use Rattle.rows.specs.Waiting.{idle}
use Rattle.rows.specs.declared.plain.TheConstants.{TARGETS_MAX}
use Rattle.tables.specs.declared.table.TheConstants.{WAITS_MAX, JOBS_MAX}
use Rattle.groups.specs.declared.store.TheConstants.{TRAIL_MAX, DEPTH_MAX, ROWS}
use Rattle.exchange.specs.Records.{blank}
use Rattle.exchange.specs.Limits.{deliveries_per_wait, capacity_per_wait}
use Rattle.chart.specs.Faults.{refused as chart_refused}
use Rattle.chart.specs.declared.bytes.TheConstants.{CHART_MAX, ROW_BYTES}
use Rattle.book.specs.Calls.{done, ticket, stopped, returned, Call, opens, keeps, cancels}
use Rattle.book.specs.Rules.{after}
use Rattle.book.specs.Plain.{Edit, plain, PlainBook}
use Rattle.book.specs.Creation.{new_book}
use Rattle.book.specs.Workspace.{Workspace, workspace}
use Rattle.book.specs.AnswerConstants.{DETECTION_BYTES}
use Rattle.book.specs.ScriptConstants.{SCRIPT_MAX}
use Rattle.book.specs.ScriptCalls.{after_calls}
use Rattle.book.specs.ScriptFaults.{by_book}
use Rattle.book.specs.Machines.{book_machine}
use Rattle.small_books.specs.Books.{needs, one_job, b2, b3, b4, b5, b6, b7, idle_jobs, book_with, b2_book, first_jobs, request, grant, b2_request}
use Rattle.small_books.specs.Lines.{Line, finished, faulted, asked, called, refused, called_in_turn, run_on, charted, reduced_to, limited}

-- The limits.
abbrev pub limit_lines : List Line
limit_lines =
    limited JOBS_MAX 256
    ∷ limited TARGETS_MAX 16
    ∷ limited WAITS_MAX 4096
    ∷ limited TRAIL_MAX 1024
    ∷ limited DEPTH_MAX 8
    ∷ limited ROWS 256
    ∷ limited ROW_BYTES 18
    ∷ limited CHART_MAX 4608
    ∷ limited SCRIPT_MAX 8192
    ∷ limited DETECTION_BYTES 4
    ∷ limited capacity_per_wait 2
    ∷ limited (capacity_per_wait * WAITS_MAX) 8192
    ∷ limited deliveries_per_wait 4
    ∷ limited (deliveries_per_wait * WAITS_MAX) 16384
    ∷ []

-- The runs.
abbrev pub run_lines : List Line
run_lines =
    asked one_job 0 true 0
    ∷ asked b2 0 true 4
    ∷ asked b2 1 true 2
    ∷ asked b3 0 false 4
    ∷ asked b4 0 true 12
    ∷ asked b5 0 false 8
    ∷ asked b6 0 true 6
    ∷ asked b6 2 true 6
    ∷ asked b7 0 false 16
    ∷ []

-- Calls on B2.
abbrev pub b2_lines : List Line
b2_lines =
    called b2_book opens (ticket 7 1) b2
    ∷ called (after plain b2_book opens) b2_request done b3
    ∷ called (after plain (after plain b2_book opens) b2_request) (cancels 7 1) done b2
    ∷ called b2_book (grant 1 0) done (idle_jobs 2)
    ∷ refused b2_book (grant 0 1) (stopped 6 None)
    ∷ refused b2_book (grant 1 1) (stopped 7 None)
    ∷ []

-- The book that calls leave, made in turn.
abbrev pub left_by : PlainBook → List (Call Edit) → PlainBook
left_by before calls = after_calls (book_machine plain) before calls

-- Seventeen jobs are enough for a request with 16 targets, and eighteen are for 17.
abbrev pub seventeen_jobs : PlainBook
seventeen_jobs = book_with (idle_jobs 17) 1

abbrev pub eighteen_jobs : PlainBook
eighteen_jobs = book_with (idle_jobs 18) 1

-- Each refusal of a request, in the order of its checks; and the widest request, which is accepted.
abbrev pub request_lines : List Line
request_lines =
    refused b2_book (request 2 1 (0 ∷ [])) (stopped 1 None)
    ∷ refused b2_book (request 0 1 (1 ∷ [])) (stopped 2 None)
    ∷ refused b2_book (request 1 1 []) (stopped 3 None)
    ∷ refused eighteen_jobs (request 17 1 (first_jobs 17)) (stopped 3 None)
    ∷ refused b2_book (request 1 0 (0 ∷ [])) (stopped 3 None)
    ∷ refused b2_book (request 1 2 (0 ∷ [])) (stopped 3 None)
    ∷ refused (book_with b4 1) (request 2 1 (3 ∷ [])) (stopped 4 (Some 0))
    ∷ refused (book_with b4 1) (request 2 1 (0 ∷ 2 ∷ [])) (stopped 4 (Some 1))
    ∷ refused (book_with b4 1) (request 2 1 (1 ∷ 0 ∷ [])) (stopped 4 (Some 1))
    ∷ refused (book_with b4 1) (request 2 1 (0 ∷ 1 ∷ 1 ∷ [])) (stopped 4 (Some 2))
    ∷ refused (left_by b2_book (opens ∷ grant 1 0 ∷ [])) b2_request (stopped 5 None)
    ∷ called seventeen_jobs (request 16 16 (first_jobs 16)) done (idle_jobs 16 ++ needs 16 (first_jobs 16) ∷ [])
    ∷ []

-- Each refusal of a grant; 6 and 7 are among the calls on B2. Where no group is open, a trail without records is no hindrance.
abbrev pub grant_lines : List Line
grant_lines =
    refused b2_book (grant 2 0) (stopped 1 None)
    ∷ refused b2_book (grant 1 2) (stopped 1 None)
    ∷ refused (left_by (book_with b6 1) (opens ∷ grant 1 0 ∷ [])) (grant 1 2) (stopped 5 None)
    ∷ called (book_with b2 0) (grant 1 0) done (idle_jobs 2)
    ∷ []

-- Openings and endings. The ninth opening is refused; and so is an ending where no group is open, and one whose ticket is that of the group
-- around the innermost, or has another mark. What a keeping hands to the group around it is undone when this is cancelled.
abbrev pub group_lines : List Line
group_lines =
    refused (left_by b2_book (replicate DEPTH_MAX opens)) opens (stopped 8 None)
    ∷ refused b2_book (cancels 7 1) (returned 9 7 1)
    ∷ refused (left_by b2_book (opens ∷ opens ∷ [])) (keeps 7 1) (returned 9 7 1)
    ∷ refused (left_by b2_book (opens ∷ [])) (keeps 8 1) (returned 9 8 1)
    ∷ called_in_turn (book_with b2 2) (opens ∷ grant 1 0 ∷ opens ∷ b2_request ∷ keeps 7 2 ∷ []) (idle ∷ needs 1 (0 ∷ []) ∷ [])
    ∷ called_in_turn (book_with b2 2) (opens ∷ grant 1 0 ∷ opens ∷ b2_request ∷ keeps 7 2 ∷ cancels 7 1 ∷ []) b2
    ∷ []

-- The bytes of B4 as a chart: the needs are 1, 1 and 0, and what is not in use is 0.
abbrev pub b4_chart : List ℕ
b4_chart = 1 ∷ 2 ∷ 1 ∷ 2 ∷ (replicate 14 0 ++ 1 ∷ 1 ∷ replicate 34 0)

-- The same, where job 1 waits for itself; and where a target byte of job 2, which has no target, is 1.
abbrev pub chart_with_a_wait_for_itself : List ℕ
chart_with_a_wait_for_itself = 1 ∷ 2 ∷ 1 ∷ 2 ∷ (replicate 14 0 ++ 1 ∷ 1 ∷ 1 ∷ replicate 33 0)

abbrev pub chart_with_a_stray_byte : List ℕ
chart_with_a_stray_byte = 1 ∷ 2 ∷ 1 ∷ 2 ∷ (replicate 14 0 ++ (1 ∷ 1 ∷ replicate 33 0 ++ 1 ∷ []))

-- Charts. A length is wrong where there is no byte, a part of a row, or a row more than the longest chart has.
abbrev pub chart_lines : List Line
chart_lines =
    charted b4_chart (Ok 3) b4
    ∷ charted chart_with_a_wait_for_itself (Err (chart_refused 19 (Some 1))) []
    ∷ charted chart_with_a_stray_byte (Err (chart_refused 19 (Some 2))) []
    ∷ charted [] (Err (chart_refused 18 None)) []
    ∷ charted (0 ∷ b4_chart) (Err (chart_refused 18 None)) []
    ∷ charted (replicate (CHART_MAX + ROW_BYTES) 0) (Err (chart_refused 18 None)) []
    ∷ []

-- Reductions: 0 for each job that is loosened, and else 1.
abbrev pub reduction_lines : List Line
reduction_lines =
    reduced_to b4 (0 ∷ 0 ∷ 0 ∷ [])
    ∷ reduced_to b5 (1 ∷ 1 ∷ 0 ∷ [])
    ∷ []

-- The book of the program `waits`, and what the program lends to a script: a record for each job, a carrier in which nothing waits, and the
-- answer bytes. Any mark would do, since a script hands out no ticket.
abbrev pub program_book : PlainBook
program_book = new_book JOBS_MAX 7 TRAIL_MAX

abbrev pub program_workspace : Workspace
program_workspace = workspace (replicate JOBS_MAX blank) (new_carrier (capacity_per_wait * WAITS_MAX)) (replicate 16384 0)

-- Two scripts of that program. Jobs 0 and 1 come to wait for each other, and a detection is made from 0. And 1 grants 0 a wait that is not
-- there.
abbrev pub script_of_two_waits : List ℕ
script_of_two_waits = 82 ∷ 0 ∷ 1 ∷ 1 ∷ 1 ∷ 82 ∷ 1 ∷ 1 ∷ 1 ∷ 0 ∷ 68 ∷ 0 ∷ []

abbrev pub script_of_a_grant : List ℕ
script_of_a_grant = 71 ∷ 1 ∷ 0 ∷ []

-- The first carries out its three commands, and tells that 0 is stuck, after 4 deliveries. The second is refused by the book, at once.
abbrev pub script_lines : List Line
script_lines =
    run_on program_book program_workspace script_of_two_waits (finished 3 0 4) (0 ∷ 1 ∷ 0 ∷ 4 ∷ [])
    ∷ run_on program_book program_workspace script_of_a_grant (faulted (by_book 7 None) 0 0 0) []
    ∷ []

-- All of it, part by part. That 17 targets are too many, and that a ninth group is not opened, holds of any book.
abbrev pub table : List (List Line)
table =
    limit_lines
    ∷ run_lines
    ∷ b2_lines
    ∷ request_lines
    ∷ grant_lines
    ∷ group_lines
    ∷ chart_lines
    ∷ reduction_lines
    ∷ script_lines
    ∷ []
