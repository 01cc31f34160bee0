-- The waits of a table: how many there are, and who waits for a job.
use Rattle.std.specs.Prelude.{ℕ, ◌+◌, cond, List, [], ◌∷◌, length, sum_by}
use Rattle.rows.specs.Waiting.{Waiting, among}

-- How many waits a table has: every target in every row is one.
abbrev pub waits : List Waiting → ℕ
waits rows = sum_by (λ (w : Waiting). length w.targets) rows

-- The jobs whose rows wait for u, by rising number; `job` is the job of the first row.
abbrev pub waiters_from : (job u : ℕ) → List Waiting → List ℕ
waiters_from job u [] = []
waiters_from job u (w ∷ ws) = cond (among u w.targets) (job ∷ waiters_from (job + 1) u ws) (waiters_from (job + 1) u ws)

-- Who waits for u.
abbrev pub waiters : List Waiting → ℕ → List ℕ
waiters rows u = waiters_from 0 u rows
