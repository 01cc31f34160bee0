-- The table of small books, line by line.
use Rattle.std.proofs.Common.{◌≡◌, true, refl}
use Rattle.std.specs.List.{AllByRecursion}
use Rattle.small_books.specs.Facts.{Tells, Answers, Refuses, Reads, Marks, Holds, SmallBooksHold}
use Rattle.small_books.specs.Lines.{RunLine, CallLine, RefusalLine, ChartLine, ReductionLine}
use Rattle.small_books.specs.Table.{limit_lines, run_lines, b2_lines, request_lines, grant_lines, group_lines, chart_lines, reduction_lines, script_lines}
use Rattle.small_books.proofs.TableLines.{computes, computed_is_expected}
use Rattle.small_books.proofs.ScriptLines.{grant_is_refused, grant_can_be_refused, two_waits_are_told, two_waits_can_be_told}
use Rattle.small_books.proofs.LoosenedJobs.{loosens, computed_is_marked}
use Rattle.book.specs.Rules.{says, after}
use Rattle.book.specs.Plain.{plain}
use Rattle.chart.specs.Check.{checked, chart_rows}

limits_hold : AllByRecursion Holds limit_lines
limits_hold = (refl, (refl, (refl, (refl, (refl, (refl, (refl, (refl, (refl, (refl, (refl, (refl, (refl, (refl, tt))))))))))))))

-- Four rounds are enough for each run.
told : {a : RunLine} → computes 4 a ≡ true → Tells a
told {a} = computed_is_expected 4 a

runs_hold : AllByRecursion Holds run_lines
runs_hold = (told refl, (told refl, (told refl, (told refl, (told refl, (told refl, (told refl, (told refl, (told refl, tt)))))))))

answered : {c : CallLine} → says plain c.before c.call ≡ c.answer → (after plain c.before c.call).state.rows ≡ c.rows → Answers c
answered a r = record { answer = a; rows = r }

refused : {c : RefusalLine} → says plain c.before c.call ≡ c.answer → after plain c.before c.call ≡ c.before → Refuses c
refused a u = record { answer = a; unchanged = u }

b2_holds : AllByRecursion Holds b2_lines
b2_holds = (answered refl refl, (answered refl refl, (answered refl refl, (answered refl refl, (refused refl refl, (refused refl refl, tt))))))

requests_hold : AllByRecursion Holds request_lines
requests_hold = (refused refl refl, (refused refl refl, (refused refl refl, (refused refl refl, (refused refl refl, (refused refl refl, (refused refl refl, (refused refl refl, (refused refl refl, (refused refl refl, (refused refl refl, (answered refl refl, tt))))))))))))

grants_hold : AllByRecursion Holds grant_lines
grants_hold = (refused refl refl, (refused refl refl, (refused refl refl, (answered refl refl, tt))))

groups_hold : AllByRecursion Holds group_lines
groups_hold = (refused refl refl, (refused refl refl, (refused refl refl, (refused refl refl, (record { accepted = (refl, (refl, (refl, (refl, (refl, tt))))); rows = refl }, (record { accepted = (refl, (refl, (refl, (refl, (refl, (refl, tt)))))); rows = refl }, tt))))))

read : {c : ChartLine} → checked c.bytes ≡ c.answer → chart_rows c.bytes ≡ c.rows → Reads c
read a r = record { answer = a; rows = r }

charts_hold : AllByRecursion Holds chart_lines
charts_hold = (read refl refl, (read refl refl, (read refl refl, (read refl refl, (read refl refl, (read refl refl, tt))))))

-- And for each reduction.
marked : {r : ReductionLine} → loosens 4 r ≡ true → Marks r
marked {r} = computed_is_marked 4 r

reductions_hold : AllByRecursion Holds reduction_lines
reductions_hold = (marked refl, (marked refl, tt))

scripts_hold : AllByRecursion Holds script_lines
scripts_hold = (
  record { every = two_waits_are_told; some = two_waits_can_be_told },
  (record { every = grant_is_refused; some = (_, _, _, grant_can_be_refused) }, tt),
)

pub small_books_hold : SmallBooksHold
small_books_hold = (limits_hold, (runs_hold, (b2_holds, (requests_hold, (grants_hold, (groups_hold, (charts_hold, (reductions_hold, (scripts_hold, tt)))))))))
