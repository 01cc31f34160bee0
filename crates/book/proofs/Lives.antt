-- Whatever happens to a plain book happens to the history that it shows.
use Rattle.lives.proofs.Lives.{HappensToHistory, law_of_lives}
use Rattle.book.specs.Law.{RunsOnBook, RunsOnHistory, LawOfPlainBooks}
use Rattle.store.specs.Plain.{plain}
use Rattle.histories.specs.Machines.{history_machine}
use Rattle.scripts.proofs.GroupCounts.{of_history_counts}
use Rattle.scripts.proofs.ScriptCalls.{scripted_counts}
use Rattle.scripts.proofs.ScriptSimulation.{scripted_so}

-- scripts do
pub scripts_follow : HappensToHistory plain RunsOnBook RunsOnHistory
scripts_follow t s s' h r w k =
    let f = scripted_so t r.before r.after r.script r.answer w k in
    (f.0, record { does = f.1; counts = scripted_counts (history_machine plain t) (of_history_counts plain t) r.before r.after r.script r.answer f.1 }, f.2)

pub law_of_plain_books : LawOfPlainBooks
law_of_plain_books = law_of_lives plain RunsOnBook RunsOnHistory scripts_follow
