use Rattle.lives.specs.Events.{detects, happens as does_so}
use Rattle.book.specs.Law.{RunsOnBook}
use Rattle.store.specs.Plain.{plain}
use Rattle.book.specs.Moments.{opening, ending, detecting, editing, running}
use Rattle.lives.proofs.Lives.{call_does}
use Rattle.book.proofs.book.Book.perform.Goals as goal

pub returns-in-Open-clause-performed : goal.returns-in-Open-clause-performed
returns-in-Open-clause-performed g c = rw c.in-Open.is (record { event = _; happens = opening; does = call_does plain RunsOnBook c.open_apart.ensures })

pub returns-in-End-clause-performed : goal.returns-in-End-clause-performed
returns-in-End-clause-performed g c = rw c.in-End.is (record { event = _; happens = ending; does = call_does plain RunsOnBook c.end_by.ensures })

pub returns-in-Detect-clause-performed : goal.returns-in-Detect-clause-performed
returns-in-Detect-clause-performed g c = rw c.in-Detect.is (record { event = _; happens = detecting; does = detects c.detect.ensures.detects })

pub returns-in-Edit-clause-performed : goal.returns-in-Edit-clause-performed
returns-in-Edit-clause-performed g c = rw c.in-Edit.is (record { event = _; happens = editing; does = call_does plain RunsOnBook c.edit.ensures })

pub returns-in-Run-clause-performed : goal.returns-in-Run-clause-performed
returns-in-Run-clause-performed g c = rw c.in-Run.is (record { event = _; happens = running; does = does_so c.run_script.ensures.ran.does })
