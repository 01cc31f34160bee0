pub mod Law
pub mod Grants
pub mod Moments
pub mod LifeSteps
pub mod Tickets
-- What the contracts of a book cite from the rooms below, so that a client has to list none of these.
pub use Rattle.histories.specs.Calls
pub use Rattle.histories.specs.Rules
pub use Rattle.histories.specs.Histories
pub use Rattle.histories.specs.CallSteps
pub use Rattle.histories.specs.Machines
pub use Rattle.store.specs.Creation
pub use Rattle.store.specs.Plain
pub use Rattle.store.specs.declared.fault.BookFault
pub use Rattle.scripts.specs.Commands
pub use Rattle.scripts.specs.Workspace
pub use Rattle.scripts.specs.declared.run.TheConstants as ScriptConstants
pub use Rattle.scripts.specs.declared.answer.TheConstants as AnswerConstants
pub use Rattle.scripts.specs.ScriptCalls
pub use Rattle.scripts.specs.ScriptFaults
pub use Rattle.scripts.specs.ScriptRuns
pub use Rattle.scripts.specs.Scripts
pub use Rattle.scripts.specs.declared.fault.FinishedScript
pub use Rattle.scripts.specs.declared.fault.ScriptFault
pub use Rattle.scripts.specs.declared.fault.StoppedScript
pub use Rattle.scripts.specs.declared.tally.Position
