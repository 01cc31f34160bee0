-- What the contracts cite, so that a client lists this crate alone. A page whose name would say too little here, or that
-- another has, is handed on by one that tells it apart.

-- Rows and tables of waits.
pub use Rattle.rows.specs.Waiting
pub use Rattle.rows.specs.Law as RowLaw
pub use Rattle.rows.specs.LawFacts
pub use Rattle.rows.specs.Changes
pub use Rattle.rows.specs.Places
pub use Rattle.rows.specs.StoredRows
pub use Rattle.tables.specs.Waits
pub use Rattle.tables.specs.Tables
pub use Rattle.tables.specs.declared.table.TheConstants as TableConstants
pub use Rattle.tables.specs.Grants
pub use Rattle.tables.specs.ClosedSets
pub use Rattle.tables.specs.Walks
-- Groups, calls and histories.
pub use Rattle.groups.specs.declared.store.TheConstants as GroupConstants
pub use Rattle.groups.specs.State
pub use Rattle.groups.specs.History
pub use Rattle.groups.specs.Representation
pub use Rattle.histories.specs.Calls
pub use Rattle.histories.specs.Rules
pub use Rattle.histories.specs.Histories
pub use Rattle.histories.specs.CallSteps
pub use Rattle.histories.specs.Machines
-- The plain book, its tickets and its scripts.
pub use Rattle.store.specs.Creation
pub use Rattle.store.specs.Faults as BookFaults
pub use Rattle.store.specs.Plain
pub use Rattle.store.specs.Snapshots
pub use Rattle.store.specs.Replies
pub use Rattle.book.specs.Tickets
pub use Rattle.scripts.specs.Commands
pub use Rattle.scripts.specs.Workspace
pub use Rattle.scripts.specs.declared.run.TheConstants as ScriptConstants
pub use Rattle.scripts.specs.declared.answer.TheConstants as AnswerConstants
pub use Rattle.scripts.specs.ScriptCalls
pub use Rattle.scripts.specs.ScriptFaults
pub use Rattle.scripts.specs.ScriptRuns
pub use Rattle.scripts.specs.Scripts
-- Carriers, the exchange and the detection.
pub use Rattle.carriers.specs.Faults as CarrierFaults
pub use Rattle.carriers.specs.Carriers
pub use Rattle.carriers.specs.Meaning
pub use Rattle.carriers.specs.Messages
pub use Rattle.carriers.specs.CountedCarriers
pub use Rattle.carriers.specs.Picks
pub use Rattle.exchange.specs.Limits as ExchangeLimits
pub use Rattle.exchange.specs.Bounds
pub use Rattle.exchange.specs.Records
pub use Rattle.exchange.specs.Rules as ExchangeRules
pub use Rattle.exchange.specs.Runs
pub use Rattle.exchange.specs.Verdicts
pub use Rattle.detection.specs.Detected
-- Charts and the reduction.
pub use Rattle.chart.specs.declared.bytes.TheConstants as ChartConstants
pub use Rattle.chart.specs.Check
pub use Rattle.chart.specs.Faults as ChartFaults
pub use Rattle.chart.specs.Layout
pub use Rattle.chart.specs.Views as ChartViews
pub use Rattle.chart.specs.Writing
pub use Rattle.reduction.specs.Faults as ReductionFaults
pub use Rattle.reduction.specs.Reduced
-- Whole lives.
pub use Rattle.lives.specs.Events
pub use Rattle.lives.specs.Law as LifeLaw
pub use Rattle.book.specs.Law
pub use Rattle.book.specs.Grants as BookGrants
pub use Rattle.book.specs.Moments
-- The types.
pub use Rattle.exchange.specs.declared.record.RunRecord
pub use Rattle.scripts.specs.declared.fault.FinishedScript
pub use Rattle.scripts.specs.declared.fault.ScriptFault
pub use Rattle.scripts.specs.declared.fault.StoppedScript
