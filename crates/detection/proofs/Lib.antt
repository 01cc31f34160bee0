-- The lemmas, by topic.
mod Checks
mod SendLemmas
mod Acts
mod RunInvariant
mod Verdicts
mod FinishedRuns
