-- The lemmas, by topic.
mod Rows
mod Scans
mod CheckedCharts
mod WritingLemmas
