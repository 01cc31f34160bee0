pub mod CommandLemmas
pub mod Reading
pub mod ScriptSimulation
pub mod CommandBytes
pub mod GroupCounts
pub mod ScriptCalls
