pub mod Workspace
pub mod Commands
pub mod ScriptFaults
pub mod Scripts
pub mod Reading
pub mod RunningScripts
pub mod ScriptCalls
pub mod ScriptRuns
