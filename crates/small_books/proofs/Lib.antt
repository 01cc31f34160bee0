-- The lemmas, by topic.
mod TableLines
mod Detections
mod LoosenedJobs
mod Scripts
mod ScriptLines
mod Table
