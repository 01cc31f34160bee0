-- The lemmas, by topic.
pub mod GroupedEdit
