pub mod SimulationLemmas
pub mod BookBesideHistory
pub mod CallLemmas
pub mod TicketIdAnswers
