pub mod State
pub mod Beginning
pub mod History
pub mod Representation
pub mod Memory
pub mod Obeys
pub mod StateViews
pub mod TicketIds
