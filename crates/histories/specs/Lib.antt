pub mod Calls
pub mod Rules
pub mod Histories
pub mod CallSteps
pub mod Machines
