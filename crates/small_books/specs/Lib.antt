-- Small books: what the exchange, the reduction and the check of charts tell of them, what they answer to calls, and what scripts do to them.
pub mod Books
pub mod Lines
pub mod Table
pub mod Facts
