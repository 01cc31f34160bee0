mod Outcomes
mod Pieces
