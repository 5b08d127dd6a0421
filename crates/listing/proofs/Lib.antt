pub mod Budget
mod Counted
mod Cutting
mod Ending
mod Listed
mod Plain
mod Journal
mod Played
pub mod Room
mod Shapes
pub mod Silent
mod Texts
