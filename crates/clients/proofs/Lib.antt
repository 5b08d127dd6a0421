mod Levels
mod Qubit
mod Steps
