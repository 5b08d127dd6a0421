pub mod Joins
pub mod Laying
pub mod Pieces
pub mod Tables
