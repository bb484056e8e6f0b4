mod Statements
mod Turns
