pub mod Asking
mod Same
