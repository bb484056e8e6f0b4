mod Recording
mod Telling
