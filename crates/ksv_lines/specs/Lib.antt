-- The definitions of lines, words, messages and the program's command line.
pub mod Lines
pub mod Digits
pub mod Messages
pub mod Words
