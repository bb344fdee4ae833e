mod Cuts
mod Choices
mod Lexing
mod Reached
mod Behind
mod Longest
mod Verdicts
