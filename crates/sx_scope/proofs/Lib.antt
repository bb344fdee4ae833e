mod Equations
mod Innermost
mod Turns
