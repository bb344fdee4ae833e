pub mod Classes
pub mod Value
pub mod Grammar
pub mod Rules
pub mod Answer
pub mod Lexemes
