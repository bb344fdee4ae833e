pub mod Claims
pub mod Rules
pub mod Laws
pub mod Trees
pub mod CallRules
pub mod LiteralRules
pub mod Endings
