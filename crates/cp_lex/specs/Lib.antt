pub mod Quoted
pub mod Steps
pub mod Lexical
pub mod Tokens
pub mod Answers
pub mod Laws
