-- Module text: characters, tokens, statements, and what is told of a text that spells none.
pub mod Text
pub mod Token
pub mod Statement
pub mod Spelling
pub mod Slips
pub mod Scanning
pub mod SpellingExamples
pub mod TextSamples
