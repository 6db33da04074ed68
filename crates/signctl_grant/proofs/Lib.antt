pub mod GrantForms
pub mod GrantGrammars
pub mod PlainGrants
pub mod NextLine
pub mod Closing
