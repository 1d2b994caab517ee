pub mod Rules
pub mod Answering
pub mod Node
pub mod NodeRules
pub mod Numbers
pub mod Reader
