-- Words of a rule text, and how a text is split into them.
pub mod Word
pub mod Split
pub mod Width
pub mod Contract
