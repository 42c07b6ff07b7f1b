pub mod Declarations
pub mod Subterms
pub mod Rules
pub mod Drafts
pub mod Draws
pub mod Binding
pub mod Clash
pub mod Posed
