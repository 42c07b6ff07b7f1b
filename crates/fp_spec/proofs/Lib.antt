pub mod Stems
pub mod Alone
pub mod Within
pub mod Missing
pub mod Fresh
pub mod Renamings
pub mod Lettering
