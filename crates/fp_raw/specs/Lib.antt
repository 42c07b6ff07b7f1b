pub mod Raws
pub mod RawCodes
pub mod TypeView
pub mod TypeFalls
pub mod RawView
