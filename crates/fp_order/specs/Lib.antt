pub mod Orders
pub mod Matrix
pub mod Greedy
pub mod Grid
pub mod Numbers
