pub mod Running
pub mod Copying
pub mod Turns
pub mod Cases
pub mod Laws
