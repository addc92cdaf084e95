pub mod Renditions
pub mod Tables
pub mod Selecting
pub mod Decoding
pub mod Setting
