pub mod Cutting
pub mod Laws
