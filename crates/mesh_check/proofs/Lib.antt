pub mod Rights
pub mod Said
