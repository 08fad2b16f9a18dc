pub mod Forms
pub mod InMesh
pub mod Told
pub mod Completes
