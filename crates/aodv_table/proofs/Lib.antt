pub mod Lookups
pub mod RowLaws
pub mod IndexLaws
pub mod WholeRows
pub mod Changes
pub mod Searches
