pub mod StoreLaws
pub mod ChangeLaws
