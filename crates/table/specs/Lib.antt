pub mod First
pub mod Layout
pub mod Rules
pub mod Verdict
pub mod Passing
pub mod Told
