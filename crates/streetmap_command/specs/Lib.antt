pub mod CommandView
pub mod Program
pub mod Topics
