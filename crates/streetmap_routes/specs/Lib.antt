pub mod Routes
pub mod ChangesQuery
pub mod ChangesView
pub mod Operations
pub mod OperationView
pub mod BaseUrl
pub mod BaseView
pub mod Paths
