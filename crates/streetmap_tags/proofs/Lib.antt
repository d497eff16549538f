pub mod NextChange
pub mod NoneLeftOut
