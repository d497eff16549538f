pub mod Places
pub mod StatedFeature
pub mod StatedGeometry
pub mod UsualGeometry
pub mod UsualMembers
pub mod UsualTexts
