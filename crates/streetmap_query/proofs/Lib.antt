pub mod NumberFacts
pub mod LimitFacts
pub mod BoundFacts
pub mod BoxTextFacts
pub mod PairFacts
pub mod TextFacts
pub mod QueryFacts
