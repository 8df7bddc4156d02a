pub mod ElementLemmas
pub mod UseLemmas
pub mod CauseLemmas
pub mod NumberLemmas
