mod IndexedLemmas
pub mod LeastLemmas
pub mod RowLemmas
