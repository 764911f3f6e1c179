pub mod PromiseFits
