-- Pieces of a list, one behind the other.
pub use Rattle.nqs_records.proofs.Joined.{joined}
