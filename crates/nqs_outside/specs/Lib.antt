pub mod Causes
pub mod History
pub mod Memory
pub mod Told
pub mod Asked
pub mod Streams
pub mod Reads
