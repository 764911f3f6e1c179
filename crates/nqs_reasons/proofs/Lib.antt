pub mod Failing
pub mod Next
pub mod Tried
pub mod Picks
pub mod Said
pub mod Texts
