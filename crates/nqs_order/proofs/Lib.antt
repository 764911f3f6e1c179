pub mod Candidates
pub mod CountsOfRows
pub mod FirstOfClasses
pub mod FirstOfLine
pub mod KeyedPlaces
pub mod PickedByIndex
pub mod Served
pub mod Walks
