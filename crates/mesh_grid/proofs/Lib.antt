mod Words
mod PlaceLines
mod Changes
pub mod PlaceSteps
pub mod PlaceRuns
pub mod PlacedRunStates
pub mod LinkLaws
mod PlaceWords
