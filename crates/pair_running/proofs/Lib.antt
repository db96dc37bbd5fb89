mod LocalPairBeginning
pub mod LocalPairCuts
pub mod LocalPairOneOutcome
mod LocalPairTalking
mod SpawnedPairBeginning
pub mod SpawnedPairCuts
mod SpawnedPairHonest
pub mod SpawnedPairLinks
mod SpawnedPairServing
mod GeneratedPairOutcomes
pub mod GeneratedPairRuns
pub mod HonestTalksBegun
pub mod HonestTalksCutting
pub mod HonestTalksForms
pub mod HonestTalksFronts
pub mod HonestTalksStanding
pub mod HonestTalksTalks
pub mod TalksExistAwaited
pub mod TalksExistBegun
pub mod TalksExistGrowing
pub mod TalksExistHonest
pub mod TalksExistLinks
pub mod TalksExistPieces
pub mod TalksExistServing
pub mod TalksExistTelling
pub mod MemoryTalksHanding
pub mod MemoryTalksHearing
pub mod MemoryTalksTalks
pub mod ServedPairsOneOutcome
pub mod ServedPairsCuts
pub mod ServedPairsSaying
pub mod ServedPairsTurning
pub mod ServedPairsHearing
pub mod ServedPairsPlaces
pub mod ServedPairsBeginning
