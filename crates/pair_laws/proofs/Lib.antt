pub mod ServedBodiesBody
pub mod ServedBodiesCalled
pub mod ServedBodiesEnded
pub mod ServedBodiesHosts
pub mod ServedBodiesMemory
pub mod ServedBodiesOutermost
pub mod ServedBodiesRuns
pub mod ServedBodiesServed
pub mod ServedBodiesWork
pub mod AdmittedCallsJudged
pub mod AdmittedCallsNumbers
pub mod AdmittedCallsRuled
pub mod PairCallsAsked
pub mod PairCallsCalls
pub mod PairCallsGoing
pub mod PairCallsScenes
pub mod PairStartBegun
pub mod PairStartGlobals
pub mod PairStartHosts
pub mod PairStartPairs
pub mod KeptSlavesKept
pub mod PairStepsLate
pub mod PairStepsLive
pub mod PairStepsOrders
pub mod PairStepsPair
pub mod PairStepsProper
pub mod PairStepsServing
pub mod AwaitedRepliesAwaited
mod AwaitedRepliesFacts
mod AwaitedRepliesGrowing
mod AwaitedRepliesTaking
pub mod AcceptedPairsExpected
mod RevealedMemoryMemories
mod RevealedMemoryRevealed
mod BegunPairsBegun
