pub mod BegunBootsLaws
pub mod HiddenRunsLaws
pub mod HiddenRunsRuns
pub mod HiddenBodiesLaws
