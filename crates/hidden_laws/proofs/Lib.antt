mod BegunBootsBegun
pub mod HiddenRunsBegun
pub mod HiddenRunsEntries
pub mod HiddenRunsLow
pub mod HiddenRunsStreams
pub mod HiddenRunsTables
pub mod HiddenRunsViews
pub mod HiddenBodiesBodies
