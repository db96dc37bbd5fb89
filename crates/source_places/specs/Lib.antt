-- What a reader has to believe: lines and columns, and how they are shown.
pub mod Places
pub mod Shown
pub mod Excerpts
pub mod Heads
pub mod LinesSeen
-- What code keeps; no public clause speaks of it.
pub mod Starts
