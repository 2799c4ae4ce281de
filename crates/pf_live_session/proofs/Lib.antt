pub mod Events
pub mod Taken
pub mod Sessions
pub mod HeldSessions
pub mod StoppedSessions
pub mod Places
pub mod Results
pub mod GroupSessions
