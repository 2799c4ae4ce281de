pub mod Groups
pub mod HistoryGrowth
pub mod PortDrives
pub mod MountOutcomes
pub mod AskRoutes
pub mod PortSteps
pub mod Words
pub mod CallNames
