pub mod CallGrowth
pub mod PortRules
pub mod RisingTerms
pub mod BetweenSteps
pub mod PortReplies
pub mod PortSteps
pub mod WorkedPorts
mod RehomedPorts
