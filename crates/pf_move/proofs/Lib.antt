pub mod RouteFields
pub mod MoverCalls
