pub mod Answering
pub mod CalmSearch
pub mod SpanningRoutes
pub mod SpanningWires
pub mod WideChannels
