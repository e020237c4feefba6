pub mod FlagEdges
pub mod SpanLaws
