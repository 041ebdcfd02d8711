pub mod DeviceLaws
pub mod EachText
pub mod FaultOrder
pub mod KeyLemmas
pub mod PairLemmas
pub mod Valid
