pub mod ClosingLemmas
pub mod GraphLemmas
pub mod ReachLemmas
pub mod ReadersLemmas
pub mod RingLemmas
pub mod SearchLemmas
pub mod SortedLemmas
pub mod RootLemmas
