pub mod ConflictLemmas
pub mod HintLemmas
pub mod StatusLemmas
pub mod VerdictLemmas
