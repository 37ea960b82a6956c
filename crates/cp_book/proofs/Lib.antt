pub mod RuleRuns
pub mod EmptyFacts
pub mod Commits
pub mod Ledger
pub mod Choices
pub mod Tautologies
