pub mod Judge
pub mod Decision
