-- The agreement of an observer's answers with the interval meaning.
pub mod Agreement
pub mod Trials
