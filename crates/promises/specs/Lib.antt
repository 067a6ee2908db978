-- What towerwatch promises.
pub mod Promises
