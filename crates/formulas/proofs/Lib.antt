-- Laws on trees, their records and formulas, the parameters that they name (Records, Named, Alike), and laws that pin
-- the interval meaning (Meaning, Laws, Only).
pub mod Arena
pub mod Records
pub mod Formulas
pub mod Named
pub mod Alike
pub mod Laws
pub mod Meaning
pub mod Only
pub mod Trials
