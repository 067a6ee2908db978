-- What the interval meaning and the equation tables share: ticks, and counts compared with numbers.
pub mod Trace
pub mod Compare
pub mod Parameters
