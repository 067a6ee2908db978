-- Every observer agrees with the interval meaning of its formula (Theorem): its flows tick by tick, and its answers
-- over lists of calls. How its table ends, and how many memories it has.
pub mod Verdicts
pub mod Calls
pub mod Answers
pub mod Ends
pub mod Memories
pub mod Theorem
-- P1 to P13 and the further rows:
pub mod Trials
