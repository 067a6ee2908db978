-- Laws of equation tables: tests, kinds by their numbers, and the check.
pub mod Tests
pub mod Numbers
pub mod Checks
-- Memories counted:
pub mod Rows
