-- Set-up, planned and carried out; that a plan is what follows the gate, makes the tables ready, and is carried out as it is
-- defined; and the calls on a whole account.
pub mod Carried
pub mod Fresh
pub mod Places
pub mod Planned
pub mod Readied
pub mod Wholes
