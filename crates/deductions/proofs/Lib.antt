-- The laws of the calls on a position, in reading order.
-- what a call is told, what it hands on and what it writes
pub mod Handed
pub mod Deductions
-- what specs/Calls.antt says of the calls: the lists are true, and enumeration's are complete
pub mod SoundCalls
-- where a call refuses with 6, in words of the position
pub mod Contradictions
-- what is answered can be read: counts are within the lists, and blocks fit
pub mod ReadableCalls
-- The cells between two places, parted.
pub mod PartedCells
