-- The rounds of the definition and what they tell; and how they grow by a position, as the code gives them.
pub mod Rounds
pub mod GivenRounds
