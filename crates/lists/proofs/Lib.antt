-- The laws of the words about lists and tests, from the answers of tests to arrays.
pub mod Tests
pub mod Members
pub mod Counts
pub mod Elements
pub mod All
pub mod FirstPlaces
pub mod Rearranged
pub mod Unions
pub mod AddNew
pub mod Kept
pub mod Occurrences
pub mod CountsAlike
pub mod Backwards
pub mod Sharing
pub mod Joined
pub mod PlacesAndRanges
pub mod Paired
-- elements of any type: where a test passes, lists among others, lists turned round, lists of elements one after another, lists compared and parted
pub mod PassingElements
pub mod Among
pub mod TurnedRound
pub mod ListsOfElements
pub mod PartedLists
-- arrays with a count, and loops over a list
pub mod Arrays
pub mod Counted
pub mod Collected
pub mod Stores
pub mod Rotated
pub mod Storing
pub mod Loops
pub mod ByItems
pub mod StoredAndKept
pub mod ReadBack
pub mod LentParts
