-- Laws of stored records carried over.
pub mod Fronts
pub mod MigratedRecords
pub mod Walks
pub mod WholeInput
pub mod KeptBytes
pub mod CarriedRecords
pub mod MigratedParts
pub mod CutAnywhere
pub mod Examples
pub mod JudgedAsStored
pub mod MigratedVerdicts
