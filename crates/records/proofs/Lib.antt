-- Laws of the format of board records.
pub mod RecordKinds
