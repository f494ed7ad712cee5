-- The laws of a rule's answer as text: the writes that make it up.
pub mod RuleWritten
