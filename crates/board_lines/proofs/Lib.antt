-- The slices that the verdict is lent for its answer as text.
pub mod VerdictWritten
pub mod AnswerWritten
-- Texts written one behind the other.
pub mod WrittenTexts
