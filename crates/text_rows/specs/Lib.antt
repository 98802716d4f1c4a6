pub mod TriedAnswerText
