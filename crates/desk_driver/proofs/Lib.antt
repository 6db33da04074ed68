pub mod Rows
pub mod CallNumbers
pub mod Looks
pub mod LoadAnswers
pub mod ObjectMeanings
pub mod CallSteps
pub mod KeptCalls
pub mod NumberedCalls
