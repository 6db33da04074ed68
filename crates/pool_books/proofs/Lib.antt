pub mod Joined
pub mod Tickets
mod CheckOffSteps
pub mod Indexes
pub mod CallNotes
mod Balances
mod NotedAnswers
mod BooksRead
pub mod Signed
