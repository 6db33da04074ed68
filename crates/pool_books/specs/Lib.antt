pub mod Cleared
pub mod TrueAnswers
pub mod Index
pub mod Notes
pub mod Laws
pub mod Finished
pub use Rattle.signer_book.specs.Settled
