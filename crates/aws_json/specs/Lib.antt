pub mod Reading
pub mod Document
pub use Rattle.aws_credentials.specs.Found
