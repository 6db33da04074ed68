pub mod Asking
pub mod Answer
pub mod Container
pub use Rattle.aws_json.specs.Reading
pub use Rattle.credentials.specs.Polled
pub use Rattle.sign_base.specs.Refusal
