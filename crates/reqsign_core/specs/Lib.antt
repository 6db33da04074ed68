pub use Rattle.credentials.specs.Polled
pub use Rattle.credentials.specs.Operation
pub use Rattle.sequential_signer.specs.Deadline
pub use Rattle.sign_base.specs.Moment
