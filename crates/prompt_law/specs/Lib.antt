pub mod PromptGates
pub mod Laws
pub use Rattle.sequential_signer.specs.Policy
