pub mod Entries
pub mod Calls
pub use Rattle.desk_parts.specs.Tables
pub use Rattle.sequential_signer.specs.Legal
pub use Rattle.sequential_signer.specs.Policy
pub use Rattle.sequential_signer.specs.Setup
pub use Rattle.sign_desk.specs.DeskState
