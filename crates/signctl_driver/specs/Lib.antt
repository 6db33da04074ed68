pub mod Command
pub mod Lines
pub mod LinesRead
pub mod Output
pub mod Law
pub mod Status
pub mod Serving
pub mod Run
pub mod LineOutcome
pub mod Streams
pub mod Reasons
pub use Rattle.sign_base.specs.Bytes
pub use Rattle.sign_io.specs.Faults
pub use Rattle.sign_io.specs.LineReader
pub use Rattle.sign_io.specs.Lines as SignIoLines
pub use Rattle.sign_io.specs.Next
