pub mod Process
pub mod Words
pub mod CommandLine
pub mod ProfileProcess
pub use Rattle.credentials.specs.Polled
