pub mod Counting
pub use Rattle.logbook.specs.Pages
