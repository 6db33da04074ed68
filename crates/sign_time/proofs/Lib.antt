pub mod CountingOff
pub mod CivilTime
pub mod DaysCounted
pub mod MomentReadBack
pub mod WholeSecond
pub mod CivilRead
