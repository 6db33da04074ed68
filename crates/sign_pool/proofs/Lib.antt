mod Lasts
mod OwnCalls
mod SettledCalls
mod Finishing
