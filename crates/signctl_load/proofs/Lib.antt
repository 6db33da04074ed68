mod LoadSteps
mod PlayedEvents
mod LoadLengths
mod LoadCounts
