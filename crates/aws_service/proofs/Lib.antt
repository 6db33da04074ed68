mod FirstPlace
mod Candidates
mod PollLeaves
mod SignedByPoll
mod OneCallMade
mod LongLinks
