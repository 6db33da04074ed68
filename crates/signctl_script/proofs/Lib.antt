mod ItemsIn
mod PlainEvents
mod LineGood
mod NextLine
mod Closing
