pub mod NamesInList
pub mod PlainNames
pub mod OneForm
pub mod SoleValues
pub mod SignedHeaders
pub mod HeadFound
pub mod FormRead
