pub mod Encoding
pub mod CanonicalTarget
pub mod EncodedPairs
pub mod CanonicalHeaders
pub mod CanonicalRequest
pub mod SortedHeaders
pub mod SingleSpaced
