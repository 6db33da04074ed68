pub mod ReservedSet
pub mod FirstPlace
pub mod JoinedOn
pub mod EncodedPairs
pub mod SingleSpaced
pub mod NameText
pub mod HeaderGroups
pub mod SortedRows
