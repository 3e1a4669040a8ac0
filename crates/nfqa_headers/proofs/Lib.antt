pub mod LastContent
pub mod LastContents
