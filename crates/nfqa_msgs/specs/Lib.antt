pub mod Numbers
pub mod RequestReading
pub mod RequestWriting
pub mod NoticeWriting
pub mod Telling
pub mod NoticeReading
pub mod NoticeMeaning
pub mod NoticeTexts
mod Pieces
pub mod SameRequests
pub mod RequestEquality
