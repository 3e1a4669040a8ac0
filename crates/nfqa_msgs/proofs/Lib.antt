mod ContentLengths
pub mod Lengths
pub mod RequestRoundTrip
pub mod NoticeRoundTrip
mod MessageText
mod NoticeSpelling
pub mod PacketNotices
mod NoticeTexts
mod AtPlaces
mod Words
