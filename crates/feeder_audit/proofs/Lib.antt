pub mod RowMeaning
pub mod Items
pub mod DeviceRows
pub mod HistoryWalk
pub mod LineTimes
pub mod FrameNumbers
pub mod AscendingTimes
pub mod Queues
