mod Occurrences
mod Steps
mod NoticeAnswers
mod Trays
