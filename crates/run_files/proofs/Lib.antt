mod LineTexts
mod ReaderAnswers
mod TextParts
