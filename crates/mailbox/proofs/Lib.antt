mod EndRoles
mod LetterCount
mod BareLetters
mod QueueRule
mod ReceiverFields
