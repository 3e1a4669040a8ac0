mod Endings
mod WellFormedHistories
mod StopCauses
mod Commands
mod AuditAnswers
mod Statuses
