pub mod ListSteps
pub mod HistoryCuts
pub mod TicketLaws
pub mod PassLaws
pub mod SeatLaws
pub mod ClosingLaws
