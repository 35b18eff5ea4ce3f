-- The chunks of a timetable are the timetable.
pub mod Lines
pub mod Given
pub mod Whole
