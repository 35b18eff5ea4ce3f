pub mod Timetable
pub mod Chunks
pub mod Answers
