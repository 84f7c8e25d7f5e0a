-- `Said`: what an answer says in numbers, and a report's words after a call.
pub mod Said
