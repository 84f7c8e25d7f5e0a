-- `Parts`: the sections that tell the guards; `Penned`: guards laid into one of them.
pub mod Parts
pub mod Penned
