-- The flat table of a chart. `Numbers`: which machine and flat state stands for what; `Tables`: flat tables as lists;
-- `Flattened`: the one that flattening makes of a chart; `Room`: how large it can be; `Encoded`: the words of a table.
-- `Agreement`: what it is that the words of a flat table give every event the chart's answer; `States`: from which states;
-- `FlatTable`: when words are the flat table of a chart; `Simulation`: the same of two machines, by which it is proved. `Opened` opens the definitions for examples; `Aid`: the aid
-- chart flattened.
pub mod Numbers
pub mod Tables
pub mod Flattened
pub mod Room
pub mod Encoded
pub mod Agreement
pub mod States
pub mod FlatTable
pub mod Simulation
pub mod Opened
pub mod Aid
