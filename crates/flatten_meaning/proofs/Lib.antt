-- What is proved of flat tables. `Agreement` is the theorem: the words of a chart's flat table give every event the
-- chart's answer. It stands on three parts.
-- Of the words of any table: `Encoded`, they are read back; `Machine`, they are the table's machine, and its guards mean
-- what their literals say.
-- Of a chart's table: `Machines`, whose machines and states it has; `Together`, `Asked`, `Places`, `Placed`, which guards
-- it has and where; `Bounds`, how large it is; `Names`, what it names is there; `Kept`, its words keep 01's rules; `Small`,
-- they are words of 16 bits; `Turns`, one turn of each loop that writes them.
-- That it does what the chart does: `Simulated`. At a chart's own words the table takes the chart's steps: `Active`,
-- `Taken`, `Entered` what its guards say; `Quiet`, `Steps` the microstep. From words that agree where the chart looks, the
-- chart goes on alike: `Near`, `After`; and what history finds need not be stored: `Still`. `Lean`, `Lift` go from
-- microsteps to a macrostep, for any two machines. `Agreeing` finds agreement by looking at words.
-- `Laws`, `Sums`, `Rows`, `Stores` and `Children` serve all of them. `Aid`: the aid chart flattened.
pub mod Laws
pub mod Sums
pub mod Rows
pub mod Stores
pub mod Children
pub mod Encoded
pub mod Machine
pub mod Machines
pub mod Together
pub mod Asked
pub mod Places
pub mod Placed
pub mod Bounds
pub mod Names
pub mod Kept
pub mod Small
pub mod Turns
pub mod Active
pub mod Taken
pub mod Entered
pub mod Quiet
pub mod Steps
pub mod Near
pub mod After
pub mod Still
pub mod Lean
pub mod Lift
pub mod Simulated
pub mod Agreeing
pub mod Agreement
pub mod FlatTable
pub mod Aid
