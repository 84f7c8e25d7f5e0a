-- The chart: `View` the words of a table and the chart that they show, `Readable` what reading them takes, `Shown` what a
-- table that can be read shows; `Tree` above, nearest and apart; `Literals`; `Aid` the aid chart.
pub mod View
pub mod Readable
pub mod Shown
pub mod Tree
pub mod Literals
pub mod Aid
