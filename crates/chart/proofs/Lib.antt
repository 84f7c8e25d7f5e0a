-- Laws of what specs/ defines. On any words at all: `Within` of being at or above a state, `Meeting` of where two states
-- meet. Where parents have smaller numbers: `Tree` of above, nearest and apart.
pub mod Within
pub mod Meeting
pub mod Tree
