-- Start here. `Calls`: what each call promises; `Theorems`: what is proved of the promises.
pub mod Calls
pub mod Theorems
