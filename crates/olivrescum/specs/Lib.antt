-- Start here. `Promises`: what each public call promises; `Theorems`: what is proved of the promises themselves.
pub mod Promises
pub mod Theorems
