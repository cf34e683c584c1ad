mod Held
mod Changes
mod Settling
mod Keeping
mod Ordered
mod Apart
