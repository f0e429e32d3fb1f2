mod Reasons
mod Linking
mod SharedLegs
