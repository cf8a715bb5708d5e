mod Healing
mod Pushed
mod Rounds
