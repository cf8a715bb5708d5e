mod Heard
mod LineFacts
mod Orders
mod Visiting
mod Words
