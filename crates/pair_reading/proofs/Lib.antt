mod Checking
mod Answering
mod Halves
