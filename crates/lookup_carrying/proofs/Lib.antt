mod AllLinks
mod Entered
mod Steps
mod CarryAll
mod NeedsMeasured
