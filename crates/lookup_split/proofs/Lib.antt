mod EnterAt
mod Planned
mod WholeCall
