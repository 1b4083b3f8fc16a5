mod Exchanged
mod OldRows
mod Seeking
mod Blocks
