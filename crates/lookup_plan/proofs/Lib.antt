mod Asking
mod ListDecided
