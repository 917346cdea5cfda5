mod Coverings
mod Witnesses
mod Tidyings
