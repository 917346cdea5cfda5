mod Marking
mod Covered
pub mod Sets
mod Pruning
mod Abreast
mod Checked
mod Picking
mod Searching
mod Links
pub mod Choosing
mod Firsts
mod Walking
pub mod Avoiding
mod Standings
mod Fronts
mod FirstPlaces
mod Retracting
mod Roots
mod Combining
mod Columns
